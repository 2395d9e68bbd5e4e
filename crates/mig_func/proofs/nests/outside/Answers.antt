use Rattle.std.proofs.Common.{rules, ◌≡◌, ◌∙◌, ◌++◌, Bool, false, Option, None, map, sym, ap, arith}
use Rattle.std.specs.Prelude.{is_some, option_map}
use Rattle.mig_model.specs.Template.{no_choice}
use Rattle.mig_model.specs.Record.{choice_of}
use Rattle.mig_template.specs.View.{field_of}
use Rattle.mig_template.proofs.Sorted.{once_if_ascends}
use Rattle.mig_model.specs.Names.{without}
use Rattle.mig_field.specs.NewRecord.{unnested}
use Rattle.mig_func.proofs.Nesting.{unnest_offers}
use Rattle.mig_func.proofs.nests.outside.Goals as goal

nothing : {A B : Type 0} (o : Option A) (f : A → B) (b : Bool) → b ≡ is_some o → b ≡ false → option_map f o ≡ None
nothing o f b h k = grind arith

pub returns-clause-offers : goal.returns-clause-offers
returns-clause-offers c r =
    let y = c.args.name.now in
    let fs = c.args.fields.now in
    let p = c.args.presence in
    let inner = c.args.inner.now in
    let told : c.is_some.result ≡ false = search rules in
    let none : choice_of inner.choice ≡ no_choice = ap choice_of (sym c.choice.ensures ∙ nothing c.choice.result (λ d. d.now) c.is_some.result c.is_some.ensures told) in
    unnest_offers r y p inner.fields (choice_of inner.choice) inner.rest fs (map field_of c.in_ok-list-2.list.items) c.in_ok-list.ensures.ascend none c.requires
    (once_if_ascends inner.fields c.keeps.ensures.0.fields)
    (c.in_ok-list-2.ensures ∙ (λ i. (c.in_ok-list.ensures.list ∙ ap (λ n. without n fs) c.bytes.ensures) i ++ map (unnested p) (c.fields.ensures i)))
