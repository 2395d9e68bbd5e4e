use Rattle.std.proofs.Common.{rules, ◌∙◌, List, map, subst, sym}
use Rattle.std.specs.Prelude.{IsPermutation, IsTrue}
use Rattle.std.proofs.lemmas.List.Sorted.{IsPermutation-map}
use Rattle.mig_model.specs.Names.{Ascends, AscendBy}
use Rattle.mig_model.proofs.Rising.{ascend_by, by_ascends}
use Rattle.mig_model.specs.Template.{fields_of}
use Rattle.mig_model.specs.TemplateKept.{FieldsKept}
use Rattle.mig_model.specs.Record.{IsOrderOf}
use Rattle.mig_template.specs.View.{field_of}
use Rattle.mig_template.specs.declared.fields.Field.{Field}
use Rattle.mig_template.proofs.Names.{keys_moved}
use Rattle.mig_template.proofs.Sorted.{twice_if_not, once_if_ascends}
use Rattle.mig_template.proofs.ordering.order_fields.Goals as goal

pub returns-then-not-ascends-clause-twice : goal.returns-then-not-ascends-clause-twice
returns-then-not-ascends-clause-twice c =
    let before = c.args.list.items in
    let after = c.sort_by_key.new.list.items in
    let moved : IsPermutation (map field_of before) (map field_of after) = IsPermutation-map field_of before after c.sort_by_key.ensures.permutation in
    keys_moved (map field_of before) (map field_of after) moved
    ∙ twice_if_not field_of after c.sort_by_key.ensures.sorted
    (λ rises. let told : IsTrue c.ascends.result = c.ascends.ensures.1 (subst (λ (l : List Field). AscendBy (λ x. x.name) l) (sym c.deref.ensures.value) (ascend_by field_of after rises)) in absurd cc)

pub new-requires : goal.new-requires
new-requires c =
    let after = c.sort_by_key.new.list.items in
    let rises : Ascends (map field_of after) = by_ascends field_of after (subst (λ (l : List Field). AscendBy (λ x. x.name) l) c.deref.ensures.value (c.ascends.ensures.0 (search rules))) in
    (rises, subst (λ (l : List Field). FieldsKept (fields_of (map field_of l))) c.deref-2.ensures.value c.fields_are_kept.ensures.kept)

pub returns-clause-found : goal.returns-clause-found
returns-clause-found c =
    let before = c.args.list.items in
    let after = c.sort_by_key.new.list.items in
    let rises : Ascends (map field_of after) = by_ascends field_of after (subst (λ (l : List Field). AscendBy (λ x. x.name) l) c.deref.ensures.value (c.ascends.ensures.0 (search rules))) in
    subst (IsOrderOf (map field_of before)) (sym c.new.ensures) (record { same = IsPermutation-map field_of before after c.sort_by_key.ensures.permutation; ascend = rises })

pub returns-clause-once : goal.returns-clause-once
returns-clause-once c =
    let before = c.args.list.items in
    let after = c.sort_by_key.new.list.items in
    let rises : Ascends (map field_of after) = by_ascends field_of after (subst (λ (l : List Field). AscendBy (λ x. x.name) l) c.deref.ensures.value (c.ascends.ensures.0 (search rules))) in
    keys_moved (map field_of before) (map field_of after) (IsPermutation-map field_of before after c.sort_by_key.ensures.permutation) ∙ once_if_ascends (map field_of after) rises
