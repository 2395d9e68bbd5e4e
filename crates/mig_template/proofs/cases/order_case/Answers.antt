use Rattle.std.proofs.Common.{◌∙◌, ◌∷◌, List, map, sym, ap}
use Rattle.std.specs.List.{list_any}
use Rattle.std.specs.Map.{keys_of}
use Rattle.mig_model.specs.Template.{Field}
use Rattle.mig_model.specs.Names.{is_among}
use Rattle.mig_template.specs.View.{field_of}
use Rattle.mig_template.proofs.Names.{taken_in, twice_in_more}
use Rattle.mig_template.proofs.cases.order_case.Goals as goal

pub returns-then-is_any_taken-clause-twice : goal.returns-then-is_any_taken-clause-twice
returns-then-is_any_taken-clause-twice c =
    let others = c.args.tag.now ∷ keys_of c.args.common.now in
    let given : List Field = map field_of c.args.fields.items in
    taken_in given c.in-Some.fields others c.in-Some.ensures.found.same c.in-Some.ensures.once c.requires
    ∙ ap (λ (fs : List Field). list_any (is_among others) (keys_of fs)) (sym c.as_slice.ensures.fields) ∙ sym c.is_any_taken.ensures ∙ c.if-is_any_taken.true

pub returns-else-is_any_taken-clause-once : goal.returns-else-is_any_taken-clause-once
returns-else-is_any_taken-clause-once c =
    let others = c.args.tag.now ∷ keys_of c.args.common.now in
    let given : List Field = map field_of c.args.fields.items in
    taken_in given c.in-Some.fields others c.in-Some.ensures.found.same c.in-Some.ensures.once c.requires
    ∙ ap (λ (fs : List Field). list_any (is_among others) (keys_of fs)) (sym c.as_slice.ensures.fields) ∙ sym c.is_any_taken.ensures ∙ c.if-is_any_taken.false

pub returns-in-None-clause-twice : goal.returns-in-None-clause-twice
returns-in-None-clause-twice c =
    let given : List Field = map field_of c.args.fields.items in
    twice_in_more (keys_of given) (c.args.tag.now ∷ keys_of c.args.common.now) c.in-None.ensures.twice
