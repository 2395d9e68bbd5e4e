use Rattle.std.proofs.Common.{◌≡◌, ◌∙◌, true, false, map, List, sym, ap}
use Rattle.std.specs.Map.{keys_of}
use Rattle.mig_model.specs.Names.{has_twice, those}
use Rattle.mig_model.specs.Template.{Field}
use Rattle.mig_template.specs.View.{field_of}
use Rattle.mig_template.proofs.Sorted.{once_if_ascends}
use Rattle.mig_model.proofs.Edits.{ascends-those}
use Rattle.mig_func.proofs.Nesting.{inner_is}
use Rattle.mig_func.proofs.Outcomes.{fault_is}
use Rattle.mig_func.proofs.nests.inner.Goals as goal

pub returns-in-Ok-clause-made : goal.returns-in-Ok-clause-made
returns-in-Ok-clause-made c =
    inner_is (those c.args.names.now c.args.fields.now) (map field_of c.in_ok-list.list.items) c.in-Ok.record (ascends-those c.args.names.now c.args.fields.now c.in_ok-list.ensures.ascend) c.in_ok-list.ensures.list c.in-Ok.ensures.made

pub returns-in-Err-clause-fit : goal.returns-in-Err-clause-fit
returns-in-Err-clause-fit c =
    let es : List Field = map field_of c.in_ok-list.list.items in
    let ds : List Field = those c.args.names.now c.args.fields.now in
    let once : has_twice (keys_of es) ≡ false = ap (λ (l : List Field). has_twice (keys_of l)) c.in_ok-list.ensures.list ∙ once_if_ascends ds (ascends-those c.args.names.now c.args.fields.now c.in_ok-list.ensures.ascend) in
    fault_is c.in-Err.fault (has_twice (keys_of es) ≡ true) (true ≡ false) (λ h. sym h ∙ once) c.in-Err.ensures.misfit
