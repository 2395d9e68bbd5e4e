use Rattle.std.proofs.Common.{◌≡◌, ◌∙◌, ◌&&◌, sym, ap}
use Rattle.std.specs.List.{list_all}
use Rattle.std.specs.Map.{values_of}
use Rattle.mig_template.specs.View.{template_of}
use Rattle.mig_lift.specs.Small.{is_must_leaf, is_flat_record}
use Rattle.mig_lift.proofs.Flat.{flat_is}
use Rattle.mig_lift.proofs.small.is_flat_record.Goals as goal

pub returns-then-is_open_record : goal.returns-then-is_open_record
returns-then-is_open_record c =
    let p = c.in-Rec.record in
    let leaves : c.are_must_leaves.result ≡ list_all is_must_leaf (values_of p.fields) = c.are_must_leaves.ensures ∙ ap (λ fs. list_all is_must_leaf (values_of fs)) (c.as_slice.ensures.fields ∙ c.fields.ensures) in
    leaves ∙ ap (λ b. b && list_all is_must_leaf (values_of p.fields)) (sym c.if-is_open_record.true ∙ c.is_open_record.ensures) ∙ sym (flat_is p) ∙ ap (λ t. is_flat_record (template_of t)) (sym c.in-Rec.is)
