use Rattle.std.proofs.Common.{◌≡◌, ◌∙◌, List, map, Option, Some, sym, ap, subst}
use Rattle.std.specs.Prelude.{IfOk, option_map}
use Rattle.mig_value.specs.Typed as typed
use Rattle.mig_value.specs.View.{typed_of, slot_of}
use Rattle.mig_value.specs.declared.value.Value.{Value}
use Rattle.mig_value.specs.declared.value.Value.TheVariants as V
use Rattle.mig_value.proofs.Views.{slots_again}
use Rattle.mig_model.specs.Names.{put_all}
use Rattle.mig_action.specs.Moves.{inner_slots}
use Rattle.mig_slots.proofs.nesting.with_inner.Goals as goal

pub returns-in-Some-Rec : goal.returns-in-Some-Rec
returns-in-Some-Rec c =
    let r = c.in-Some-Rec.record in
    let value : c.args.value ≡ Some (V.Rec r) = cc in
    let fields : c.into_parts-fields.result.0 ≡ inner_slots (option_map typed_of c.args.value) =
    c.into_parts-fields.ensures.fields ∙ sym (slots_again r.fields) ∙ sym (ap (λ (o : Option Value). inner_slots (option_map typed_of o)) value) in
    subst (λ (ns : List typed.Slot). IfOk c.merged.result (λ v. map slot_of v.items ≡ put_all ns (map slot_of c.args.slots.items))) fields c.merged.ensures
