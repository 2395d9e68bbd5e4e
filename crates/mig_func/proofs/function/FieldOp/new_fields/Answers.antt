use Rattle.std.proofs.Common.{◌≡◌, None, map, subst}
use Rattle.mig_field.specs.NewRecord.{at_field}
use Rattle.mig_template.specs.View.{field_of}
use Rattle.mig_func.specs.New.{Offers, OffersList, Refuses}
use Rattle.mig_func.specs.Slot.{slot_after}
use Rattle.mig_func.specs.View.{field_op_of}
use Rattle.mig_func.proofs.Outcomes.{ok_at, fault_at}
use Rattle.mig_func.proofs.function.FieldOp.new_fields.Goals as goal

pub returns-in-Rename : goal.returns-in-Rename
returns-in-Rename c = record {
  offers = ok_at (λ op es. Offers (field_op_of op) c.args.rest c.args.fields.now (map field_of es.items)) _ _ _ c.rename_field.result c.in-Rename.is (λ es h. h c.args.rest) c.rename_field.ensures.offers;
  misfit = fault_at (λ op. Refuses (field_op_of op) c.args.rest c.args.fields.now) _ _ _ c.rename_field.result c.in-Rename.is (λ h. h c.args.rest) c.rename_field.ensures.misfit;
}

pub returns-in-Drop : goal.returns-in-Drop
returns-in-Drop c = record {
  offers = ok_at (λ op es. Offers (field_op_of op) c.args.rest c.args.fields.now (map field_of es.items)) _ _ _ c.drop_field.result c.in-Drop.is (λ es h. h c.args.rest) c.drop_field.ensures.offers;
  misfit = fault_at (λ op. Refuses (field_op_of op) c.args.rest c.args.fields.now) _ _ _ c.drop_field.result c.in-Drop.is (λ h. h c.args.rest) c.drop_field.ensures.misfit;
}

pub returns-in-Add : goal.returns-in-Add
returns-in-Add c = record {
  offers = ok_at (λ op es. Offers (field_op_of op) c.args.rest c.args.fields.now (map field_of es.items)) _ _ _ c.add_field.result c.in-Add.is (λ es h. h c.args.rest) c.add_field.ensures.offers;
  misfit = fault_at (λ op. Refuses (field_op_of op) c.args.rest c.args.fields.now) _ _ _ c.add_field.result c.in-Add.is (λ h. h c.args.rest) c.add_field.ensures.misfit;
}

pub returns-in-Nest : goal.returns-in-Nest
returns-in-Nest c = record {
  offers = ok_at (λ op es. Offers (field_op_of op) c.args.rest c.args.fields.now (map field_of es.items)) _ _ _ c.nested.result c.in-Nest.is (λ es h. h c.args.rest) c.nested.ensures.offers;
  misfit = fault_at (λ op. Refuses (field_op_of op) c.args.rest c.args.fields.now) _ _ _ c.nested.result c.in-Nest.is (λ h. h c.args.rest) c.nested.ensures.misfit;
}

pub returns-in-Unnest : goal.returns-in-Unnest
returns-in-Unnest c = record {
  offers = ok_at (λ op es. Offers (field_op_of op) c.args.rest c.args.fields.now (map field_of es.items)) _ _ _ c.unnested.result c.in-Unnest.is (λ es h. h c.args.rest) c.unnested.ensures.offers;
  misfit = fault_at (λ op. Refuses (field_op_of op) c.args.rest c.args.fields.now) _ _ _ c.unnested.result c.in-Unnest.is (λ h. h c.args.rest) c.unnested.ensures.misfit;
}

pub returns-in-Default : goal.returns-in-Default
returns-in-Default c =
    let fs = c.args.fields.now in
    record {
      offers = ok_at (λ op es. Offers (field_op_of op) c.args.rest fs (map field_of es.items)) _ _ _ c.at_field.result c.in-Default.is
          (λ es h. subst (λ op. OffersList (at_field c.in-Default.name (slot_after (field_op_of op)) fs) fs (map field_of es.items)) c.in-Default.is h) c.at_field.ensures.offers;
      misfit = fault_at (λ op. Refuses (field_op_of op) c.args.rest fs) _ _ _ c.at_field.result c.in-Default.is
          (λ h taken free. subst (λ op. at_field c.in-Default.name (slot_after (field_op_of op)) fs ≡ None) c.in-Default.is h) c.at_field.ensures.misfit;
    }

pub returns-in-Map : goal.returns-in-Map
returns-in-Map c =
    let fs = c.args.fields.now in
    record {
      offers = ok_at (λ op es. Offers (field_op_of op) c.args.rest fs (map field_of es.items)) _ _ _ c.at_field-in-Map.result c.in-Map.is
          (λ es h. subst (λ op. OffersList (at_field c.in-Map.name (slot_after (field_op_of op)) fs) fs (map field_of es.items)) c.in-Map.is h) c.at_field-in-Map.ensures.offers;
      misfit = fault_at (λ op. Refuses (field_op_of op) c.args.rest fs) _ _ _ c.at_field-in-Map.result c.in-Map.is
          (λ h taken free. subst (λ op. at_field c.in-Map.name (slot_after (field_op_of op)) fs ≡ None) c.in-Map.is h) c.at_field-in-Map.ensures.misfit;
    }

pub returns-in-Unify : goal.returns-in-Unify
returns-in-Unify c =
    let fs = c.args.fields.now in
    record {
      offers = ok_at (λ op es. Offers (field_op_of op) c.args.rest fs (map field_of es.items)) _ _ _ c.at_field-in-Unify.result c.in-Unify.is
          (λ es h. subst (λ op. OffersList (at_field c.in-Unify.name (slot_after (field_op_of op)) fs) fs (map field_of es.items)) c.in-Unify.is h) c.at_field-in-Unify.ensures.offers;
      misfit = fault_at (λ op. Refuses (field_op_of op) c.args.rest fs) _ _ _ c.at_field-in-Unify.result c.in-Unify.is
          (λ h taken free. subst (λ op. at_field c.in-Unify.name (slot_after (field_op_of op)) fs ≡ None) c.in-Unify.is h) c.at_field-in-Unify.ensures.misfit;
    }
