-- The fields of a record that is to be unnested.
use Rattle.std.proofs.Common.{◌≡◌, ℕ, List, Option, Some, None, Result, sym, ap, subst}
use Rattle.std.specs.Prelude.{IfOk}
use Rattle.std.specs.Map.{keys_of}
use Rattle.mig_model.specs.declared.memory.Memory.{Memory}
use Rattle.mig_model.specs.declared.rest.Rest.{Rest}
use Rattle.mig_model.specs.Template.{Field, rec, fields_of}
use Rattle.mig_model.specs.Record.{Cases, choice_of}
use Rattle.mig_template.proofs.Views.{field_list_of}
use Rattle.mig_slots.specs.declared.moving.Moving.{Moving}
use Rattle.mig_slots.specs.View.{moving_of}
use Rattle.mig_model.specs.Names.{under, without, put_all, others}
use Rattle.mig_field.specs.FieldFn.{unnest}
use Rattle.mig_field.specs.NewRecord.{inner_fields}
use Rattle.mig_action.specs.Moves as model
use Rattle.mig_action.specs.Moves.{move, inner_slots}
use Rattle.mig_func.specs.Ready.{fields_within}
use Rattle.mig_func.proofs.Ready.{names_within}

pub record_within : (fs : List Field) (c : Option Cases) (r : Rest) → c ≡ None → Some fs ≡ inner_fields (rec (fields_of fs) (choice_of c) r)
record_within fs None r h = ap Some (sym (field_list_of fs))
record_within fs (Some c) r h = absurd (let e : Some c ≡ None = h in cc)

pub unnested_is : (result : Result Moving Memory) (given : model.Moving) (y : List ℕ) (fs gs : List Field) → fields_within (under y fs) ≡ Some gs
    → IfOk result (λ m. moving_of m ≡ record { slots = put_all (inner_slots (under y given.slots)) (without y given.slots); rest = others (keys_of gs) given.rest })
    → IfOk result (λ m. moving_of m ≡ move (unnest y) fs given)
unnested_is result given y fs gs h r =
    subst (λ ns. IfOk result (λ m. moving_of m ≡ record { slots = put_all (inner_slots (under y given.slots)) (without y given.slots); rest = others ns given.rest })) (sym (names_within (under y fs) gs h)) r
