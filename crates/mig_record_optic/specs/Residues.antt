-- The rest that each residue of a record value stands for.
use Rattle.mig_value.specs.Typed.{Slot}
use Rattle.mig_value.specs.View.{typed_of}
use Rattle.mig_path.specs.Rest.{Residual, whole, stays, hole}
use Rattle.mig_record_optic.specs.declared.field.MayRest.{MayRest}
use Rattle.mig_record_optic.specs.declared.field.MayRest.TheVariants as M
use Rattle.mig_record_optic.specs.declared.case.CaseRest.{CaseRest}
use Rattle.mig_record_optic.specs.declared.case.CaseRest.TheVariants as C

abbrev pub hole_rest : Slot → Residual
hole_rest h = hole h.0 h.1

abbrev pub may_rest : MayRest → Residual
may_rest (M.There h) = hole_rest h
may_rest (M.Absent v) = stays (typed_of v)

abbrev pub case_rest : CaseRest → Residual
case_rest C.Whole = whole
case_rest (C.Other v) = stays (typed_of v)
