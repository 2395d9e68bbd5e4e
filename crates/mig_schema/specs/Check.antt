-- What is asked of the templates inside a body, and of a body.
use Rattle.std.specs.Prelude.{Bool, nat_lt, ◌||◌, Option, Some, None}
use Rattle.mig_model.specs.Family.{Family, is_wrong_leaf, is_unknown, has_point_side, sides_overlap, is_mixed, any_inside, nests, is_point}
use Rattle.mig_model.specs.Template.{Template, rec}
use Rattle.mig_schema.specs.declared.checks.Check.{Check}
use Rattle.mig_schema.specs.declared.checks.Check.TheVariants as C
use Rattle.mig_schema.specs.declared.parts.BodyFault.{BodyFault}
use Rattle.mig_schema.specs.declared.parts.BodyFault.TheVariants as B

abbrev pub fails : Family → Check → (Template → Bool)
fails f C.WrongLeaf = is_wrong_leaf f.form
fails f C.Unknown = is_unknown f
fails f C.PointSide = has_point_side
fails f C.Overlap = sides_overlap f.form
fails f C.Mixed = is_mixed f

-- the body is too deep, a point, or has what is asked inside
abbrev pub body_fails : Family → BodyFault → (Template → Bool)
body_fails f B.TooDeep = λ V. nat_lt 64 (nests V)
body_fails f (B.Inside c) = any_inside (fails f c)
body_fails f B.Unguarded = λ V. is_point V || any_inside has_point_side V

-- the template, if it is a record
abbrev pub record_only : Option Template → Option Template
record_only (Some (rec fs c r)) = Some (rec fs c r)
record_only o = None
