-- The optic that an `AnyOptic` is: one level, since what is inside is seen as plain data already.
use Rattle.mig_path.specs.Path.{Path, here, field_at, may_field, case_of, each, side, cross, then_}
use Rattle.mig_optic.specs.declared.any_optic.AnyOptic.{AnyOptic}
use Rattle.mig_optic.specs.declared.any_optic.AnyOptic.TheVariants as O

abbrev pub any_path : AnyOptic → Path
any_path O.Here = here
any_path (O.FieldAt o) = field_at o.name
any_path (O.MayField o) = may_field o.name
any_path (O.CaseOf o) = case_of o.literal
any_path O.Each = each
any_path (O.Side s) = side s
any_path O.Cross = cross
any_path (O.Then p q) = then_ p q
