-- The rest that the residue of any optic stands for: one level, since what is inside is seen as plain data already.
use Rattle.std.specs.Prelude.{ℕ}
use Rattle.mig_path.specs.Rest.{Residual, whole, many, named, both, groups_of}
use Rattle.mig_path.specs.Residues.{side_rest}
use Rattle.mig_record_optic.specs.Residues.{hole_rest, may_rest, case_rest}
use Rattle.mig_any_residue.specs.declared.any_residue.Held.{Held}
use Rattle.mig_any_residue.specs.declared.any_residue.Held.TheVariants as H
use Rattle.mig_any_residue.specs.declared.any_residue.AnyGroup.{AnyGroup}

abbrev pub held_rest : Held → Residual
held_rest H.Whole = whole
held_rest (H.Field r) = hole_rest r
held_rest (H.May r) = may_rest r
held_rest (H.Case r) = case_rest r
held_rest (H.Each r) = many r.count
held_rest (H.Side r) = side_rest r
held_rest (H.Cross r) = named r.node.value.0
held_rest (H.Both r gs) = both r.value (groups_of gs)

abbrev pub group_pair : AnyGroup → ℕ × Residual
group_pair g = (g.count, g.residue)
