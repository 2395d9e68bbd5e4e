-- What is inside a residue is smaller.
use Rattle.std.specs.Prelude.{◌≤◌, List, [], ◌∷◌, map}
use Rattle.std.proofs.Common.{arith}
use denote.Param.Weighed.{most}
use Rattle.mig_any_residue.specs.declared.any_residue.Held.{Held}
use Rattle.mig_any_residue.specs.declared.any_residue.Held.TheVariants as H
use Rattle.mig_any_residue.specs.declared.any_residue.AnyGroup.{AnyGroup}
use Rattle.mig_any_residue.specs.declared.any_residue.AnyGroups.TheDeep.{deep-Held, deep-AnyGroup}
use Rattle.mig_any_residue.specs.RestCode.{rest_size, list_size}
use Rattle.mig_any_residue.specs.HeldView.{held_rest, group_pair}

pub deep_rest : (h : Held) → deep-Held h ≤ rest_size (held_rest h)
deep_rest (H.Both r gs) = omega arith
deep_rest h = omega arith

pub most_groups : (gs : List AnyGroup) → most deep-AnyGroup gs ≤ list_size (map group_pair gs)
most_groups [] = omega arith
most_groups (g ∷ gs) = omega (arith, most_groups gs)
