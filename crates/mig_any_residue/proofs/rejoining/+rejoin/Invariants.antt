use Rattle.std.proofs.Common.{◌+◌, ◌*◌, map, length, drop, reverse}
use Rattle.mig_value.specs.View.{typed_of}
use Rattle.mig_any_residue.specs.HeldView.{group_pair}
use Rattle.mig_any_residue.specs.RestCode.{rest_size, list_size}
use Rattle.mig_path.specs.Rest.{groups_of, joins}
use Rattle.mig_typed_optic.proofs.Thens.{Rejoins}
use Rattle.mig_any_residue.proofs.rejoining.+rejoin.Given as goal

abbrev pub decreases-rejoin_any : goal.decreases-rejoin_any
decreases-rejoin_any l = 2 * rest_size l.residue

abbrev pub decreases-rejoin_each : goal.decreases-rejoin_each
decreases-rejoin_each l = 2 * list_size (map group_pair l.groups.items) + 1

abbrev pub invariant-rejoin_each-loop-group : goal.invariant-rejoin_each-loop-group
invariant-rejoin_each-loop-group l =
    Rejoins (map typed_of l.values.items) (map group_pair (drop (length l.yielded) l.fn.groups.items)) (map typed_of (reverse l.reversed.items)) (joins (groups_of (map group_pair l.fn.groups.items)) (map typed_of l.fn.foci.items))
