use Rattle.std.proofs.Common.{◌+◌, ◌*◌, map}
use Rattle.mig_value.specs.View.{typed_of}
use Rattle.mig_any_residue.specs.HeldView.{group_pair}
use Rattle.mig_optic.specs.AnyView.{any_path}
use Rattle.mig_optic.specs.Code.{path_size}
use Rattle.mig_typed_optic.proofs.Thens.{Parted}
use Rattle.mig_optic.proofs.parting.+part.Given as goal

abbrev pub decreases-part_any : goal.decreases-part_any
decreases-part_any g l = 3 * path_size (any_path l.optic.now)

abbrev pub decreases-part_then : goal.decreases-part_then
decreases-part_then g l = 3 * (path_size (any_path l.first.now) + path_size (any_path l.second.now)) + 2

abbrev pub decreases-part_each : goal.decreases-part_each
decreases-part_each g l = 3 * path_size (any_path l.optic.now) + 1

abbrev pub invariant-part_each-loop-value : goal.invariant-part_each-loop-value
invariant-part_each-loop-value g l =
    Parted (any_path l.optic) (map typed_of l.foci.items) (map group_pair l.groups.items) (g.C.Counter.counted l.steps) (g.C.Counter.counted l.fn.steps) (map typed_of l.yielded)
