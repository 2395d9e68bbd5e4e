use Rattle.std.proofs.Common.{map}
use Rattle.mig_value.specs.View.{typed_of}
use Rattle.mig_typed_optic.proofs.Thens.{Parted}
use Rattle.mig_typed_optic.proofs.then.part_each.Given as goal

abbrev pub invariant-loop-value : goal.invariant-loop-value
invariant-loop-value g l =
    Parted (g.Q.Optic.path l.optic) (map typed_of l.foci.items) (map (λ x. (x.count, g.Q.Optic.rest x.residue)) l.groups.items) (g.C.Counter.counted l.steps) (g.C.Counter.counted l.fn.steps) (map typed_of l.yielded)
