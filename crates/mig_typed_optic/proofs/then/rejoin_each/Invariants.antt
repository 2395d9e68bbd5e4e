use Rattle.std.proofs.Common.{map, length, drop, reverse}
use Rattle.mig_value.specs.View.{typed_of}
use Rattle.mig_path.specs.Rest.{groups_of, joins}
use Rattle.mig_typed_optic.proofs.Thens.{Rejoins}
use Rattle.mig_typed_optic.proofs.then.rejoin_each.Given as goal

abbrev pub invariant-loop-group : goal.invariant-loop-group
invariant-loop-group g l =
    Rejoins (map typed_of l.values.items) (map (λ x. (x.count, g.Q.Optic.rest x.residue)) (drop (length l.yielded) l.fn.groups.items)) (map typed_of (reverse l.reversed.items))
    (joins (groups_of (map (λ x. (x.count, g.Q.Optic.rest x.residue)) l.fn.groups.items)) (map typed_of l.fn.foci.items))
