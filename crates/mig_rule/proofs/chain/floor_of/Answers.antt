use Rattle.std.proofs.Common.{leb, arith, rules}
use Rattle.std.proofs.lemmas.List.Sorted.{IsPartitionPoint-from_clause, IsPartitionedBy-leb}
use Rattle.mig_rule.proofs.Floors.{floor_is, none_below}
use Rattle.mig_rule.proofs.chain.floor_of.Goals as goal

pub returns-then-above-eq0-clause-none : goal.returns-then-above-eq0-clause-none
returns-then-above-eq0-clause-none c =
    let vs = c.args.versions.now in
    let parted = IsPartitionedBy-leb (λ v. v) vs c.args.version c.requires in
    let point = IsPartitionPoint-from_clause (λ v. leb v c.args.version) vs _ c.partition_point-above.ensures.partitioned parted (λ a r q k. search rules) in
    none_below vs c.args.version _ point (omega (arith, c.if-above-eq0.true))

pub returns-else-above-eq0-clause-some : goal.returns-else-above-eq0-clause-some
returns-else-above-eq0-clause-some c =
    let vs = c.args.versions.now in
    let parted = IsPartitionedBy-leb (λ v. v) vs c.args.version c.requires in
    let point = IsPartitionPoint-from_clause (λ v. leb v c.args.version) vs _ c.partition_point-above.ensures.partitioned parted (λ a r q k. search rules) in
    floor_is vs c.args.version _ point c.requires c.partition_point-above.ensures.bound (omega (arith, c.if-above-eq0.false))
