use Rattle.std.proofs.Common.{rules}
use Rattle.std.specs.Ordering.{is_lt}
use Rattle.std.proofs.lemmas.Cmp.{nat_list_cmp_total}
use Rattle.std.proofs.lemmas.List.Sorted.{ranks_by, answers_always}
use Rattle.mig_model.specs.Names.{by_bytes}
use Rattle.mig_model.proofs.keyed.sort_by_key.Goals as goal

pub returns-clause-sorted : goal.returns-clause-sorted
returns-clause-sorted g c =
    c.sort_unstable_by.ensures.sorted (λ x y. is_lt (by_bytes (g.T.Keyed.key x) (g.T.Keyed.key y))) (ranks_by nat_list_cmp_total g.T.Keyed.key)
    (answers_always _ _ _ (λ f a r f' q. search rules))
