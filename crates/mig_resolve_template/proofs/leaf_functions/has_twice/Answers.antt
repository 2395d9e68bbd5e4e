use Rattle.std.proofs.Common.{ℕ, List, subst}
use Rattle.std.specs.Prelude.{IsTrue, ◌↔◌}
use Rattle.mig_model.specs.Names.{AscendBy}
use Rattle.mig_resolve_template.proofs.Twice.{twice_by_rising}
use Rattle.mig_resolve_template.proofs.leaf_functions.has_twice.Goals as goal

pub returns : goal.returns
returns c =
    twice_by_rising c.args.pairs.items c.sort_by_key.new.list.items c.ascends-rises.result c.sort_by_key.ensures.permutation c.sort_by_key.ensures.sorted
    (subst (λ (l : List (List ℕ × List ℕ)). IsTrue c.ascends-rises.result ↔ AscendBy (λ x. x.0) l) c.deref.ensures.value c.ascends-rises.ensures)
