use Rattle.std.proofs.Common.{rules}
use Rattle.std.proofs.lemmas.Fn.{always_returns_same}
use Rattle.mig_model.specs.Names.{by_bytes}
use Rattle.mig_model.proofs.keyed.place_by_key.Goals as goal

pub returns-clause-place : goal.returns-clause-place
returns-clause-place g c =
    c.binary_search_by.ensures.position (λ x. by_bytes (g.T.Keyed.key x) c.args.key.now) (always_returns_same _ _ _ (λ a r f' q. (search rules, search rules)))
