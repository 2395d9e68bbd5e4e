use Rattle.std.proofs.Common.{◌≡◌, ◌-◌, length}
use Rattle.mig_token.specs.Token.{toks}
use Rattle.mig_reader.specs.Reading.{listed_at, after_items}
use Rattle.mig_parse_leaf.specs.Reading.{pair_at}
use Rattle.mig_parse_leaf.proofs.leaf.pairs_at.Given as goal

abbrev pub invariant-loop : goal.invariant-loop
invariant-loop l = after_items l.pairs.items (listed_at pair_at (length l.tokens - l.counter) (toks l.rest)) ≡ listed_at pair_at (length l.tokens) (toks l.tokens)
