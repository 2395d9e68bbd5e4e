use Rattle.std.proofs.Common.{◌≡◌, ◌-◌, length}
use Rattle.mig_token.specs.Token.{toks}
use Rattle.mig_reader.specs.Reading.{text_at, listed_at, after_items}
use Rattle.mig_parse_function.proofs.function.texts_at.Given as goal

abbrev pub invariant-loop : goal.invariant-loop
invariant-loop l = after_items l.names.items (listed_at text_at (length l.tokens - l.counter) (toks l.rest)) ≡ listed_at text_at (length l.tokens) (toks l.tokens)
