use Rattle.std.proofs.Common.{◌≡◌, ◌-◌, map, length}
use Rattle.mig_token.specs.Token.{toks}
use Rattle.mig_syntax.specs.DeclView.{step_of}
use Rattle.mig_reader.specs.Reading.{after_items}
use Rattle.mig_parse.specs.Reading.{steps_at}
use Rattle.mig_parse.proofs.read_fix.steps_at.Given as goal

abbrev pub invariant-loop : goal.invariant-loop
invariant-loop l = after_items (map step_of l.steps.items) (steps_at (length l.tokens - l.counter) (toks l.rest)) ≡ steps_at (length l.tokens) (toks l.tokens)
