use Rattle.std.proofs.Common.{ℕ, ◌<◌, get_or}
use Rattle.mig_token.specs.Lexical.{IsWhite}
use Rattle.mig_lex.proofs.white.after_white.Given as goal

abbrev pub invariant-loop-i : goal.invariant-loop-i
invariant-loop-i l = (k : ℕ) → k < l.i → IsWhite (get_or l.bytes k 0)
