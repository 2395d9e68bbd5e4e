use Rattle.std.proofs.Common.{ℕ, ◌<◌, ◌≤◌, get_or}
use Rattle.mig_lex.specs.Reading.{IsDigit}
use Rattle.mig_lex.proofs.number.digits_len.Given as goal

abbrev pub invariant-loop-i : goal.invariant-loop-i
invariant-loop-i l = record {
  each : (k : ℕ) → k < l.i → IsDigit (get_or l.bytes k 0);
  short : l.i ≤ 20;
}
