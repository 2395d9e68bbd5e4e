use Rattle.std.proofs.Common.{◌≢◌, ℕ, ◌<◌, ◌≤◌, get_or}
use Rattle.mig_lex.proofs.string.text_len.Given as goal

abbrev pub invariant-loop-i : goal.invariant-loop-i
invariant-loop-i l = record {
  each : (k : ℕ) → k < l.i → get_or l.bytes k 0 ≢ 34;
  short : l.i ≤ 1024;
}
