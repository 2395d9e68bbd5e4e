use Rattle.std.proofs.Common.{ℕ, ◌<◌, ◌≤◌, get_or}
use Rattle.mig_token.specs.Lexical.{IsWordByte}
use Rattle.mig_lex.proofs.word.word_len.Given as goal

abbrev pub invariant-loop-i : goal.invariant-loop-i
invariant-loop-i l = record {
  each : (k : ℕ) → k < l.i → IsWordByte (get_or l.bytes k 0);
  short : l.i ≤ 64;
}
