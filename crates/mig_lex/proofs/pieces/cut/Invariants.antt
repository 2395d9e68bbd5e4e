use Rattle.std.proofs.Common.{map, ◌≤◌, take, drop}
use Rattle.mig_token.specs.Cuts.{Cuts}
use Rattle.mig_lex.proofs.pieces.cut.Given as goal

abbrev pub invariant-loop-i : goal.invariant-loop-i
invariant-loop-i l = record {
  behind : l.start ≤ l.i;
  cut : Cuts (take l.i l.text) (map (λ piece. piece.now) l.declarations.items) (drop l.start (take l.i l.text));
}
