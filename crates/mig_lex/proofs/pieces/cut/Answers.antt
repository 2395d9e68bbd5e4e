use Rattle.std.proofs.Common.{map, ◌≡◌, ◌++◌, ◌∷◌, [], List, ℕ, Bor, ap, ◌∙◌, refl, arith}
use Rattle.std.proofs.lemmas.List.{map-append}
use Rattle.mig_lex.proofs.Cutting.{step_on, step_here}
use Rattle.mig_lex.proofs.pieces.cut.Goals as goal
use Rattle.mig_lex.proofs.pieces.cut.Goals.{then-byte-eq59+in_ok-push, else-byte-eq59}

abbrev seen : List (Bor (List ℕ)) → List (List ℕ)
seen pieces = map (λ piece. piece.now) pieces

joined : (pieces more : List (Bor (List ℕ))) (piece : Bor (List ℕ)) → more ≡ pieces ++ piece ∷ [] → seen more ≡ seen pieces ++ piece.now ∷ []
joined pieces more piece e = ap seen e ∙ map-append (λ (p : Bor (List ℕ)). p.now) pieces (piece ∷ [])

pub loop-i-preserved : goal.loop-i-preserved
loop-i-preserved c = elim c.if-byte-eq59.branch [
  | then-byte-eq59+in_ok-push w ↦
      let pushed = joined c.loop-i.declarations.items w.push.new.self.items _ w.in_ok-push.ensures.items in
      record {
        behind = omega arith;
        cut = rw (w.declarations-is, w.start-is, pushed) (step_here c.args.text.now (seen c.loop-i.declarations.items) c.loop-i.start c.loop-i.i c.loop-i.invariant.behind c.loop-i-test.true c.loop-i.invariant.cut w.if-byte-eq59.true _ refl);
      }
  | else-byte-eq59 w ↦ record {
    behind = omega (arith, c.loop-i.invariant.behind);
    cut = rw (w.declarations-is, w.start-is) (step_on c.args.text.now (seen c.loop-i.declarations.items) c.loop-i.start c.loop-i.i c.loop-i.invariant.behind c.loop-i-test.true c.loop-i.invariant.cut w.if-byte-eq59.false);
  }
]
