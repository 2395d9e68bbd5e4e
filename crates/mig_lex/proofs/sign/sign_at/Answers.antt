use Rattle.std.proofs.Common.{◌∙◌, ap, sym, arith}
use Rattle.std.proofs.lemmas.List.{take_rest}
use Rattle.mig_lex.proofs.Words.{nothing, dots_at, sign_at, no_sign_at, second, second_some}
use Rattle.mig_lex.proofs.Forms.{first}
use Rattle.mig_lex.proofs.sign.sign_at.Goals as goal

pub returns-then-begins_with_dots : goal.returns-then-begins_with_dots
returns-then-begins_with_dots c =
    let dots = c.begins_with_dots.ensures.0 c.if-begins_with_dots.true in
    dots_at c.args.bytes.now _ (second_some c.args.bytes.now dots.1) dots.0 dots.1 (take_rest c.args.bytes.now 2)

pub returns-in-empty : goal.returns-in-empty
returns-in-empty c = nothing c.args.bytes.now (omega arith)

pub returns-in-Some : goal.returns-in-Some
returns-in-Some c = sign_at c.args.bytes.now _ c.in-len1-up.len_at_least (take_rest c.args.bytes.now 1) c.requires.letter c.requires.number c.requires.string c.in-Some.mark c.in-Some.ensures

pub returns-in-None : goal.returns-in-None
returns-in-None c =
    let bytes = c.args.bytes.now in
    no_sign_at bytes _ c.in-len1-up.len_at_least (take_rest bytes 1) c.requires.letter c.requires.number c.requires.string c.in-None.ensures (λ p q.
    let t = c.begins_with_dots.ensures.1 (p, sym (second bytes) ∙ sym (ap first (take_rest bytes 1)) ∙ q) in
    let f = c.if-begins_with_dots.false in
    absurd cc)
