use Rattle.std.proofs.Common.{refl, ltb-true, arith}
use Rattle.std.proofs.lemmas.List.{take_rest}
use Rattle.mig_lex.proofs.Lists.{some_byte}
use Rattle.mig_lex.proofs.Texts.{text_at, no_end, no_text}
use Rattle.mig_lex.proofs.string.string_at.Goals.{in_default-via-then-rest-lt1, in_default-via-in-34+else-is_text, in_default-via-else-rest-lt1+in_default-1}
use Rattle.mig_lex.proofs.string.string_at.Goals as goal

pub returns-in-34 : goal.returns-in-34
returns-in-34 c =
    let ok = c.if-is_text.ensures.0 refl in
    text_at c.args.bytes.now c.split_at.result.0.now c.split_at.result.1.now _ c.text_len.result c.split_at.ensures.front c.split_at.ensures.back c.text_len.ensures.short (omega arith) c.in-34.len_at_least (take_rest c.split_at.result.1.now 1) ok.0 ok.1

pub returns-in_default : goal.returns-in_default
returns-in_default c =
    let rest = c.split_at.result.1.now in
    let back = c.split_at.ensures.back in
    elim c.in_default.branch [
      | in_default-via-then-rest-lt1 w ↦ no_end c.args.bytes.now c.text_len.result c.text_len.ensures rest back (λ e. omega (arith, ltb-true, some_byte rest (omega (arith, e))))
      | in_default-via-in-34+else-is_text w ↦ no_text c.args.bytes.now c.text_len.result c.text_len.ensures c.split_at.result.0.now c.split_at.ensures.front (λ ok. let h = w.is_text.ensures.1 (ok.utf8, ok.each) in let f = w.if-is_text.false in absurd cc)
      | in_default-via-else-rest-lt1+in_default-1 w ↦ no_end c.args.bytes.now c.text_len.result c.text_len.ensures rest back (λ e. omega arith)
    ]
