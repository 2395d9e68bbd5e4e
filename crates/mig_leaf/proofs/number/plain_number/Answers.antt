use Rattle.std.proofs.Common.{◌≡◌, List, ℕ, sym, ap, subst, ◌∙◌}
use Rattle.std.specs.Prelude.{IfSome}
use Rattle.std.specs.Fmt.{signed_decimal}
use Rattle.std.specs.Int.{w64}
use Rattle.std.specs.Result.{result_ok}
use Rattle.std.specs.Str.{IsUtf8}
use Rattle.std.specs.Str.Parse.{ParsesSigned}
use Rattle.std.proofs.lemmas.Fmt.{parse-signed_decimal}
use Rattle.mig_leaf.specs.Spelling.{BeginsPlain}
use Rattle.mig_leaf.proofs.Decimal.{begins, read, is_utf8, found_text, no_text}
use Rattle.mig_leaf.proofs.number.plain_number.Goals as goal

pub returns-then-not-begins_plain-clause-only : goal.returns-then-not-begins_plain-clause-only
returns-then-not-begins_plain-clause-only c = λ z fits e.
    let begin : BeginsPlain c.args.text.now = subst BeginsPlain (sym e) (begins z fits.sfits) in
    let so = c.begins_plain.ensures.1 begin in
    absurd cc

pub returns-in_err-ok-clause-only : goal.returns-in_err-ok-clause-only
returns-in_err-ok-clause-only c = λ z fits e.
    absurd (no_text c.from_utf8.result _ _ _ c.from_utf8.ensures.cases (sym c.ok.ensures.value ∙ c.in_err-ok.was) (subst IsUtf8 (sym e) (is_utf8 z fits.sfits)))

pub returns-clause-found : goal.returns-clause-found
returns-clause-found c =
    let same : c.in_ok-ok.field-0.now ≡ c.args.text.now = (found_text c.from_utf8.result _ _ c.in_ok-ok.field-0 c.from_utf8.ensures.cases (sym c.ok.ensures.value ∙ c.in_ok-ok.was)).0 in
    let parses : ParsesSigned w64 10 c.args.text.now c.parse.result = subst (λ (s : List ℕ). ParsesSigned w64 10 s c.parse.result) same c.parse.ensures.value.0 in
    subst (λ o. IfSome o (λ z. c.args.text.now ≡ signed_decimal z)) (sym c.ok-2.ensures.value) (read c.args.text.now c.parse.result (c.begins_plain.ensures.0 c.if-not-begins_plain.false) parses)

pub returns-clause-only : goal.returns-clause-only
returns-clause-only c = λ z fits e.
    let same : c.in_ok-ok.field-0.now ≡ c.args.text.now = (found_text c.from_utf8.result _ _ c.in_ok-ok.field-0 c.from_utf8.ensures.cases (sym c.ok.ensures.value ∙ c.in_ok-ok.was)).0 in
    c.ok-2.ensures.value ∙ ap result_ok (parse-signed_decimal w64 z c.in_ok-ok.field-0.now c.parse.result fits fits.sfits (same ∙ e) c.parse.ensures.value.0)
