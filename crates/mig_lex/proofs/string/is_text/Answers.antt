use Rattle.std.proofs.Common.{◌∙◌, rules}
use Rattle.std.proofs.lemmas.Iterator.{cases_from_all, YieldsList-from_chars}
use borrow.Author.Tests.{tests}
use Rattle.mig_token.specs.Lexical.{IsStringChar}
use Rattle.mig_lex.proofs.Texts.{tested}
use Rattle.mig_lex.proofs.string.is_text.Goals as goal

pub returns-in-Ok : goal.returns-in-Ok
returns-in-Ok c =
    tested c.all.result c.args.bytes.now c.in-Ok.ensures.cases.1
    (cases_from_all _ _ _ IsStringChar (λ x. IsStringChar x → ⊥) c.all.ensures.ran (YieldsList-from_chars c.args.bytes.now c.in-Ok.ensures.cases.1 (c.chars.ensures.rest ∙ c.in-Ok.ensures.cases.0)) (λ x q k. search (rules, tests)) (λ x q k. search (rules, tests)))
