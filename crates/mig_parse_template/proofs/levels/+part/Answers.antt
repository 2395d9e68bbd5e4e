use Rattle.std.proofs.Common.{◌≡◌, ◌++◌, ◌∷◌, [], drop, length, map, true, false, Some, List, sym, ap, subst, ◌∙◌, rules}
use Rattle.std.proofs.lemmas.List.{map-append}
use Rattle.std.proofs.lemmas.Result.{err_from_is_err_and}
use Rattle.mig_token.specs.declared.mark.Mark.TheVariants as M
use Rattle.mig_token.specs.Token.{Tok, toks}
use Rattle.mig_syntax.specs.TemplateView.{field_of, case_of}
use Rattle.mig_reader.specs.Reading.{Fails, begins, listed_at}
use Rattle.mig_parse_template.specs.Reading.{field_at, goes_on, cases_at, last_choice_at, template_at, members_at}
use Rattle.mig_parse_template.proofs.Members.{at_dots, no_choice_read, at_choice, no_field, at_last, go_on, no_more}
use Rattle.mig_parse_template.proofs.Cases.{no_case, last_case, further_case, no_turn_left}
use Rattle.mig_reader.proofs.Lists.{no_item, last_item, further_item, no_turn}
use Rattle.mig_parse_template.proofs.levels.+part.Goals as goal

pub members_at-returns-then-begins : goal.members_at-returns-then-begins
members_at-returns-then-begins t c =
    let T = template_at c.args.levels in
    let n = length c.args.tokens.now in
    let h : begins M.Dots (toks c.loop.rest.now) ≡ true = search rules in
    let e : toks c.behind_first.result.now ≡ drop 1 (toks c.loop.rest.now) = search rules in
    rw e (at_dots T (map field_of c.loop.fields.items) n c.loop.counter (toks c.loop.rest.now) (members_at T n (toks c.args.tokens.now)) c.loop-test.true h c.loop.invariant)

pub members_at-returns-in_err-choice : goal.members_at-returns-in_err-choice
members_at-returns-in_err-choice t c =
    let T = template_at c.args.levels in
    let n = length c.args.tokens.now in
    let h : begins M.Dots (toks c.loop.rest.now) ≡ false = search rules in
    let w : begins M.Choice (toks c.loop.rest.now) ≡ true = search rules in
    let e : toks c.behind_first-then-begins-2.result.now ≡ drop 1 (toks c.loop.rest.now) = search rules in
    let failed : Fails c.in_err-choice.field-0.0 (last_choice_at T (drop 1 (toks c.loop.rest.now))) = subst (λ (l : List Tok). Fails c.in_err-choice.field-0.0 (last_choice_at T l)) e c.in_err-choice.ensures in
    let p = err_from_is_err_and c.from_residual.result c.from_residual.ensures.1 in
    rw (p.1, p.2) (no_choice_read T c.in_err-choice.field-0.0 (map field_of c.loop.fields.items) n c.loop.counter (toks c.loop.rest.now) (members_at T n (toks c.args.tokens.now)) c.loop-test.true h w failed c.loop.invariant)

pub members_at-returns-then-begins-2 : goal.members_at-returns-then-begins-2
members_at-returns-then-begins-2 t c =
    let T = template_at c.args.levels in
    let n = length c.args.tokens.now in
    let h : begins M.Dots (toks c.loop.rest.now) ≡ false = search rules in
    let w : begins M.Choice (toks c.loop.rest.now) ≡ true = search rules in
    let e : toks c.behind_first-then-begins-2.result.now ≡ drop 1 (toks c.loop.rest.now) = search rules in
    let is : last_choice_at T (drop 1 (toks c.loop.rest.now)) ≡ Some ((c.in_ok-choice.choice, c.in_ok-choice.dots), toks c.in_ok-choice.after.now) = ap (last_choice_at T) (sym e) ∙ c.in_ok-choice.ensures in
    at_choice T (map field_of c.loop.fields.items) n c.loop.counter (toks c.loop.rest.now) c.in_ok-choice.choice c.in_ok-choice.dots (toks c.in_ok-choice.after.now) (members_at T n (toks c.args.tokens.now)) c.loop-test.true h w is c.loop.invariant

pub members_at-returns-in_err-field : goal.members_at-returns-in_err-field
members_at-returns-in_err-field t c =
    let T = template_at c.args.levels in
    let n = length c.args.tokens.now in
    let h : begins M.Dots (toks c.loop.rest.now) ≡ false = search rules in
    let w : begins M.Choice (toks c.loop.rest.now) ≡ false = search rules in
    let p = err_from_is_err_and c.from_residual-in_err-field.result c.from_residual-in_err-field.ensures.1 in
    rw (p.1, p.2) (no_field T c.in_err-field.field-0.0 (map field_of c.loop.fields.items) n c.loop.counter (toks c.loop.rest.now) (members_at T n (toks c.args.tokens.now)) c.loop-test.true h w c.in_err-field.ensures c.loop.invariant)

pub members_at-returns-then-not-begins : goal.members_at-returns-then-not-begins
members_at-returns-then-not-begins t c =
    let T = template_at c.args.levels in
    let n = length c.args.tokens.now in
    let h : begins M.Dots (toks c.loop.rest.now) ≡ false = search rules in
    let w : begins M.Choice (toks c.loop.rest.now) ≡ false = search rules in
    let ends : begins M.Comma (toks c.in_ok-field.after.now) ≡ false = search rules in
    let pushed : map field_of c.push.new.self.items ≡ map field_of c.loop.fields.items ++ field_of c.in_ok-field.field ∷ [] = ap (map field_of) c.in_ok-push.ensures.items ∙ map-append field_of c.loop.fields.items (c.in_ok-field.field ∷ []) in
    rw pushed (at_last T (map field_of c.loop.fields.items) n c.loop.counter (toks c.loop.rest.now) (field_of c.in_ok-field.field) (toks c.in_ok-field.after.now) (members_at T n (toks c.args.tokens.now)) c.loop-test.true h w c.in_ok-field.ensures ends c.loop.invariant)

pub members_at-loop-preserved : goal.members_at-loop-preserved
members_at-loop-preserved t c =
    let T = template_at c.args.levels in
    let n = length c.args.tokens.now in
    let h : begins M.Dots (toks c.loop.rest.now) ≡ false = search rules in
    let w : begins M.Choice (toks c.loop.rest.now) ≡ false = search rules in
    let more : begins M.Comma (toks c.in_ok-field.after.now) ≡ true = search rules in
    let pushed : map field_of c.push.new.self.items ≡ map field_of c.loop.fields.items ++ field_of c.in_ok-field.field ∷ [] = ap (map field_of) c.in_ok-push.ensures.items ∙ map-append field_of c.loop.fields.items (c.in_ok-field.field ∷ []) in
    let e : toks c.behind_first-rest.result.now ≡ drop 1 (toks c.in_ok-field.after.now) = search rules in
    rw (pushed, e) (go_on T (map field_of c.loop.fields.items) n c.loop.counter (toks c.loop.rest.now) (field_of c.in_ok-field.field) (toks c.in_ok-field.after.now) (members_at T n (toks c.args.tokens.now)) c.loop-test.true h w c.in_ok-field.ensures more c.loop.invariant)

pub members_at-returns : goal.members_at-returns
members_at-returns t c =
    let T = template_at c.args.levels in
    let n = length c.args.tokens.now in
    no_more T (map field_of c.loop.fields.items) n c.loop.counter (toks c.loop.rest.now) (members_at T n (toks c.args.tokens.now)) c.loop-test.false c.loop.invariant

pub fields_at-returns-in_err-field : goal.fields_at-returns-in_err-field
fields_at-returns-in_err-field t c =
    let R = field_at (template_at c.args.levels) in
    let n = length c.args.tokens.now in
    let p = err_from_is_err_and c.from_residual.result c.from_residual.ensures.1 in
    rw (p.1, p.2) (no_item R c.in_err-field.field-0.0 (map field_of c.loop.fields.items) n c.loop.counter (toks c.loop.rest.now) (listed_at R n (toks c.args.tokens.now)) c.loop-test.true c.in_err-field.ensures c.loop.invariant)

pub fields_at-returns-then-not-begins : goal.fields_at-returns-then-not-begins
fields_at-returns-then-not-begins t c =
    let R = field_at (template_at c.args.levels) in
    let n = length c.args.tokens.now in
    let ends : begins M.Comma (toks c.in_ok-field.after.now) ≡ false = search rules in
    let pushed : map field_of c.push.new.self.items ≡ map field_of c.loop.fields.items ++ field_of c.in_ok-field.field ∷ [] = ap (map field_of) c.in_ok-push.ensures.items ∙ map-append field_of c.loop.fields.items (c.in_ok-field.field ∷ []) in
    rw pushed (last_item R (map field_of c.loop.fields.items) n c.loop.counter (toks c.loop.rest.now) (field_of c.in_ok-field.field) (toks c.in_ok-field.after.now) (listed_at R n (toks c.args.tokens.now)) c.loop-test.true c.in_ok-field.ensures ends c.loop.invariant)

pub fields_at-loop-preserved : goal.fields_at-loop-preserved
fields_at-loop-preserved t c =
    let R = field_at (template_at c.args.levels) in
    let n = length c.args.tokens.now in
    let more : begins M.Comma (toks c.in_ok-field.after.now) ≡ true = search rules in
    let pushed : map field_of c.push.new.self.items ≡ map field_of c.loop.fields.items ++ field_of c.in_ok-field.field ∷ [] = ap (map field_of) c.in_ok-push.ensures.items ∙ map-append field_of c.loop.fields.items (c.in_ok-field.field ∷ []) in
    let e : toks c.behind_first-rest.result.now ≡ drop 1 (toks c.in_ok-field.after.now) = search rules in
    rw (pushed, e) (further_item R (map field_of c.loop.fields.items) n c.loop.counter (toks c.loop.rest.now) (field_of c.in_ok-field.field) (toks c.in_ok-field.after.now) (listed_at R n (toks c.args.tokens.now)) c.loop-test.true c.in_ok-field.ensures more c.loop.invariant)

pub fields_at-returns : goal.fields_at-returns
fields_at-returns t c =
    let R = field_at (template_at c.args.levels) in
    let n = length c.args.tokens.now in
    no_turn R (map field_of c.loop.fields.items) n c.loop.counter (toks c.loop.rest.now) (listed_at R n (toks c.args.tokens.now)) c.loop-test.false c.loop.invariant

pub cases_at-returns-in_err-case : goal.cases_at-returns-in_err-case
cases_at-returns-in_err-case t c =
    let T = template_at c.args.levels in
    let n = length c.args.tokens.now in
    let p = err_from_is_err_and c.from_residual.result c.from_residual.ensures.1 in
    rw (p.1, p.2) (no_case T c.in_err-case.field-0.0 (map case_of c.loop.cases.items) n c.loop.counter (toks c.loop.rest.now) (cases_at T n (toks c.args.tokens.now)) c.loop-test.true c.in_err-case.ensures c.loop.invariant)

pub cases_at-returns-then-not-goes_on : goal.cases_at-returns-then-not-goes_on
cases_at-returns-then-not-goes_on t c =
    let T = template_at c.args.levels in
    let n = length c.args.tokens.now in
    let ends : goes_on (toks c.in_ok-case.after.now) ≡ false = search rules in
    let pushed : map case_of c.push.new.self.items ≡ map case_of c.loop.cases.items ++ case_of c.in_ok-case.case ∷ [] = ap (map case_of) c.in_ok-push.ensures.items ∙ map-append case_of c.loop.cases.items (c.in_ok-case.case ∷ []) in
    rw pushed (last_case T (map case_of c.loop.cases.items) n c.loop.counter (toks c.loop.rest.now) (case_of c.in_ok-case.case) (toks c.in_ok-case.after.now) (cases_at T n (toks c.args.tokens.now)) c.loop-test.true c.in_ok-case.ensures ends c.loop.invariant)

pub cases_at-loop-preserved : goal.cases_at-loop-preserved
cases_at-loop-preserved t c =
    let T = template_at c.args.levels in
    let n = length c.args.tokens.now in
    let more : goes_on (toks c.in_ok-case.after.now) ≡ true = search rules in
    let pushed : map case_of c.push.new.self.items ≡ map case_of c.loop.cases.items ++ case_of c.in_ok-case.case ∷ [] = ap (map case_of) c.in_ok-push.ensures.items ∙ map-append case_of c.loop.cases.items (c.in_ok-case.case ∷ []) in
    let e : toks c.behind_first-rest.result.now ≡ drop 1 (toks c.in_ok-case.after.now) = search rules in
    rw (pushed, e) (further_case T (map case_of c.loop.cases.items) n c.loop.counter (toks c.loop.rest.now) (case_of c.in_ok-case.case) (toks c.in_ok-case.after.now) (cases_at T n (toks c.args.tokens.now)) c.loop-test.true c.in_ok-case.ensures more c.loop.invariant)

pub cases_at-returns : goal.cases_at-returns
cases_at-returns t c =
    let T = template_at c.args.levels in
    let n = length c.args.tokens.now in
    no_turn_left T (map case_of c.loop.cases.items) n c.loop.counter (toks c.loop.rest.now) (cases_at T n (toks c.args.tokens.now)) c.loop-test.false c.loop.invariant
