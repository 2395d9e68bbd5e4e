use Rattle.std.proofs.Common.{◌≡◌, ◌++◌, ◌∷◌, [], drop, map, true, false, ap, ◌∙◌, rules}
use Rattle.std.proofs.lemmas.List.{map-append}
use Rattle.std.proofs.lemmas.Result.{err_from_is_err_and}
use Rattle.mig_token.specs.declared.mark.Mark.TheVariants as M
use Rattle.mig_token.specs.Token.{toks}
use Rattle.mig_syntax.specs.RuleView.{rule_of}
use Rattle.mig_reader.specs.Reading.{begins}
use Rattle.mig_parse_rule.specs.Reading.{rules_at}
use Rattle.mig_parse_rule.proofs.RuleLoop.{no_rule, last_rule, further_rule, no_level}
use Rattle.mig_parse_rule.proofs.levels.+rule.Goals as goal

pub rules_at-returns-in_err-rule : goal.rules_at-returns-in_err-rule
rules_at-returns-in_err-rule t c =
    let p = err_from_is_err_and c.from_residual.result c.from_residual.ensures.1 in
    rw (p.1, p.2) (no_rule c.in_err-rule.field-0.0 (map rule_of c.loop-used.rules.items) c.args.levels c.loop-used.used (toks c.loop-used.rest.now) (rules_at c.args.levels (toks c.args.tokens.now)) c.loop-used-test.true c.in_err-rule.ensures c.loop-used.invariant)

pub rules_at-returns-then-not-begins : goal.rules_at-returns-then-not-begins
rules_at-returns-then-not-begins t c =
    let ends : begins M.Comma (toks c.in_ok-rule.after.now) ≡ false = search rules in
    let pushed : map rule_of c.push.new.self.items ≡ map rule_of c.loop-used.rules.items ++ rule_of c.in_ok-rule.rule ∷ [] = ap (map rule_of) c.in_ok-push.ensures.items ∙ map-append rule_of c.loop-used.rules.items (c.in_ok-rule.rule ∷ []) in
    rw pushed (last_rule (map rule_of c.loop-used.rules.items) c.args.levels c.loop-used.used (toks c.loop-used.rest.now) (rule_of c.in_ok-rule.rule) (toks c.in_ok-rule.after.now) (rules_at c.args.levels (toks c.args.tokens.now)) c.loop-used-test.true c.in_ok-rule.ensures ends c.loop-used.invariant)

pub rules_at-loop-used-preserved : goal.rules_at-loop-used-preserved
rules_at-loop-used-preserved t c =
    let more : begins M.Comma (toks c.in_ok-rule.after.now) ≡ true = search rules in
    let pushed : map rule_of c.push.new.self.items ≡ map rule_of c.loop-used.rules.items ++ rule_of c.in_ok-rule.rule ∷ [] = ap (map rule_of) c.in_ok-push.ensures.items ∙ map-append rule_of c.loop-used.rules.items (c.in_ok-rule.rule ∷ []) in
    let e : toks c.behind_first-rest.result.now ≡ drop 1 (toks c.in_ok-rule.after.now) = search rules in
    rw (pushed, e) (further_rule (map rule_of c.loop-used.rules.items) c.args.levels c.loop-used.used (toks c.loop-used.rest.now) (rule_of c.in_ok-rule.rule) (toks c.in_ok-rule.after.now) (rules_at c.args.levels (toks c.args.tokens.now)) c.loop-used-test.true c.in_ok-rule.ensures more c.loop-used.invariant)

pub rules_at-returns : goal.rules_at-returns
rules_at-returns t c =
    no_level (map rule_of c.loop-used.rules.items) c.args.levels c.loop-used.used (toks c.loop-used.rest.now) (rules_at c.args.levels (toks c.args.tokens.now)) c.loop-used-test.false c.loop-used.invariant
