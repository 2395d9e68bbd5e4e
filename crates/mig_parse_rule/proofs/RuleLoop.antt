-- Reading one rule after another, as a loop does.
use Rattle.std.proofs.Common.{◌≡◌, ℕ, suc, ◌-◌, ◌+◌, ◌≤◌, ◌<◌, List, [], ◌∷◌, ◌++◌, drop, true, false, Some, None, refl, sym, ap, ◌∙◌, arith}
use Rattle.std.specs.Prelude.{if◌then◌else◌}
use Rattle.mig_token.specs.declared.mark.Mark.TheVariants as M
use Rattle.mig_token.specs.Token.{Tok}
use Rattle.mig_reader.specs.declared.error.ParseError.{ParseError}
use Rattle.mig_reader.specs.declared.error.ParseError.TheVariants as errors
use Rattle.mig_syntax.specs.RuleSyntax.{RuleSyntax}
use Rattle.mig_reader.proofs.Lists as lists
use Rattle.mig_reader.specs.Reading.{◌>>=◌, Fails, Read, begins, after_items}
use Rattle.mig_parse_rule.specs.Reading.{rule_at, rules_at}

abbrev Rules : Type 0
Rules = Read (List RuleSyntax)

-- the first of the rules is a rule with as many levels
first_rule : (d : ℕ) (ts : List Tok) (read : Read RuleSyntax) → rule_at (suc d) ts ≡ read → rules_at (suc d) ts ≡ (read >>= λ r. if begins M.Comma r.1 then (rules_at d (drop 1 r.1) >>= λ rs. Some (r.0 ∷ rs.0, rs.1)) else Some (r.0 ∷ [], r.1))
unfolding rule_at
first_rule d ts read is = rw is refl

pub no_rule : (e : ParseError) (front : List RuleSyntax) (levels i : ℕ) (ts : List Tok) (total : Rules) → i < levels → Fails e (rule_at (levels - i) ts)
    → after_items front (rules_at (levels - i) ts) ≡ total → Fails e total
no_rule errors.Memory front levels i ts total lt f so_far = tt
no_rule errors.Wrong front levels i ts total lt f so_far =
    let k : levels - i ≡ suc (levels - (i + 1)) = omega arith in
    let is : rule_at (suc (levels - (i + 1))) ts ≡ None = ap (λ (n : ℕ). rule_at n ts) (sym k) ∙ f in
    let one : after_items front (rules_at (levels - i) ts) ≡ None = rw (k, first_rule (levels - (i + 1)) ts None is) refl in
    sym so_far ∙ one

pub last_rule : (front : List RuleSyntax) (levels i : ℕ) (ts : List Tok) (r : RuleSyntax) (after : List Tok) (total : Rules) → i < levels → rule_at (levels - i) ts ≡ Some (r, after) → begins M.Comma after ≡ false
    → after_items front (rules_at (levels - i) ts) ≡ total → total ≡ Some (front ++ r ∷ [], after)
last_rule front levels i ts r after total lt f ends so_far =
    let k : levels - i ≡ suc (levels - (i + 1)) = omega arith in
    let is : rule_at (suc (levels - (i + 1))) ts ≡ Some (r, after) = ap (λ (n : ℕ). rule_at n ts) (sym k) ∙ f in
    let one : after_items front (rules_at (levels - i) ts) ≡ Some (front ++ r ∷ [], after) = rw (k, first_rule (levels - (i + 1)) ts (Some (r, after)) is, ends) refl in
    sym so_far ∙ one

pub further_rule : (front : List RuleSyntax) (levels i : ℕ) (ts : List Tok) (r : RuleSyntax) (after : List Tok) (total : Rules) → i < levels → rule_at (levels - i) ts ≡ Some (r, after) → begins M.Comma after ≡ true
    → after_items front (rules_at (levels - i) ts) ≡ total → after_items (front ++ r ∷ []) (rules_at (levels - (i + 1)) (drop 1 after)) ≡ total
further_rule front levels i ts r after total lt f more so_far =
    let k : levels - i ≡ suc (levels - (i + 1)) = omega arith in
    let is : rule_at (suc (levels - (i + 1))) ts ≡ Some (r, after) = ap (λ (n : ℕ). rule_at n ts) (sym k) ∙ f in
    let one : after_items front (rules_at (levels - i) ts) ≡ after_items (front ++ r ∷ []) (rules_at (levels - (i + 1)) (drop 1 after)) =
    rw (k, first_rule (levels - (i + 1)) ts (Some (r, after)) is, more) (lists.regroup front r (rules_at (levels - (i + 1)) (drop 1 after))) in
    sym one ∙ so_far

pub no_level : (front : List RuleSyntax) (levels i : ℕ) (ts : List Tok) (total : Rules) → levels ≤ i → after_items front (rules_at (levels - i) ts) ≡ total → total ≡ None
unfolding rule_at
no_level front levels i ts total le so_far =
    let k : levels - i ≡ 0 = omega arith in
    let one : after_items front (rules_at (levels - i) ts) ≡ None = rw k refl in
    sym so_far ∙ one
