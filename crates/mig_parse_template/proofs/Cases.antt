-- Reading one case after another: what is in the grammar, and how a loop reads them.
use Rattle.std.proofs.Common.{◌≡◌, ℕ, zero, suc, ◌-◌, ◌+◌, ◌≤◌, ◌<◌, List, [], ◌∷◌, ◌++◌, drop, Bool, true, false, Some, None, refl, sym, ◌∙◌, arith}
use Rattle.std.specs.Prelude.{◌&&◌}
use Rattle.mig_model.proofs.Bools.{first_true}
use Rattle.mig_token.specs.declared.mark.Mark.TheVariants as M
use Rattle.mig_token.specs.Token.{Tok, mark}
use Rattle.mig_reader.specs.declared.error.ParseError.{ParseError}
use Rattle.mig_reader.specs.declared.error.ParseError.TheVariants as errors
use Rattle.mig_syntax.specs.TemplateSyntax.{TemplateSyntax, CaseSyntax}
use Rattle.mig_reader.specs.Reading.{Fails, Read, Reader, begins, after_items}
use Rattle.mig_parse_template.specs.Grammar.{comma_kept}
use Rattle.mig_parse_template.specs.Reading.{case_at, goes_on, cases_at, comma_kept_at}
use Rattle.mig_reader.proofs.Fronts.{here}
use Rattle.mig_reader.proofs.Lists.{regroup}

pub is_comma : (ts : List Tok) → goes_on ts ≡ true → begins M.Comma ts ≡ true
unfolding goes_on
is_comma ts h = first_true (begins M.Comma ts) _ h

-- `, else kept` or nothing, before the `}`
pub kept_after : (kept : Bool) (us : List Tok) → comma_kept_at (comma_kept kept ++ mark M.CurlyClose ∷ us) ≡ here kept (mark M.CurlyClose ∷ us)
unfolding comma_kept_at
kept_after true us = refl
kept_after false us = refl

pub no_further : (kept : Bool) (us : List Tok) → goes_on (comma_kept kept ++ mark M.CurlyClose ∷ us) ≡ false
unfolding goes_on
no_further true us = refl
no_further false us = refl

module _ (T : Reader TemplateSyntax) where
  -- ---- what is in the grammar is read
  pub cases_last : (n : ℕ) (ts rest : List Tok) (c : CaseSyntax) → 0 < n → case_at T ts ≡ here c rest → goes_on rest ≡ false → cases_at T n ts ≡ here (c ∷ []) rest
  unfolding cases_at
  cases_last zero ts rest c l e h = absurd (omega arith)
  cases_last (suc n) ts rest c l e h = rw (e, h) refl

  pub cases_more : (n : ℕ) (ts b rest : List Tok) (c : CaseSyntax) (cs : List CaseSyntax) → case_at T ts ≡ here c (mark M.Comma ∷ b) → goes_on (mark M.Comma ∷ b) ≡ true → cases_at T n b ≡ here cs rest → cases_at T (suc n) ts ≡ here (c ∷ cs) rest
  unfolding cases_at
  cases_more n ts b rest c cs e h f = rw (e, h, f) refl

  -- ---- a loop
  pub no_case : (e : ParseError) (front : List CaseSyntax) (count i : ℕ) (ts : List Tok) (total : Read (List CaseSyntax)) → i < count → Fails e (case_at T ts)
      → after_items front (cases_at T (count - i) ts) ≡ total → Fails e total
  unfolding cases_at
  no_case errors.Memory front count i ts total lt f so_far = tt
  no_case errors.Wrong front count i ts total lt f so_far =
      let k : count - i ≡ suc (count - (i + 1)) = omega arith in
      let one : after_items front (cases_at T (count - i) ts) ≡ None = rw (k, f) refl in
      sym so_far ∙ one

  pub last_case : (front : List CaseSyntax) (count i : ℕ) (ts : List Tok) (c : CaseSyntax) (after : List Tok) (total : Read (List CaseSyntax)) → i < count → case_at T ts ≡ Some (c, after) → goes_on after ≡ false
      → after_items front (cases_at T (count - i) ts) ≡ total → total ≡ Some (front ++ c ∷ [], after)
  unfolding cases_at
  last_case front count i ts c after total lt is ends so_far =
      let k : count - i ≡ suc (count - (i + 1)) = omega arith in
      let one : after_items front (cases_at T (count - i) ts) ≡ Some (front ++ c ∷ [], after) = rw (k, is, ends) refl in
      sym so_far ∙ one

  pub further_case : (front : List CaseSyntax) (count i : ℕ) (ts : List Tok) (c : CaseSyntax) (after : List Tok) (total : Read (List CaseSyntax)) → i < count → case_at T ts ≡ Some (c, after) → goes_on after ≡ true
      → after_items front (cases_at T (count - i) ts) ≡ total → after_items (front ++ c ∷ []) (cases_at T (count - (i + 1)) (drop 1 after)) ≡ total
  unfolding cases_at
  further_case front count i ts c after total lt is more so_far =
      let k : count - i ≡ suc (count - (i + 1)) = omega arith in
      let one : after_items front (cases_at T (count - i) ts) ≡ after_items (front ++ c ∷ []) (cases_at T (count - (i + 1)) (drop 1 after)) = rw (k, is, more) (regroup front c (cases_at T (count - (i + 1)) (drop 1 after))) in
      sym one ∙ so_far

  pub no_turn_left : (front : List CaseSyntax) (count i : ℕ) (ts : List Tok) (total : Read (List CaseSyntax)) → count ≤ i → after_items front (cases_at T (count - i) ts) ≡ total → total ≡ None
  unfolding cases_at
  no_turn_left front count i ts total le so_far =
      let k : count - i ≡ 0 = omega arith in
      let one : after_items front (cases_at T (count - i) ts) ≡ None = rw k refl in
      sym so_far ∙ one
