-- Reading one member after another, as a loop does.
use Rattle.std.proofs.Common.{◌≡◌, ℕ, suc, ◌-◌, ◌+◌, ◌≤◌, ◌<◌, List, [], ◌∷◌, ◌++◌, drop, Bool, true, false, Option, Some, None, refl, sym, ap, ◌∙◌, append_assoc, append-nil, arith}
use Rattle.mig_token.specs.declared.mark.Mark.TheVariants as M
use Rattle.mig_token.specs.Token.{Tok}
use Rattle.mig_reader.specs.declared.error.ParseError.{ParseError}
use Rattle.mig_reader.specs.declared.error.ParseError.TheVariants as errors
use Rattle.mig_syntax.specs.TemplateSyntax.{TemplateSyntax, FieldSyntax, CasesOfTag}
use Rattle.mig_reader.specs.Reading.{◌>>=◌, Fails, Read, Reader, begins}
use Rattle.mig_parse_template.specs.Reading.{field_at, last_choice_at, MembersSyntax, members_at, after_fields}

regroup : (front : List FieldSyntax) (f : FieldSyntax) (read : Read MembersSyntax) → after_fields front (read >>= λ x. Some ((f ∷ x.0.0, x.0.1, x.0.2), x.1)) ≡ after_fields (front ++ f ∷ []) read
regroup front f (Some x) = ap (λ (fs : List FieldSyntax). Some ((fs, x.0.1, x.0.2), x.1)) (sym (append_assoc front (f ∷ []) x.0.0))
regroup front f None = refl

abbrev Members : Type 0
Members = Read MembersSyntax

abbrev found : List FieldSyntax → Option CasesOfTag → Bool → List Tok → Members
found fs c dots rest = Some ((fs, c, dots), rest)

module _ (T : Reader TemplateSyntax) where
  pub at_dots : (front : List FieldSyntax) (count i : ℕ) (ts : List Tok) (total : Members) → i < count → begins M.Dots ts ≡ true
      → after_fields front (members_at T (count - i) ts) ≡ total → total ≡ found front None true (drop 1 ts)
  unfolding members_at
  at_dots front count i ts total lt h so_far =
      let k : count - i ≡ suc (count - (i + 1)) = omega arith in
      let one : after_fields front (members_at T (count - i) ts) ≡ found front None true (drop 1 ts) = rw (k, h) (ap (λ (fs : List FieldSyntax). found fs None true (drop 1 ts)) (append-nil front)) in
      sym so_far ∙ one

  pub no_choice_read : (e : ParseError) (front : List FieldSyntax) (count i : ℕ) (ts : List Tok) (total : Members) → i < count → begins M.Dots ts ≡ false → begins M.Choice ts ≡ true → Fails e (last_choice_at T (drop 1 ts))
      → after_fields front (members_at T (count - i) ts) ≡ total → Fails e total
  unfolding members_at
  no_choice_read errors.Memory front count i ts total lt h w f so_far = tt
  no_choice_read errors.Wrong front count i ts total lt h w f so_far =
      let k : count - i ≡ suc (count - (i + 1)) = omega arith in
      let one : after_fields front (members_at T (count - i) ts) ≡ None = rw (k, h, w, f) refl in
      sym so_far ∙ one

  pub at_choice : (front : List FieldSyntax) (count i : ℕ) (ts : List Tok) (c : CasesOfTag) (dots : Bool) (after : List Tok) (total : Members) → i < count → begins M.Dots ts ≡ false → begins M.Choice ts ≡ true
      → last_choice_at T (drop 1 ts) ≡ Some ((c, dots), after) → after_fields front (members_at T (count - i) ts) ≡ total → total ≡ found front (Some c) dots after
  unfolding members_at
  at_choice front count i ts c dots after total lt h w is so_far =
      let k : count - i ≡ suc (count - (i + 1)) = omega arith in
      let one : after_fields front (members_at T (count - i) ts) ≡ found front (Some c) dots after = rw (k, h, w, is) (ap (λ (fs : List FieldSyntax). found fs (Some c) dots after) (append-nil front)) in
      sym so_far ∙ one

  pub no_field : (e : ParseError) (front : List FieldSyntax) (count i : ℕ) (ts : List Tok) (total : Members) → i < count → begins M.Dots ts ≡ false → begins M.Choice ts ≡ false → Fails e (field_at T ts)
      → after_fields front (members_at T (count - i) ts) ≡ total → Fails e total
  unfolding members_at
  no_field errors.Memory front count i ts total lt h w f so_far = tt
  no_field errors.Wrong front count i ts total lt h w f so_far =
      let k : count - i ≡ suc (count - (i + 1)) = omega arith in
      let one : after_fields front (members_at T (count - i) ts) ≡ None = rw (k, h, w, f) refl in
      sym so_far ∙ one

  pub at_last : (front : List FieldSyntax) (count i : ℕ) (ts : List Tok) (f : FieldSyntax) (after : List Tok) (total : Members) → i < count → begins M.Dots ts ≡ false → begins M.Choice ts ≡ false → field_at T ts ≡ Some (f, after)
      → begins M.Comma after ≡ false → after_fields front (members_at T (count - i) ts) ≡ total → total ≡ found (front ++ f ∷ []) None false after
  unfolding members_at
  at_last front count i ts f after total lt h w is ends so_far =
      let k : count - i ≡ suc (count - (i + 1)) = omega arith in
      let one : after_fields front (members_at T (count - i) ts) ≡ found (front ++ f ∷ []) None false after = rw (k, h, w, is, ends) refl in
      sym so_far ∙ one

  pub go_on : (front : List FieldSyntax) (count i : ℕ) (ts : List Tok) (f : FieldSyntax) (after : List Tok) (total : Members) → i < count → begins M.Dots ts ≡ false → begins M.Choice ts ≡ false → field_at T ts ≡ Some (f, after)
      → begins M.Comma after ≡ true → after_fields front (members_at T (count - i) ts) ≡ total → after_fields (front ++ f ∷ []) (members_at T (count - (i + 1)) (drop 1 after)) ≡ total
  unfolding members_at
  go_on front count i ts f after total lt h w is more so_far =
      let k : count - i ≡ suc (count - (i + 1)) = omega arith in
      let one : after_fields front (members_at T (count - i) ts) ≡ after_fields (front ++ f ∷ []) (members_at T (count - (i + 1)) (drop 1 after)) = rw (k, h, w, is, more) (regroup front f (members_at T (count - (i + 1)) (drop 1 after))) in
      sym one ∙ so_far

  pub no_more : (front : List FieldSyntax) (count i : ℕ) (ts : List Tok) (total : Members) → count ≤ i → after_fields front (members_at T (count - i) ts) ≡ total → total ≡ None
  unfolding members_at
  no_more front count i ts total le so_far =
      let k : count - i ≡ 0 = omega arith in
      let one : after_fields front (members_at T (count - i) ts) ≡ None = rw k refl in
      sym so_far ∙ one
