-- Declarations at which nothing from 1 to 9 holds.
use Rattle.std.proofs.Common.{◌≡◌, ◌∙◌, ◌<◌, ◌||◌, ◌&&◌, ℕ, ℤ, zero, suc, List, [], ◌∷◌, Bool, true, false, Option, Some, None, length, refl, sym, ap, subst, arith}
use Rattle.std.specs.Prelude.{not, option_map, if◌then◌else◌, ◌==◌, nat_lt}
use Rattle.std.specs.Option.{option_or}
use Rattle.std.proofs.lemmas.Bool.Decides.{Decides-int_eq}
use Rattle.std.proofs.lemmas.Option.{same_Some}
use Rattle.mig_model.specs.declared.form.Form.{Form}
use Rattle.mig_syntax.specs.DeclSyntax as decl
use Rattle.mig_syntax.specs.DeclSyntax.{DeclSyntax}
use Rattle.mig_resolve.specs.Text.{form_in, has_type, nearest_version}
use Rattle.mig_resolve_template.specs.Templates.{template_is_twice}
use Rattle.mig_resolve.specs.Faults.{Fault, form_is_misplaced, version_is_misplaced, schema_is_misplaced, is_one_too_many, version_is_wrong, number_is_wrong, kind_is_wrong, is_out_of_range, is_twice, number_by_place, number_by_content, number_at, lesser, fault_at_end, least_fault, is_version_number, is_above, is_number}
use Rattle.mig_resolve.specs.Right.{IsRight, IsRightFix, AreRight}

-- nothing from 1 to 9 holds at the declaration
pub record IsClear (form : Form) (before : List DeclSyntax) (d : DeclSyntax) (later : List DeclSyntax) : Type 0 where
  pub form_placed : form_is_misplaced before d ≡ false
  pub version_placed : version_is_misplaced before d ≡ false
  pub schema_placed : schema_is_misplaced before d later ≡ false
  pub within : is_one_too_many before d ≡ false
  pub version_right : version_is_wrong before d ≡ false
  pub number_right : number_is_wrong d later ≡ false
  pub kinds : kind_is_wrong form d ≡ false
  pub range : is_out_of_range d ≡ false
  pub once : is_twice before d ≡ false

-- at none of them
abbrev pub AreClear : Form → List DeclSyntax → List DeclSyntax → Type 0
AreClear form before [] = fault_at_end (length before) ≡ None
AreClear form before (d ∷ later) = IsClear form before d later × AreClear form (d ∷ before) later

passed : (b : Bool) (n : ℕ) (o : Option ℕ) → (if b then Some n else o) ≡ None → (b ≡ false) × (o ≡ None)
passed true n o e = absurd cc
passed false n o e = (refl, e)

none_or : (a b : Option ℕ) → option_or a b ≡ None → (a ≡ None) × (b ≡ None)
none_or None b e = (refl, e)
none_or (Some n) b e = absurd cc

none_lesser : (a b : Option Fault) → lesser a b ≡ None → (a ≡ None) × (b ≡ None)
none_lesser None b e = (refl, e)
none_lesser (Some f) None e = absurd cc
none_lesser (Some f) (Some g) e = by (nat_lt g.0 f.0) e
  where
    by : (b : Bool) → (if b then Some g else Some f) ≡ None → (Some f ≡ None) × (Some g ≡ None)
    by true e' = absurd cc
    by false e' = absurd cc

unmapped : {A B : Type 0} (f : A → B) (o : Option A) → option_map f o ≡ None → o ≡ None
unmapped f None e = refl
unmapped f (Some a) e = absurd cc

clear_at : (form : Form) (before : List DeclSyntax) (d : DeclSyntax) (later : List DeclSyntax) → number_at form before d later ≡ None → IsClear form before d later
clear_at form before d later e =
    let both = none_or (number_by_place before d later) (number_by_content form before d) e in
    let one = passed (form_is_misplaced before d) 1 _ both.0 in
    let two = passed (version_is_misplaced before d) 2 _ one.1 in
    let three = passed (schema_is_misplaced before d later) 3 _ two.1 in
    let four = passed (is_one_too_many before d) 4 _ three.1 in
    let five = passed (version_is_wrong before d) 5 _ four.1 in
    let six = passed (number_is_wrong d later) 6 _ five.1 in
    let seven = passed (kind_is_wrong form d) 7 _ both.1 in
    let eight = passed (is_out_of_range d) 8 _ seven.1 in
    let nine = passed (is_twice before d) 9 _ eight.1 in
    record { form_placed = one.0; version_placed = two.0; schema_placed = three.0; within = four.0; version_right = five.0; number_right = six.0; kinds = seven.0; range = eight.0; once = nine.0 }

pub all_clear : (form : Form) (before ds : List DeclSyntax) → least_fault form before ds ≡ None → AreClear form before ds
all_clear form before [] e = e
all_clear form before (d ∷ later) e =
    let both = none_lesser (option_map (λ n. (n, suc (length before))) (number_at form before d later)) (least_fault form (d ∷ before) later) e in
    (clear_at form before d later (unmapped (λ (n : ℕ). (n, suc (length before))) (number_at form before d later) both.0), all_clear form (d ∷ before) later both.1)

-- ---- what each declaration has then
pub neither : (a b : Bool) → (a || b) ≡ false → (a ≡ false) × (b ≡ false)
neither true b e = absurd cc
neither false b e = (refl, e)

pub not_false : (b : Bool) → not b ≡ false → b ≡ true
not_false true e = refl
not_false false e = absurd cc

-- the next schema's version is in range
next_in_range : (form : Form) (before ds : List DeclSyntax) (y : ℤ) → AreClear form before ds → nearest_version ds ≡ Some y → is_version_number y ≡ true
next_in_range form before [] y h e = absurd cc
next_in_range form before (decl.schema z follows ∷ ds) y h e =
    let same : z ≡ y = same_Some z y e in
    subst (λ x. is_version_number x ≡ true) same (not_false (is_version_number z) (neither (not (is_version_number z)) (not (is_above (nearest_version before) z)) h.0.version_right).0)
next_in_range form before (decl.form f ∷ ds) y h e = next_in_range form (decl.form f ∷ before) ds y h.1 e
next_in_range form before (decl.version xs z ∷ ds) y h e = next_in_range form (decl.version xs z ∷ before) ds y h.1 e
next_in_range form before (decl.named n t ∷ ds) y h e = next_in_range form (decl.named n t ∷ before) ds y h.1 e
next_in_range form before (decl.root n ∷ ds) y h e = next_in_range form (decl.root n ∷ before) ds y h.1 e
next_in_range form before (decl.fix z x ∷ ds) y h e = next_in_range form (decl.fix z x ∷ before) ds y h.1 e

fix_number : (form : Form) (before ds : List DeclSyntax) (z : ℤ) (o : Option ℤ) → nearest_version ds ≡ o → AreClear form before ds → not (is_number o z) ≡ false → is_version_number z ≡ true
fix_number form before ds z None e h n = absurd cc
fix_number form before ds z (Some y) e h n =
    let same : y ≡ z = (Decides-int_eq y z).0 (not_false (is_number (Some y) z) n) in
    subst (λ x. is_version_number x ≡ true) same (next_in_range form before ds y h e)

right_at : (form : Form) (before : List DeclSyntax) (d : DeclSyntax) (later : List DeclSyntax) → IsClear form before d later → AreClear form (d ∷ before) later → IsRight form d
right_at form before (decl.form f) later c h = tt
right_at form before (decl.version xs None) later c h = tt
right_at form before (decl.version xs (Some z)) later c h = not_false (is_version_number z) c.version_right
right_at form before (decl.schema z follows) later c h = not_false (is_version_number z) (neither (not (is_version_number z)) (not (is_above (nearest_version before) z)) c.version_right).0
right_at form before (decl.named n t) later c h = (neither (template_is_twice t) (has_type n before) c.once).0
right_at form before (decl.root n) later c h = tt
right_at form before (decl.fix z x) later c h =
    (fix_number form (decl.fix z x ∷ before) later z (nearest_version later) refl h c.number_right, record { kinds = c.kinds; range = c.range; once = c.once })

pub all_right : (form : Form) (before ds : List DeclSyntax) → AreClear form before ds → AreRight form ds
all_right form before [] h = tt
all_right form before (d ∷ later) h = (right_at form before d later h.0 h.1, all_right form (d ∷ before) later h.1)
