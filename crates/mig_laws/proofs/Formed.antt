-- What a formed family keeps, from the tests of its faults.
use Rattle.std.proofs.Common.{◌≡◌, refl, sym, ap, ◌∙◌, ℕ, List, [], ◌∷◌, Bool, true, false, true≢false, Some, None}
use Rattle.std.specs.Prelude.{not, ◌&&◌, ◌||◌, unwrap_or, if◌then◌else◌}
use Rattle.std.specs.List.{AllByRecursion, list_any}
use Rattle.mig_model.specs.declared.form.Form.{Form}
use Rattle.mig_model.specs.declared.kind.Kind.{Kind}
use Rattle.mig_model.specs.declared.kind.Kind.TheVariants as K
use Rattle.mig_model.specs.Template.{Template, leaf, any, list, point, rec, sum, Fields, no_field, field, Choice, no_choice, choice, Cases, no_case, case, is_of_form, is_leaf, has_kind, kind_number}
use Rattle.mig_model.specs.Names.{same_name}
use Rattle.mig_model.specs.Family.{Family, find_type, body, any_inside, any_in_fields, any_in_choice, any_in_cases, kinds, is_wrong_leaf, is_point, has_point_side, sides_overlap, Flaw, twice_named, too_many, too_deep, wrong_kind, unknown_name, unguarded, sum_overlap, mixed_list, root_not_record, version_path, version_name_used, any_type, has_flaw, flaws, first_of, IsFormed}
use Rattle.mig_laws.specs.Sides.{is_guarded, is_side, AreSides, SumsApart, FieldsApart, ChoiceApart, CasesApart}
use Rattle.std.proofs.lemmas.Bool.{not-false, false_from_ne_true}
use Rattle.std.proofs.lemmas.List.Folds.{list_any_at}
use Rattle.mig_model.proofs.SameNames.{at_number, same_kind_itself}
use Rattle.mig_laws.proofs.Parts.{shared_kinds}
use Rattle.mig_model.proofs.Bools.{split_and, split_or, both_true}

-- a formed family has none of the eleven faults
none_of : (ws : List Flaw) (f : Family) → first_of ws f ≡ None → AllByRecursion (λ w. has_flaw w f ≡ false) ws
none_of [] f e = tt
none_of (w ∷ ws) f e = go (has_flaw w f) refl (none_of ws f) e
  where
    go : (b : Bool) → has_flaw w f ≡ b → (first_of ws f ≡ None → AllByRecursion (λ v. has_flaw v f ≡ false) ws) → (if b then Some w else first_of ws f) ≡ None
        → (has_flaw w f ≡ false) × AllByRecursion (λ v. has_flaw v f ≡ false) ws
    go true h rest e' = absurd (cc)
    go false h rest e' = (h, rest e')

pub no_flaw : (f : Family) → IsFormed f → (w : Flaw) → has_flaw w f ≡ false
no_flaw f e twice_named = (none_of flaws f e).0
no_flaw f e too_many = (none_of flaws f e).1.0
no_flaw f e too_deep = (none_of flaws f e).1.1.0
no_flaw f e wrong_kind = (none_of flaws f e).1.1.1.0
no_flaw f e unknown_name = (none_of flaws f e).1.1.1.1.0
no_flaw f e unguarded = (none_of flaws f e).1.1.1.1.1.0
no_flaw f e sum_overlap = (none_of flaws f e).1.1.1.1.1.1.0
no_flaw f e mixed_list = (none_of flaws f e).1.1.1.1.1.1.1.0
no_flaw f e root_not_record = (none_of flaws f e).1.1.1.1.1.1.1.1.0
no_flaw f e version_path = (none_of flaws f e).1.1.1.1.1.1.1.1.1.0
no_flaw f e version_name_used = (none_of flaws f e).1.1.1.1.1.1.1.1.1.1.0

-- what no type has, no body has; the body of a name that isn't there is any tree
each_type : (p : Template → Bool) (ts : List (List ℕ × Template)) → list_any (λ t. p t.1) ts ≡ false → p any ≡ false → (n : List ℕ) → p (unwrap_or (find_type n ts) any) ≡ false
each_type p [] e a n = a
each_type p (t ∷ ts) e a n = let both = split_or (p t.1) (list_any (λ t. p t.1) ts) e in go (same_name n t.0) both.0 (each_type p ts both.1 a n)
  where
    go : (b : Bool) → p t.1 ≡ false → p (unwrap_or (find_type n ts) any) ≡ false → p (unwrap_or (if b then Some t.1 else find_type n ts) any) ≡ false
    go true here rest = here
    go false here rest = rest

pub each_body : (p : Template → Bool) (f : Family) → any_type p f ≡ false → p any ≡ false → (n : List ℕ) → p (body f n) ≡ false
each_body p f e a n = each_type p f.types e a n

-- guarded bodies
guarded_inside : (V : Template) → is_point V ≡ false → any_inside has_point_side V ≡ false → is_guarded V ≡ true
guarded_inside (point n) p e = absurd (true≢false p)
guarded_inside (sum V W) p e =
    let here = split_or (is_point V || is_point W) (any_inside has_point_side V || any_inside has_point_side W) e in
    let points = split_or (is_point V) (is_point W) here.0 in
    let inside = split_or (any_inside has_point_side V) (any_inside has_point_side W) here.1 in
    both_true (is_guarded V) (is_guarded W) (guarded_inside V points.0 inside.0) (guarded_inside W points.1 inside.1)
guarded_inside _ p e = refl

no_point : (f : Family) → IsFormed f → (n : List ℕ) → (is_point (body f n) || any_inside has_point_side (body f n)) ≡ false
no_point f e n = each_body (λ V. is_point V || any_inside has_point_side V) f (no_flaw f e unguarded) refl n

pub body_guarded : (f : Family) → IsFormed f → (n : List ℕ) → is_guarded (body f n) ≡ true
body_guarded f e n = let both = split_or (is_point (body f n)) (any_inside has_point_side (body f n)) (no_point f e n) in guarded_inside (body f n) both.0 both.1

-- kinds
pub each_kind : (q : Kind → Bool) → list_any q kinds ≡ false → (k : Kind) → q k ≡ false
each_kind q e k =
    false_from_ne_true (q k) (λ h. true≢false (sym (list_any_at q kinds (kind_number k) K.Whole (at_number k).0 (ap q (at_number k).1 ∙ h)) ∙ e))

-- a guarded template has a root kind of the form
pub some_kind : (form : Form) (V : Template) → is_guarded V ≡ true → any_inside (is_wrong_leaf form) V ≡ false → (k : Kind) × (has_kind form V k ≡ true) × (is_of_form form k ≡ true)
some_kind form (leaf k) g e = (k, same_kind_itself k, (split_and (is_leaf k) (is_of_form form k) (not-false (is_leaf k && is_of_form form k) e)).1)
some_kind form any g e = (K.Text, (shared_kinds form).2, (shared_kinds form).2)
some_kind form (list V) g e = (K.List, refl, (shared_kinds form).0)
some_kind form (point n) g e = absurd (true≢false (sym g))
some_kind form (rec fs c r) g e = (K.Map, refl, (shared_kinds form).1)
some_kind form (sum V W) g e =
    let inside = split_or (any_inside (is_wrong_leaf form) V) (any_inside (is_wrong_leaf form) W) e in
    let one = some_kind form V (split_and (is_guarded V) (is_guarded W) g).0 inside.0 in
    (one.0, ap (λ b. b || has_kind form W one.0) one.1, one.2)

-- templates of which each one inside passes the tests on leaves and sums
abbrev Sound : Form → ((Template → Bool) → Bool) → Type 0
Sound form inside = (inside has_point_side ≡ false) × (inside (sides_overlap form) ≡ false) × (inside (is_wrong_leaf form) ≡ false)

parts : (form : Form) (a b : (Template → Bool) → Bool) → Sound form (λ p. a p || b p) → Sound form a × Sound form b
parts form a b s =
    let points = split_or (a has_point_side) (b has_point_side) s.0 in
    let overlap = split_or (a (sides_overlap form)) (b (sides_overlap form)) s.1 in
    let leaves = split_or (a (is_wrong_leaf form)) (b (is_wrong_leaf form)) s.2 in
    ((points.0, overlap.0, leaves.0), (points.1, overlap.1, leaves.1))

-- any tree isn't a side, since it shares a kind with each template
side : (form : Form) (V W : Template) → is_point V ≡ false → SumsApart form V → is_guarded W ≡ true → any_inside (is_wrong_leaf form) W ≡ false → ((k : Kind) → has_kind form V k ≡ true → has_kind form W k ≡ true → ⊥) → is_side V ≡ true
side form any W p a g e never = let one = some_kind form W g e in absurd (never one.0 one.2 one.1)
side form (point n) W p a g e never = absurd (true≢false p)
side form (sum V U) W p a g e never = both_true (is_side V) (is_side U) a.0.left a.0.right
side form _ W p a g e never = refl

second_false : (a b : Bool) → (a && b) ≡ false → a ≡ true → b ≡ false
second_false true b e h = e
second_false false b e h = absurd (true≢false (sym h))

sides : (form : Form) (V W : Template) → Sound form (λ p. p (sum V W)) → Sound form (λ p. any_inside p V) → Sound form (λ p. any_inside p W) → SumsApart form V → SumsApart form W → AreSides form V W
sides form V W s sV sW aV aW =
    let points = split_or (is_point V) (is_point W) s.0 in
    let apart : (k : Kind) → has_kind form V k ≡ true → has_kind form W k ≡ false =
    λ k. second_false (has_kind form V k) (has_kind form W k) (each_kind (λ j. has_kind form V j && has_kind form W j) s.1 k) in
    record {
      left = side form V W points.0 aV (guarded_inside W points.1 sW.0) sW.2 (λ k v w. absurd (true≢false (sym w ∙ apart k v)));
      right = side form W V points.1 aW (guarded_inside V points.0 sV.0) sV.2 (λ k w v. absurd (true≢false (sym w ∙ apart k v)));
      apart = apart;
    }

mutual
  sums_apart : (form : Form) (V : Template) → Sound form (λ p. any_inside p V) → SumsApart form V
  sums_apart form (list V) s = sums_apart form V (parts form (λ p. p (list V)) (λ p. any_inside p V) s).1
  sums_apart form (rec fs c r) s =
      let inside = parts form (λ p. any_in_fields p fs) (λ p. any_in_choice p c) (parts form (λ p. p (rec fs c r)) (λ p. any_in_fields p fs || any_in_choice p c) s).1 in
      (fields_apart form fs inside.0, choice_apart form c inside.1)
  sums_apart form (sum V W) s =
      let here = parts form (λ p. p (sum V W)) (λ p. any_inside p V || any_inside p W) s in
      let inside = parts form (λ p. any_inside p V) (λ p. any_inside p W) here.1 in
      let left = sums_apart form V inside.0 in
      let right = sums_apart form W inside.1 in
      (sides form V W here.0 inside.0 inside.1 left right, left, right)
  sums_apart form _ s = tt

  fields_apart : (form : Form) (fs : Fields) → Sound form (λ p. any_in_fields p fs) → FieldsApart form fs
  fields_apart form no_field s = tt
  fields_apart form (field x q V fs) s = let inside = parts form (λ p. any_inside p V) (λ p. any_in_fields p fs) s in (sums_apart form V inside.0, fields_apart form fs inside.1)

  choice_apart : (form : Form) (c : Choice) → Sound form (λ p. any_in_choice p c) → ChoiceApart form c
  choice_apart form no_choice s = tt
  choice_apart form (choice tag cs kept) s = cases_apart form cs s

  cases_apart : (form : Form) (cs : Cases) → Sound form (λ p. any_in_cases p cs) → CasesApart form cs
  cases_apart form no_case s = tt
  cases_apart form (case l fs cs) s = let inside = parts form (λ p. any_in_fields p fs) (λ p. any_in_cases p cs) s in (fields_apart form fs inside.0, cases_apart form cs inside.1)

pub body_apart : (f : Family) → IsFormed f → (n : List ℕ) → SumsApart f.form (body f n)
body_apart f e n =
    sums_apart f.form (body f n) (
      (split_or (is_point (body f n)) (any_inside has_point_side (body f n)) (no_point f e n)).1,
      each_body (any_inside (sides_overlap f.form)) f (no_flaw f e sum_overlap) refl n,
      each_body (any_inside (is_wrong_leaf f.form)) f (no_flaw f e wrong_kind) refl n,
    )
