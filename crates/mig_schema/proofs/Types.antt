-- Named types that stand in an indexed map.
use Rattle.std.proofs.Common.{◌≡◌, ℕ, ◌+◌, ◌<◌, ◌||◌, get_or, take, drop, List, [], ◌∷◌, ◌++◌, Bool, true, false, cond, map, nat_eq, length, position, slice_get, Option, Some, None, option_map, refl, sym, ap, subst, ◌∙◌}
use Rattle.std.specs.Prelude.{is_some, not, option_copied}
use Rattle.std.specs.Borrow.{Bor}
use Rattle.std.specs.Cmp.{IsEquivalence}
use Rattle.std.specs.Cmp.Lexicographic.{pointwise, texts_ties, bytes_decides, nat_list_eq_equiv}
use Rattle.std.specs.List.{IsDistinct, list_any}
use Rattle.std.specs.Map.{keys_of, values_of, lookup}
use Rattle.std.proofs.lemmas.List.{take-append-drop, map-append}
use Rattle.std.proofs.lemmas.Simd.{map-map}
use Rattle.std.proofs.lemmas.Option.{slice_get-map}
use Rattle.std.proofs.lemmas.List.Folds.{list_any-append}
use Rattle.std.proofs.lemmas.Map.Made.{is_some-lookup}
use Rattle.mig_model.specs.Family.{find_type}
use Rattle.mig_model.specs.Names.{has_twice, same_name}
use Rattle.mig_model.specs.Template as model
use Rattle.mig_model.proofs.Entries.{keys_append}
use Rattle.mig_tree.proofs.Places.{drop_here}
use Rattle.mig_template.specs.declared.template.Template.{Template}
use Rattle.mig_template.specs.View.{template_of}
use Rattle.mig_template.proofs.Names.{once_if_apart}
use Rattle.mig_schema.specs.Types.{Named, named_of, named_all, type_place}
use Rattle.mig_model.proofs.Bools.{first_false, second_false}

-- two names are equal by the `==` of names exactly where they have the same bytes
pub equal_is_same : pointwise nat_eq ≡ same_name
equal_is_same = λ i x y. texts_ties x y i

pub same_name_laws : IsEquivalence same_name
same_name_laws = subst IsEquivalence equal_is_same nat_list_eq_equiv

pub names_kept : (ts : List (List ℕ × Template)) → keys_of (named_all ts) ≡ keys_of ts
names_kept ts = map-map (λ (t : Named). t.0) named_of ts

pub bodies_kept : (ts : List (List ℕ × Template)) → map template_of (values_of ts) ≡ values_of (named_all ts)
bodies_kept ts = map-map template_of (λ (t : List ℕ × Template). t.1) ts ∙ sym (map-map (λ (t : Named). t.1) named_of ts)

pub name_at_is : (ts : List (List ℕ × Template)) (k : ℕ) → option_map (λ (t : List ℕ × Template). t.0) (slice_get ts k) ≡ slice_get (keys_of (named_all ts)) k
name_at_is ts k = sym (slice_get-map (λ (t : List ℕ × Template). t.0) ts k) ∙ ap (λ ns. slice_get ns k) (sym (names_kept ts))

pub body_at_is : (ts : List (List ℕ × Template)) (k : ℕ) → slice_get (values_of (named_all ts)) k ≡ option_map template_of (slice_get (values_of ts) k)
body_at_is ts k = ap (λ Vs. slice_get Vs k) (sym (bodies_kept ts)) ∙ slice_get-map template_of (values_of ts) k

-- ---- look-ups

pub found_here : (n : List ℕ) (t : Named) (ts : List Named) → same_name n t.0 ≡ true → find_type n (t ∷ ts) ≡ Some t.1
found_here n t ts q = rw q refl

pub found_later : (n : List ℕ) (t : Named) (ts : List Named) → same_name n t.0 ≡ false → find_type n (t ∷ ts) ≡ find_type n ts
found_later n t ts q = rw q refl

found_by : (test : List ℕ → Bool) (n : List ℕ) → ((x : List ℕ) → test x ≡ same_name n x) → (ts : List (List ℕ × Template)) → option_map template_of (lookup test ts) ≡ find_type n (named_all ts)
found_by test n e [] = refl
found_by test n e (t ∷ ts) = by (test t.0) (e t.0) (found_by test n e ts)
  where
    by : (b : Bool) → b ≡ same_name n t.0 → option_map template_of (lookup test ts) ≡ find_type n (named_all ts) → option_map template_of (cond b (Some t.1) (lookup test ts)) ≡ find_type n (named_all (t ∷ ts))
    by true q rest = rw (← q) refl
    by false q rest = rw (← q) rest

-- what the map has at a name is the template of the first such type
pub found_is : (n : List ℕ) (ts : List (List ℕ × Template)) → option_map template_of (lookup (pointwise nat_eq n) ts) ≡ find_type n (named_all ts)
found_is n ts = found_by (pointwise nat_eq n) n (texts_ties n) ts

pub place_is : (n : List ℕ) (ts : List (List ℕ × Template)) → position (pointwise nat_eq n) (keys_of ts) ≡ type_place (named_all ts) n
place_is n ts = λ i. position (equal_is_same i n) (sym (names_kept ts) i)

-- a name is found exactly where it is among the names
pub is_some_find : (n : List ℕ) (ts : List Named) → is_some (find_type n ts) ≡ list_any (same_name n) (keys_of ts)
is_some_find n [] = refl
is_some_find n (t ∷ ts) = by (same_name n t.0) refl (is_some_find n ts)
  where
    by : (b : Bool) → same_name n t.0 ≡ b → is_some (find_type n ts) ≡ list_any (same_name n) (keys_of ts) → is_some (find_type n (t ∷ ts)) ≡ list_any (same_name n) (keys_of (t ∷ ts))
    by true q rest = rw q refl
    by false q rest = rw q rest

-- ---- distinct names

pub once_if_unique : (ts : List (List ℕ × Template)) → IsDistinct (pointwise nat_eq) (keys_of ts) → has_twice (keys_of (named_all ts)) ≡ false
once_if_unique ts h = ap has_twice (names_kept ts) ∙ once_if_apart (keys_of ts) (subst (λ e. IsDistinct e (keys_of ts)) equal_is_same h)

-- where no name stands twice, none stands before itself
apart_before : (ks : List (List ℕ)) (n : List ℕ) (ms : List (List ℕ)) → has_twice (ks ++ n ∷ ms) ≡ false → list_any (same_name n) ks ≡ false
apart_before [] n ms h = refl
apart_before (k ∷ ks) n ms h =
    let others : list_any (same_name k) (ks ++ n ∷ ms) ≡ false = first_false (list_any (same_name k) (ks ++ n ∷ ms)) (has_twice (ks ++ n ∷ ms)) h in
    let behind : (same_name k n || list_any (same_name k) ms) ≡ false = second_false (list_any (same_name k) ks) (same_name k n || list_any (same_name k) ms) (sym (list_any-append (same_name k) ks (n ∷ ms)) ∙ others) in
    let here : same_name n k ≡ false = same_name_laws.symm n k ∙ first_false (same_name k n) (list_any (same_name k) ms) behind in
    let rest : list_any (same_name n) ks ≡ false = apart_before ks n ms (second_false (list_any (same_name k) (ks ++ n ∷ ms)) (has_twice (ks ++ n ∷ ms)) h) in
    λ i. here i || rest i

apart_in_middle : (ts : List (List ℕ × Template)) (t : Named) (us : List Named) → has_twice (keys_of (named_all ts ++ t ∷ us)) ≡ false → list_any (same_name t.0) (keys_of ts) ≡ false
apart_in_middle ts t us h =
    ap (list_any (same_name t.0)) (sym (names_kept ts)) ∙ apart_before (keys_of (named_all ts)) t.0 (keys_of us) (sym (ap has_twice (keys_append (named_all ts) (t ∷ us))) ∙ h)

among_is_there : (n : List ℕ) (ts : List (List ℕ × Template)) → is_some (lookup (pointwise nat_eq n) ts) ≡ list_any (same_name n) (keys_of ts)
among_is_there n ts = is_some-lookup (pointwise nat_eq n) ts ∙ ap (λ (e : List ℕ → List ℕ → Bool). list_any (e n) (keys_of ts)) equal_is_same

-- of types with distinct names, those before one don't have its name
pub new_in_middle : (ts : List (List ℕ × Template)) (t : Named) (us : List Named) → has_twice (keys_of (named_all ts ++ t ∷ us)) ≡ false → lookup (pointwise nat_eq t.0) ts ≡ None
new_in_middle ts t us h = by (lookup (pointwise nat_eq t.0) ts) refl
  where
    by : (o : Option Template) → lookup (pointwise nat_eq t.0) ts ≡ o → lookup (pointwise nat_eq t.0) ts ≡ None
    by None e = e
    by (Some V) e = let never : true ≡ false = sym (ap is_some e) ∙ among_is_there t.0 ts ∙ apart_in_middle ts t us h in absurd cc

-- a name that those before it have is there twice
pub twice_at : (all : List (List ℕ × Template)) (ts : List (List ℕ × Template)) (i : ℕ) (t : List ℕ × Template)
    → i < length all → t ≡ get_or all i t → ts ≡ take i all → (lookup (pointwise nat_eq t.0) ts ≡ None → ⊥) → has_twice (keys_of (named_all all)) ≡ true
twice_at all ts i t l is before there = by (has_twice (keys_of (named_all all))) refl
  where
    split : all ≡ ts ++ t ∷ drop (i + 1) all
    split = sym (take-append-drop i all) ∙ (λ j. sym before j ++ drop_here all i t l is j)

    by : (b : Bool) → has_twice (keys_of (named_all all)) ≡ b → has_twice (keys_of (named_all all)) ≡ true
    by true e = e
    by false e =
        absurd (there (new_in_middle ts (named_of t) (named_all (drop (i + 1) all)) (sym (ap (λ ts. has_twice (keys_of ts)) (ap named_all split ∙ map-append named_of ts (t ∷ drop (i + 1) all))) ∙ e)))

-- one more type in the map
pub one_more : (ts : List (List ℕ × Template)) (t : Named) (s : List ℕ × Template) (us : List Named) → named_of s ≡ t → named_all (ts ++ s ∷ []) ++ us ≡ named_all ts ++ t ∷ us
one_more [] t s us e = ap (λ n. n ∷ us) e
one_more (u ∷ ts) t s us e = ap (λ ns. named_of u ∷ ns) (one_more ts t s us e)

-- ---- what a step of a loop needs

pub none_if_not_some : {A : Type 0} (o : Option A) (b : Bool) → is_some o ≡ not b → b ≡ true → o ≡ None
none_if_not_some None b e h = refl
none_if_not_some (Some x) b e h = absurd cc

-- what an option of references shows
pub mapped_copied : {A B : Type 0} (f : A → B) (o : Option (Bor A)) → option_map (λ x. f x.now) o ≡ option_map f (option_copied o)
mapped_copied f None = refl
mapped_copied f (Some x) = refl

-- a test of bodies, at the first of those that are left
pub test_at_first : (p : model.Template → Bool) (Vs rest : List Template) (V : Template) → Vs ≡ V ∷ rest → list_any p (map template_of Vs) ≡ (p (template_of V) || list_any p (map template_of rest))
test_at_first p Vs rest V e = ap (λ (l : List Template). list_any p (map template_of l)) e

pub test_of_bodies : (p : model.Template → Bool) (ts : List Named) → list_any p (values_of ts) ≡ list_any (λ (t : Named). p t.1) ts
test_of_bodies p [] = refl
test_of_bodies p (t ∷ ts) = ap (λ b. p t.1 || b) (test_of_bodies p ts)
