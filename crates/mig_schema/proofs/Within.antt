-- Types that are within others, and types that have the same names and templates.
use Rattle.std.proofs.Common.{◌≡◌, ℕ, ◌||◌, List, [], ◌∷◌, Bool, true, false, length, Option, Some, None, refl, sym, ap, ◌∙◌, arith}
use Rattle.std.specs.Prelude.{is_some}
use Rattle.std.specs.List.{list_any}
use Rattle.std.specs.Map.{keys_of}
use Rattle.std.proofs.lemmas.Map.Entries.{length-keys_of}
use Rattle.std.proofs.lemmas.Map.Made.{length-le_from_is_member}
use Rattle.std.proofs.lemmas.Map.Steps.{list_any_congr}
use Rattle.mig_model.specs.Family.{find_type}
use Rattle.mig_model.specs.Names.{has_twice, same_name}
use Rattle.mig_model.specs.Template as model
use Rattle.mig_template.proofs.Names.{apart_if_once}
use Rattle.mig_schema.specs.Types.{Named, IsWithin}
use Rattle.mig_schema.proofs.Types.{same_name_laws, found_here, found_later, is_some_find}
use Rattle.mig_model.proofs.SameNames.{same_name_is}

pub none_within : (us : List Named) → IsWithin [] us
none_within us n V e = absurd cc

-- one more type is within the others if they have its template at its name
pub one_more_within : (t : Named) (ts us : List Named) → find_type t.0 us ≡ Some t.1 → IsWithin ts us → IsWithin (t ∷ ts) us
one_more_within t ts us h w n V = by (same_name n t.0) refl
  where
    by : (b : Bool) → same_name n t.0 ≡ b → find_type n (t ∷ ts) ≡ Some V → find_type n us ≡ Some V
    by true q e = ap (λ m. find_type m us) (same_name_is n t.0 q) ∙ h ∙ sym (found_here n t ts q) ∙ e
    by false q e = w n V (sym (found_later n t ts q) ∙ e)

-- a name of types that are within others is a name of those
names_within : (ts us : List Named) → IsWithin ts us → (n : List ℕ) → list_any (same_name n) (keys_of ts) ≡ true → list_any (same_name n) (keys_of us) ≡ true
names_within ts us w n h = by (find_type n ts) refl
  where
    by : (o : Option model.Template) → find_type n ts ≡ o → list_any (same_name n) (keys_of us) ≡ true
    by None e = let never : true ≡ false = sym h ∙ sym (is_some_find n ts) ∙ ap is_some e in absurd cc
    by (Some V) e = sym (is_some_find n us) ∙ ap is_some (w n V e)

-- distinct names with one more have no place in as many names
no_more_within : (ts us : List Named) (n : List ℕ) → length ts ≡ length us → has_twice (keys_of ts) ≡ false → IsWithin ts us → list_any (same_name n) (keys_of ts) ≡ false → list_any (same_name n) (keys_of us) ≡ true → ⊥
no_more_within ts us n l h w apart there =
    let once : has_twice (n ∷ keys_of ts) ≡ false = (λ i. apart i || h i) in
    let fewer = length-le_from_is_member same_name_laws (n ∷ keys_of ts) (keys_of us) (apart_if_once (n ∷ keys_of ts) once) (λ q. by q (same_name q n) refl) in
    omega (arith, fewer, length-keys_of ts, length-keys_of us)
  where
    by : (q : List ℕ) (b : Bool) → same_name q n ≡ b → (same_name q n || list_any (same_name q) (keys_of ts)) ≡ true → list_any (same_name q) (keys_of us) ≡ true
    by q true e k = list_any_congr same_name_laws q n (keys_of us) e ∙ there
    by q false e k = names_within ts us w q (sym (ap (λ b. b || list_any (same_name q) (keys_of ts)) e) ∙ k)

-- types within as many others have the same names and templates
pub same_if_within : (ts us : List Named) → length ts ≡ length us → has_twice (keys_of ts) ≡ false → IsWithin ts us → (n : List ℕ) → find_type n ts ≡ find_type n us
same_if_within ts us l h w n = by (find_type n ts) (find_type n us) refl refl
  where
    by : (x y : Option model.Template) → find_type n ts ≡ x → find_type n us ≡ y → find_type n ts ≡ find_type n us
    by (Some V) y p q = p ∙ sym (w n V p)
    by None None p q = p ∙ sym q
    by None (Some W) p q = absurd (no_more_within ts us n l h w (sym (is_some_find n ts) ∙ ap is_some p) (sym (is_some_find n us) ∙ ap is_some q))

pub within_if_same : (ts us : List Named) → ((n : List ℕ) → find_type n ts ≡ find_type n us) → IsWithin ts us
within_if_same ts us h n V e = sym (h n) ∙ e

pub as_many_if_same : (ts us : List Named) → has_twice (keys_of ts) ≡ false → has_twice (keys_of us) ≡ false → ((n : List ℕ) → find_type n ts ≡ find_type n us) → length ts ≡ length us
as_many_if_same ts us h k e =
    let at_most = length-le_from_is_member same_name_laws (keys_of ts) (keys_of us) (apart_if_once (keys_of ts) h) (names_within ts us (within_if_same ts us e)) in
    let at_least = length-le_from_is_member same_name_laws (keys_of us) (keys_of ts) (apart_if_once (keys_of us) k) (names_within us ts (within_if_same us ts (λ n. sym (e n)))) in
    omega (arith, at_most, at_least, length-keys_of ts, length-keys_of us)
