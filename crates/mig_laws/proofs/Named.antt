-- What is found by its name among pairs.
use Rattle.std.proofs.Common.{◌≡◌, refl, ◌∙◌, subst, ℕ, List, [], ◌∷◌, Bool, true, false, Option, Some, None}
use Rattle.std.specs.Prelude.{◌||◌, if◌then◌else◌}
use Rattle.std.specs.Map.{lookup}
use Rattle.std.specs.BTreeMap.{is_at}
use Rattle.std.proofs.lemmas.Option.{same_Some}
use Rattle.mig_model.specs.Names.{by_bytes, same_name}

abbrev pub by_name : {A : Type 0} → List ℕ → List (List ℕ × A) → Option A
by_name n es = lookup (is_at (by_bytes n)) es

pub or_if : (a b : Bool) → (a || b) ≡ (if a then true else b)
or_if true b = refl
or_if false b = refl

-- a function that goes through the pairs up to the first of the name is told by what is found
module _ {A X : Type 0} (n : List ℕ) (told : Option A → X) (go_on : List (List ℕ × A) → X) (none : go_on [] ≡ told None)
    (next : (e : List ℕ × A) (es : List (List ℕ × A)) → go_on (e ∷ es) ≡ (if same_name n e.0 then told (Some e.1) else go_on es)) where
  pub told_by_name : (es : List (List ℕ × A)) → go_on es ≡ told (by_name n es)
  told_by_name [] = none
  told_by_name (e ∷ es) = next e es ∙ by (same_name n e.0) (told_by_name es)
    where
      by : (b : Bool) → go_on es ≡ told (by_name n es) → (if b then told (Some e.1) else go_on es) ≡ told (if b then Some e.1 else by_name n es)
      by true rest = refl
      by false rest = rest

-- what each pair has in a list, and keeps behind one more, what is found has
module _ {A : Type 0} (n : List ℕ) (Has : List (List ℕ × A) → A → Type 0)
    (here : (e : List ℕ × A) (es : List (List ℕ × A)) → Has (e ∷ es) e.1) (later : (e : List ℕ × A) (es : List (List ℕ × A)) (a : A) → Has es a → Has (e ∷ es) a) where
  pub found_has : (es : List (List ℕ × A)) (a : A) → by_name n es ≡ Some a → Has es a
  found_has [] a h = absurd cc
  found_has (e ∷ es) a h = by (same_name n e.0) h (found_has es a)
    where
      by : (b : Bool) → (if b then Some e.1 else by_name n es) ≡ Some a → (by_name n es ≡ Some a → Has es a) → Has (e ∷ es) a
      by true k rest = subst (Has (e ∷ es)) (same_Some e.1 a k) (here e es)
      by false k rest = later e es a (rest k)
