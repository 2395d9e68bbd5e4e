-- The saves among the names of a folder.
use Rattle.std.proofs.Common.{◌≡◌, refl, sym, ◌∙◌, ap, ℕ, Bool, true, false, ◌&&◌, ◌||◌, cond, List, [], ◌∷◌, Option, Some, None, map, ◌+◌, ◌<◌, length, arith}
use Rattle.std.proofs.lemmas.List.{get_or-map}
use Rattle.std.proofs.lemmas.List as Rows
use Rattle.std.specs.Prelude.{bytes_eq, IsSome, is_some, IfSome, filter, IsPermutation, IsSorted}
use Rattle.std.specs.List.{IsDistinct, AllByRecursion}
use Rattle.std.proofs.lemmas.Slice.Eq.{bytes_eq-Decides}
use Rattle.std.proofs.lemmas.Map.Keys.{IsDistinct-IsPermutation}
use Rattle.std.proofs.lemmas.List.Sorted.{list_any-IsPermutation}
use Rattle.std.specs.Ordering.{nat_cmp}
use Rattle.std.specs.Cmp.Lexicographic.{slice_cmp}
use Rattle.mig_model.specs.declared.form.Form.{Form}
use Rattle.mig_files.specs.Held.{Held, Lists, is_among}
use Rattle.mig_run.specs.Folder.{IsSaves, AreThere, is_save}
use Rattle.mig_model.proofs.Bools.{right_or, false_and, first_true}

pub all_filtered : {X : Type 0} (P : X → Type 0) (p : X → Bool) (xs : List X) → AllByRecursion P xs → AllByRecursion P (filter p xs)
all_filtered P p [] all = tt
all_filtered P p (x ∷ xs) all = elim (p x) as (λ b. AllByRecursion P (cond b (x ∷ filter p xs) (filter p xs))) [ true ↦ (all.0, all_filtered P p xs all.1) | false ↦ all_filtered P p xs all.1 ]

pub distinct_filtered : {X : Type 0} (e : X → X → Bool) (p : X → Bool) (xs : List X) → IsDistinct e xs → IsDistinct e (filter p xs)
unfolding IsDistinct
distinct_filtered e p [] once = tt
distinct_filtered e p (x ∷ xs) once = elim (p x) as (λ b. IsDistinct e (cond b (x ∷ filter p xs) (filter p xs))) [ true ↦ (all_filtered (λ y. e x y ≡ false) p xs once.0, distinct_filtered e p xs once.1) | false ↦ distinct_filtered e p xs once.1 ]

pub map_filtered : {X Y : Type 0} (f : X → Y) (p : Y → Bool) (xs : List X) → map f (filter (λ x. p (f x)) xs) ≡ filter p (map f xs)
map_filtered f p [] = refl
map_filtered f p (x ∷ xs) = elim (p (f x)) as (λ b. map f (cond b (x ∷ filter (λ y. p (f y)) xs) (filter (λ y. p (f y)) xs)) ≡ cond b (f x ∷ filter p (map f xs)) (filter p (map f xs))) [ true ↦ ap (λ l. f x ∷ l) (map_filtered f p xs) | false ↦ map_filtered f p xs ]

pub eq_flips : (x y : List ℕ) → bytes_eq x y ≡ bytes_eq y x
eq_flips x y = elim (bytes_eq x y) as (λ b. bytes_eq x y ≡ b → b ≡ bytes_eq y x) [
  | true ↦ (λ h. sym ((bytes_eq-Decides y x).1 (sym ((bytes_eq-Decides x y).0 h))))
  | false ↦ (λ h. elim (bytes_eq y x) as (λ b. bytes_eq y x ≡ b → false ≡ b) [
    | true ↦ (λ t. absurd (cc (h, (bytes_eq-Decides x y).1 (sym ((bytes_eq-Decides y x).0 t)))))
    | false ↦ (λ t. refl)
  ] refl)
] refl

pub taken : (e a pn r : Bool) → r ≡ (a && pn) → (e ≡ true → pn ≡ true) → (e || r) ≡ ((e || a) && pn)
taken true a pn r ih k = sym (k refl)
taken false a pn r ih k = ih

pub left_out : (e a pn r : Bool) → r ≡ (a && pn) → (e ≡ true → pn ≡ false) → r ≡ ((e || a) && pn)
left_out true a pn r ih k = ih ∙ false_and a pn (k refl) ∙ sym (k refl)
left_out false a pn r ih k = ih

-- a name is among the saves where it is among the names and is a save's
pub among_filtered : (p : List ℕ → Bool) (xs : List (List ℕ)) (name : List ℕ) → is_among (filter p xs) name ≡ (is_among xs name && p name)
among_filtered p [] name = refl
among_filtered p (x ∷ xs) name =
    let at : bytes_eq name x ≡ true → p name ≡ p x = (λ h. ap p ((bytes_eq-Decides name x).0 h)) in
    elim (p x) as (λ b. p x ≡ b → is_among (cond b (x ∷ filter p xs) (filter p xs)) name ≡ ((bytes_eq name x || is_among xs name) && p name)) [
      | true ↦ (λ h. taken (bytes_eq name x) (is_among xs name) (p name) (is_among (filter p xs) name) (among_filtered p xs name) (λ e. at e ∙ h))
      | false ↦ (λ h. left_out (bytes_eq name x) (is_among xs name) (p name) (is_among (filter p xs) name) (among_filtered p xs name) (λ e. at e ∙ h))
    ] refl

pub saves_of : (form : Form) (held : Held) (folder : List ℕ) (names saves : List (List ℕ)) → Lists held folder names → IsPermutation (filter (is_save form) names) saves → IsSorted (slice_cmp nat_cmp) saves → IsSaves form held folder saves
saves_of form held folder names saves l moved up = record {
  ascend = up;
  once = IsDistinct-IsPermutation bytes_eq eq_flips (filter (is_save form) names) saves moved (distinct_filtered bytes_eq (is_save form) names l.once);
  all = (λ name. sym (list_any-IsPermutation (bytes_eq name) (filter (is_save form) names) saves moved) ∙ among_filtered (is_save form) names name ∙ ap (λ (b : Bool). b && is_save form name) (l.all name));
}

pub sorted_mapped : {X : Type 0} (f : X → List ℕ) (xs : List X) → IsSorted (λ a b. slice_cmp nat_cmp (f a) (f b)) xs → IsSorted (slice_cmp nat_cmp) (map f xs)
sorted_mapped f [] up k d low high = absurd (omega (arith, high))
sorted_mapped f (x ∷ xs) up k d low high =
    let as_long : length (map f (x ∷ xs)) ≡ length (x ∷ xs) = Rows.length-map (x ∷ xs) f in
    let below : k + 1 < length (x ∷ xs) = omega (arith, as_long, high) in
    let short : k < length (x ∷ xs) = omega (arith, below) in
    rw (get_or-map f (x ∷ xs) (k + 1) x d below, get_or-map f (x ∷ xs) k x d short) (up k x low below)

pub told_of : (form : Form) (o : Option Held) (folder : List ℕ) (names saves : List (List ℕ)) → IfSome o (λ m. Lists m folder names) → IsPermutation (filter (is_save form) names) saves → IsSorted (slice_cmp nat_cmp) saves → IfSome o (λ m. IsSaves form m folder saves)
told_of form None folder names saves l moved up = tt
told_of form (Some m) folder names saves l moved up = saves_of form m folder names saves l moved up

pub there_of : (held : Held) (folder : List ℕ) (xs : List (List ℕ)) → ((n : List ℕ) → is_among xs n ≡ true → IsSome (held (folder, n))) → AllByRecursion (λ n. IsSome (held (folder, n))) xs
there_of held folder [] h = tt
there_of held folder (x ∷ xs) h = (h x (ap (λ (b : Bool). b || is_among xs x) ((bytes_eq-Decides x x).1 refl)), there_of held folder xs (λ n a. h n (right_or (bytes_eq n x) (is_among xs n) a)))

pub are_there : (form : Form) (held : Held) (folder : List ℕ) (names : List (List ℕ)) → IsSaves form held folder names → AreThere held folder names
are_there form held folder names s = record { once = s.once; there = there_of held folder names (λ n a. first_true (is_some (held (folder, n))) (is_save form n) (sym (s.all n) ∙ a)) }
