-- Slots that a test of the name keeps.
use Rattle.std.proofs.Common.{◌≡◌, ℕ, List, [], ◌∷◌, ◌++◌, Bool, map, refl, ap, ◌∙◌, append-nil, arith}
use Rattle.std.specs.Prelude.{not, is_some, if◌then◌else◌}
use Rattle.std.specs.List.{filter}
use Rattle.std.specs.Map.{keys_of}
use Rattle.std.proofs.lemmas.List.{map-append}
use Rattle.std.proofs.lemmas.List.Elements.{filter-append}
use Rattle.mig_model.specs.Names.{is_among, others}
use Rattle.mig_value.specs.Typed as typed
use Rattle.mig_value.specs.Places.{place_in}
use Rattle.mig_value.specs.View.{slot_of}
use Rattle.mig_value.specs.declared.slots.Slot.{Slot}

-- the view of those that are kept
kept_view : (p : List ℕ → Bool) (xs : List Slot) → map slot_of (filter (λ s. p s.name) xs) ≡ filter (λ e. p e.0) (map slot_of xs)
kept_view p [] = refl
kept_view p (x ∷ xs) = grind (arith, kept_view p xs)

pub others_view : (names : List (List ℕ)) (xs ys : List Slot) → ys ≡ filter (λ s. not (is_among names s.name)) xs → map slot_of ys ≡ others names (map slot_of xs)
others_view names xs ys h = ap (λ (l : List Slot). map slot_of l) h ∙ kept_view (λ n. not (is_among names n)) xs

-- one more slot, which is kept or not
pub kept_more : (p : List ℕ → Bool) (ys ls ms : List Slot) (s : Slot) → map slot_of ls ≡ filter (λ e. p e.0) (map slot_of ys) → ms ≡ (if p s.name then ls ++ s ∷ [] else ls) → map slot_of ms ≡ filter (λ e. p e.0) (map slot_of (ys ++ s ∷ []))
kept_more p ys ls ms s h m =
    let front = filter (λ (e : typed.Slot). p e.0) (map slot_of ys) in
    grind (arith, m, h, map-append slot_of ls (s ∷ []), map-append slot_of ys (s ∷ []), filter-append (λ (e : typed.Slot). p e.0) (map slot_of ys) (slot_of s ∷ []), append-nil front)

-- a name has a place among slots exactly where it is one of theirs
pub place_is : (n : List ℕ) (ss : List typed.Slot) → is_some (place_in n ss) ≡ is_among (keys_of ss) n
place_is n [] = refl
place_is n (s ∷ ss) = grind (arith, place_is n ss)
