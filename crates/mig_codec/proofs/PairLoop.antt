-- The pair in hand of a loop over the pairs of a map.
use Rattle.std.proofs.Common.{◌≡◌, ℕ, List, ◌∷◌, ◌++◌, map, sym, ap, ◌∙◌, subst}
use Rattle.std.proofs.lemmas.List.{map-append}
use Rattle.mig_model.specs.Plain.{Plain}
use Rattle.mig_model.specs.Names.{Ascends}
use Rattle.mig_tree.specs.View.{entry_of}
use Rattle.mig_tree.specs.declared.entries.Entry.{Entry}

-- what is behind the pair, and that the map is the pairs before it, the pair, and those behind it
pub record PairInHand (es : List (List ℕ × Plain)) (all ys : List Entry) (x : Entry) : Type 0 where
  pub behind : List Entry
  pub is : all ≡ ys ++ x ∷ behind
  pub whole : es ≡ map entry_of ys ++ entry_of x ∷ map entry_of behind
  pub sorted : Ascends (map entry_of ys ++ entry_of x ∷ map entry_of behind)

pub pair_in_hand : (es : List (List ℕ × Plain)) (all ys : List Entry) (x : Entry) → map entry_of all ≡ es → Ascends es → (rest : List Entry) × (all ≡ ys ++ x ∷ rest) → PairInHand es all ys x
pair_in_hand es all ys x pairs named s =
    let whole : es ≡ map entry_of ys ++ entry_of x ∷ map entry_of s.0 = sym pairs ∙ ap (λ (l : List Entry). map entry_of l) s.1 ∙ map-append entry_of ys (x ∷ s.0) in
    record { behind = s.0; is = s.1; whole = whole; sorted = subst Ascends whole named }
