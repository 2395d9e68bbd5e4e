-- Edits of maps, and what they keep.
use Rattle.std.proofs.Common.{◌≡◌, ℕ, List, [], ◌∷◌, Some, None, refl}
use Rattle.std.specs.Prelude.{if◌then◌else◌}
use Rattle.mig_model.specs.Family.{last_name}
use Rattle.mig_model.specs.Names.{same_name, moved, put, without}
use Rattle.mig_model.specs.Version.{on_spot, strip}
use Rattle.mig_model.specs.Plain as plain
use Rattle.mig_model.specs.Plain.{Plain, pairs_of, entries}
use Rattle.mig_model.specs.Kinds.{IsMap, get_in, removed, put_in, entries_of_pairs}
use Rattle.mig_model.specs.Plain.{on_entries, each_entry}
use Rattle.mig_model.specs.Const.{const_tree, Const}

pub map_without : (name : List ℕ) (t : Plain) → IsMap t → IsMap (removed name t)
map_without name (plain.map ps) m = tt
map_without name _ m = absurd m

pub map_with : (name : List ℕ) (u t : Plain) → IsMap t → IsMap (put_in name u t)
map_with name u (plain.map ps) m = tt
map_with name u _ m = absurd m

entries_stay_map : (f : List (List ℕ × Plain) → List (List ℕ × Plain)) (t : Plain) → IsMap t → IsMap (on_entries f t)
entries_stay_map f (plain.map ps) m = tt
entries_stay_map f _ m = absurd m

pub map_stripped : (xs : List (List ℕ)) (t : Plain) → IsMap t → IsMap (strip xs t)
map_stripped [] t m = map_without [] t m
map_stripped (x ∷ []) t m = map_without x t m
map_stripped (x ∷ (y ∷ xs)) t m = entries_stay_map (each_entry (λ n u. if same_name x n then on_spot (removed (last_name (x ∷ (y ∷ xs)))) (y ∷ xs) u else u)) t m

-- a field that is there moves
pub renamed_there : (x y : List ℕ) (t u : Plain) → IsMap t → get_in x t ≡ Some u → put_in y u (removed y (removed x t)) ≡ on_entries (moved x y) t
renamed_there x y (plain.map ps) u m e =
    let es = entries ps in
    rw (e, entries_of_pairs (without x es), entries_of_pairs (without y (without x es))) refl
renamed_there x y _ u m e = absurd m

pub renamed_absent : (x y : List ℕ) (t : Plain) → IsMap t → get_in x t ≡ None → removed y (removed x t) ≡ on_entries (moved x y) t
renamed_absent x y (plain.map ps) m e =
    let es = entries ps in
    rw (e, entries_of_pairs (without x es)) refl
renamed_absent x y _ m e = absurd m

pub added : (x : List ℕ) (c : Const) (t : Plain) → IsMap t → put_in x (const_tree c) (removed x t) ≡ on_entries (λ es. put x (const_tree c) (without x es)) t
added x c (plain.map ps) m = rw (entries_of_pairs (without x (entries ps))) refl
added x c _ m = absurd m
