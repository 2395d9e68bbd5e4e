-- The version of a save, which stands under a path of names from the root.
use Rattle.std.specs.Prelude.{ℕ, List, ◌∷◌, Option, Some, None, option_and_then, if◌then◌else◌}
use Rattle.mig_model.specs.declared.limits.TheConstants.{LAST_VERSION}
use Rattle.mig_model.specs.Plain.{Plain, map, entries, on_entries, each_entry}
use Rattle.mig_model.specs.Inhabits.{Entries}
use Rattle.mig_model.specs.Kinds.{get_in, put_in, removed}
use Rattle.mig_model.specs.Names.{under, same_name}
use Rattle.mig_model.specs.Family.{last_name}

-- the greatest version
abbrev pub last_version : ℕ
last_version = LAST_VERSION

abbrev pub map_entries : Plain → Option Entries
map_entries (map ps) = Some (entries ps)
map_entries t = None

-- the map that is reached by the names of the path but the last, or none where one is absent or a tree on the way is no map
abbrev pub spot : List (List ℕ) → Plain → Option Entries
spot (x ∷ (y ∷ xs)) t = option_and_then (spot (y ∷ xs)) (get_in x t)
spot xs t = map_entries t

-- the tree under the path's last name in the spot
abbrev pub version_in : List (List ℕ) → Plain → Option Plain
version_in xs t = option_and_then (under (last_name xs)) (spot xs t)

-- f is done to the spot, where there is one
abbrev pub on_spot : (Plain → Plain) → List (List ℕ) → Plain → Plain
on_spot f (x ∷ (y ∷ xs)) t = on_entries (each_entry (λ n u. if same_name x n then on_spot f (y ∷ xs) u else u)) t
on_spot f xs t = f t

-- the tree with the path's last name taken out of the spot
abbrev pub strip : List (List ℕ) → Plain → Plain
strip xs t = on_spot (removed (last_name xs)) xs t

-- the tree with this one under the path's last name in the spot
abbrev pub put_version : List (List ℕ) → Plain → Plain → Plain
put_version xs v t = on_spot (put_in (last_name xs) v) xs t
