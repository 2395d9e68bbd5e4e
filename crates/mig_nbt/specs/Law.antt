-- What is written is read again, and what reading gives is what a file is.
use Rattle.std.specs.Prelude.{◌≡◌, ◌↔◌, ℕ, suc, max, ◌≤◌, List, length, Some}
use Rattle.mig_model.specs.declared.limits.TheConstants.{MOST_SAVE_BYTES}
use Rattle.mig_model.specs.Plain.{Plain, list, map, Trees, no_tree, tree, Pairs, no_pair, pair}
use Rattle.mig_model.specs.Kinds.{IsMap}
use Rattle.mig_model.specs.Keeps.{Keeps}
use Rattle.mig_nbt.specs.Format.{NbtSave}
use Rattle.mig_nbt.specs.Reading.{save_at}
use Rattle.mig_nbt.specs.Writing.{IsName, IsSpelled, save_text}

-- how many levels of lists and maps nest
abbrev mutual
  pub levels : Plain → ℕ
  levels (list ts) = suc (trees_levels ts)
  levels (map ps) = suc (pairs_levels ps)
  levels _ = 0

  pub trees_levels : Trees → ℕ
  trees_levels no_tree = 0
  trees_levels (tree t ts) = max (levels t) (trees_levels ts)

  pub pairs_levels : Pairs → ℕ
  pairs_levels no_pair = 0
  pairs_levels (pair name t ps) = max (levels t) (pairs_levels ps)

-- a spelled map within the reader's limits is what its canonical text stands for
abbrev pub RoundTrip : Type 0
RoundTrip = (name : List ℕ) (t : Plain) → IsName name → IsMap t → IsSpelled t → Keeps t → levels t ≤ 512 → length (save_text name t) ≤ MOST_SAVE_BYTES → NbtSave (save_text name t) name t

-- reading gives a name and a tree exactly where the bytes are their file
abbrev pub DecodeLaw : Type 0
DecodeLaw = (b name : List ℕ) (t : Plain) → (save_at b ≡ Some (name, t)) ↔ NbtSave b name t
