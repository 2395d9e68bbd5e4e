-- What a JSON save is, over the values of `serde_json`.
use Rattle.std.specs.Prelude.{◌≡◌, ◌≤◌, ℕ, List, [], ◌∷◌, length, Option, Some, option_map, option_and_then, IsUtf8}
use Rattle.serde_json.specs.Data as json
use Rattle.serde_json.specs.Data.{Data}
use Rattle.serde_json.specs.Read.{read}
use Rattle.serde_json.specs.Find.{as_i64}
use Rattle.mig_model.specs.declared.limits.TheConstants.{MOST_SAVE_BYTES}
use Rattle.mig_model.specs.Plain as plain
use Rattle.mig_model.specs.Plain.{Plain, trees_of, pairs_of}

-- the tree of a value, where `as_i64` gives each number of it
abbrev mutual
  pub tree_of : Data → Option Plain
  tree_of json.null = Some plain.null
  tree_of (json.boolean b) = Some (plain.boolean b)
  tree_of (json.number n) = option_map plain.whole (as_i64 n)
  tree_of (json.string s) = Some (plain.text s)
  tree_of (json.array ds) = option_map (λ ts. plain.list (trees_of ts)) (trees_in ds)
  tree_of (json.object ms) = option_map (λ ps. plain.map (pairs_of ps)) (pairs_in ms)

  pub trees_in : json.Items → Option (List Plain)
  trees_in json.no_items = Some []
  trees_in (json.item d ds) = option_and_then (λ t. option_map (λ ts. t ∷ ts) (trees_in ds)) (tree_of d)

  pub pairs_in : json.Members → Option (List (List ℕ × Plain))
  pairs_in json.no_members = Some []
  pairs_in (json.member k d ms) = option_and_then (λ t. option_map (λ ps. (k, t) ∷ ps) (pairs_in ms)) (tree_of d)

-- the bytes are a JSON save of the tree: they read as an object with that tree, and are few enough
abbrev pub JsonSave : List ℕ → Plain → Type 0
JsonSave b t = (ms : json.Members) × IsUtf8 b × (read b ≡ Some (json.object ms)) × (tree_of (json.object ms) ≡ Some t) × (length b ≤ MOST_SAVE_BYTES)
