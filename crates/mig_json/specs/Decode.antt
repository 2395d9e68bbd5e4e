-- The tree that bytes are a save of, as a function.
use Rattle.std.specs.Prelude.{◌≡◌, ◌↔◌, ◌&&◌, ℕ, List, length, nat_le, if◌then◌else◌, Option, Some, None, option_and_then}
use Rattle.std.specs.Str.{is_utf8}
use Rattle.serde_json.specs.Data as json
use Rattle.serde_json.specs.Data.{Data}
use Rattle.serde_json.specs.Read.{read}
use Rattle.mig_model.specs.declared.limits.TheConstants.{MOST_SAVE_BYTES}
use Rattle.mig_model.specs.Plain.{Plain}
use Rattle.mig_json.specs.Save.{tree_of, JsonSave}

-- the tree of an object
abbrev pub object_tree : Data → Option Plain
object_tree (json.object ms) = tree_of (json.object ms)
object_tree _ = None

unfoldable pub decode_json : List ℕ → Option Plain
decode_json b = if is_utf8 b && nat_le (length b) MOST_SAVE_BYTES then option_and_then object_tree (read b) else None

-- it gives a tree exactly where the bytes are a save of that tree
abbrev pub DecodeLaw : Type 0
DecodeLaw = (b : List ℕ) (t : Plain) → (decode_json b ≡ Some t) ↔ JsonSave b t
