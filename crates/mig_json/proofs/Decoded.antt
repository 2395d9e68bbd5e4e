-- The decoding function and the relation agree.
use Rattle.std.proofs.Common.{◌≡◌, ◌&&◌, ℕ, List, length, Some, None, Option, option_and_then, nat_le, refl}
use Rattle.std.specs.Str.{is_utf8}
use Rattle.std.proofs.lemmas.Bool.{leb-true, le-leb}
use Rattle.std.proofs.lemmas.Str.{IsUtf8-from_is_utf8, is_utf8-from_IsUtf8}
use Rattle.serde_json.specs.Data as json
use Rattle.serde_json.specs.Data.{Data}
use Rattle.serde_json.specs.Read.{read}
use Rattle.mig_model.specs.declared.limits.TheConstants.{MOST_SAVE_BYTES}
use Rattle.mig_model.specs.Plain.{Plain}
use Rattle.mig_model.proofs.Bools.{split_and}
use Rattle.mig_model.proofs.Options.{pass_some}
use Rattle.mig_json.specs.Save.{tree_of, JsonSave}
use Rattle.mig_json.specs.Decode.{object_tree, decode_json, DecodeLaw}

object_in : (o : Option Data) (t : Plain) → option_and_then object_tree o ≡ Some t → (ms : json.Members) × (o ≡ Some (json.object ms)) × (tree_of (json.object ms) ≡ Some t)
object_in (Some (json.object ms)) t e = (ms, refl, e)
object_in _ t e = absurd cc

pub save_of : (b : List ℕ) (t : Plain) → decode_json b ≡ Some t → JsonSave b t
unfolding decode_json
save_of b t e =
    let p = pass_some (is_utf8 b && nat_le (length b) MOST_SAVE_BYTES) (option_and_then object_tree (read b)) t e in
    let both = split_and (is_utf8 b) (nat_le (length b) MOST_SAVE_BYTES) p.0 in
    let o = object_in (read b) t p.1 in
    (o.0, IsUtf8-from_is_utf8 b both.0, o.1, o.2, leb-true (length b) MOST_SAVE_BYTES both.1)

-- what is a save of a tree decodes to it
pub decoded : (b : List ℕ) (t : Plain) → JsonSave b t → decode_json b ≡ Some t
unfolding decode_json
decoded b t s = rw (is_utf8-from_IsUtf8 b s.1, le-leb (length b) MOST_SAVE_BYTES s.4, s.2) s.3

-- what is a save of no tree decodes to none
pub not_decoded : (b : List ℕ) → ((t : Plain) → JsonSave b t → ⊥) → decode_json b ≡ None
not_decoded b none = by (decode_json b) refl
  where
    by : (o : Option Plain) → decode_json b ≡ o → decode_json b ≡ None
    by None e = e
    by (Some t) e = absurd (none t (save_of b t e))

pub law : DecodeLaw
law b t = (save_of b t, decoded b t)
