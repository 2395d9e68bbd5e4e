-- A tree that can be written as JSON is of the form, and so it is without its version.
use Rattle.std.proofs.Common.{◌≡◌, true, refl}
use Rattle.mig_model.specs.declared.form.Form.TheVariants as F
use Rattle.mig_model.specs.Plain as plain
use Rattle.mig_model.specs.Plain.{Plain, Trees, no_tree, tree, Pairs, no_pair, pair}
use Rattle.mig_model.specs.Inhabits.{is_in_form, items_in_form, entries_in_form}
use Rattle.mig_json.specs.Kinds.{IsJson, AreJson, ArePairsJson}

mutual
  pub json_form : (t : Plain) → IsJson t → is_in_form F.Json t ≡ true
  json_form (plain.byte z) w = absurd w
  json_form (plain.short z) w = absurd w
  json_form (plain.int z) w = absurd w
  json_form (plain.long z) w = absurd w
  json_form (plain.float n) w = absurd w
  json_form (plain.double n) w = absurd w
  json_form (plain.text b) w = refl
  json_form (plain.bytes b) w = absurd w
  json_form (plain.ints b) w = absurd w
  json_form (plain.longs b) w = absurd w
  json_form (plain.list ts) w = items_form ts w
  json_form (plain.map ps) w = pairs_form ps w
  json_form plain.null w = refl
  json_form (plain.boolean b) w = refl
  json_form (plain.whole z) w = refl

  items_form : (ts : Trees) → AreJson ts → items_in_form F.Json ts ≡ true
  items_form no_tree w = refl
  items_form (tree t ts) w = rw (json_form t w.0, items_form ts w.1) refl

  pairs_form : (ps : Pairs) → ArePairsJson ps → entries_in_form F.Json ps ≡ true
  pairs_form no_pair w = refl
  pairs_form (pair n t ps) w = rw (json_form t w.1, pairs_form ps w.2) refl
