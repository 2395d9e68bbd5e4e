-- What may be written as a text: the names of a tree, and what each of its leaves shows, pass a test.
use Rattle.std.specs.Prelude.{◌≡◌, ℕ, List, [], map, ℤ, Bool, true, ◌&&◌, Some, FitsSigned}
use Rattle.std.specs.List.{list_all}
use Rattle.std.specs.Int.{w64}
use Rattle.std.specs.Fmt.{signed_decimal}
use Rattle.std.specs.Map.{keys_of}
use Rattle.mig_model.specs.Plain as plain
use Rattle.mig_model.specs.Plain.{Plain, Trees, no_tree, tree, Pairs, no_pair, pair, on_entries}
use Rattle.mig_model.specs.Const.{const_tree}
use Rattle.mig_model.specs.Leaf as leaf
use Rattle.mig_model.specs.Leaf.{LeafFn, shown, prefixed, stripped, lower_byte}
use Rattle.mig_model.specs.Record.{RecordParts, Cases}
use Rattle.mig_field.specs.FieldFn.{fill_tree, FieldOp, rename, add, default, map_leaf, nest, unify, retag, add_case, FieldFn}
use Rattle.mig_field.specs.NewRecord.{fields_of_case}
use Rattle.mig_field.specs.Act.{act}
use Rattle.mig_field_laws.specs.Laws.{NamesAscend}

-- a test of texts
abbrev pub TextTest : Type 0
TextTest = List ℕ → Bool

abbrev mutual
  pub texts_pass : TextTest → Plain → Bool
  texts_pass q (plain.list ts) = item_texts_pass q ts
  texts_pass q (plain.map ps) = entry_texts_pass q ps
  texts_pass q t = q (shown t)

  pub item_texts_pass : TextTest → Trees → Bool
  item_texts_pass q no_tree = true
  item_texts_pass q (tree t ts) = texts_pass q t && item_texts_pass q ts

  pub entry_texts_pass : TextTest → Pairs → Bool
  entry_texts_pass q no_pair = true
  entry_texts_pass q (pair n t ps) = q n && (texts_pass q t && entry_texts_pass q ps)

-- what is made of texts that pass passes: the decimals of numbers, the words of truth values, and what leaf functions make
pub record IsClosed (q : TextTest) : Type 0 where
  pub number : (z : ℤ) → FitsSigned w64 z → q (signed_decimal z) ≡ true
  pub truth : (b : Bool) → q (shown (plain.boolean b)) ≡ true
  pub empty : q [] ≡ true
  pub prefix : (p s : List ℕ) → q p ≡ true → q s ≡ true → q (prefixed p s) ≡ true
  pub strip : (p s : List ℕ) → q p ≡ true → q s ≡ true → q (stripped p s) ≡ true
  pub lower : (s : List ℕ) → q s ≡ true → q (map lower_byte s) ≡ true

-- the texts and numbers of a leaf function pass
abbrev pub LeafPasses : TextTest → LeafFn → Type 0
LeafPasses q (leaf.constant c) = texts_pass q (const_tree c) ≡ true
LeafPasses q (leaf.clamp_to low high) = (q (signed_decimal low) ≡ true) × (q (signed_decimal high) ≡ true)
LeafPasses q (leaf.of_text c) = texts_pass q (const_tree c) ≡ true
LeafPasses q (leaf.table ps) = list_all (λ p. q p.1) ps ≡ true
LeafPasses q (leaf.prefix p) = q p ≡ true
LeafPasses q (leaf.strip p) = q p ≡ true
LeafPasses q f = Unit {0}

-- the names and texts that an operation brings pass
abbrev pub OpPasses : TextTest → FieldOp → Type 0
OpPasses q (rename x y) = q y ≡ true
OpPasses q (add x c) = (q x ≡ true) × (texts_pass q (fill_tree c) ≡ true)
OpPasses q (default x c) = (q x ≡ true) × (texts_pass q (fill_tree c) ≡ true)
OpPasses q (map_leaf x f) = LeafPasses q f
OpPasses q (nest xs y) = q y ≡ true
OpPasses q (unify x f g) = LeafPasses q f × LeafPasses q g
OpPasses q (retag a b) = q b ≡ true
OpPasses q (add_case b fs) = list_all q (keys_of fs) ≡ true
OpPasses q op = Unit {0}

-- the names of the fields of each case pass
abbrev pub CaseNamesPass : TextTest → RecordParts → Type 0
CaseNamesPass q p = (c : Cases) (l : List ℕ) → p.choice ≡ Some c → list_all q (keys_of (fields_of_case l c)) ≡ true

-- where the texts of a map pass, and those of the function and of the cases' names, the texts of the new map pass
abbrev pub TextsStay : Type 0
TextsStay =
    (q : TextTest) → IsClosed q → (f : FieldFn) (p : RecordParts) → OpPasses q f.op → CaseNamesPass q p
    → (t : Plain) → NamesAscend t → texts_pass q t ≡ true → texts_pass q (on_entries (act f p) t) ≡ true
