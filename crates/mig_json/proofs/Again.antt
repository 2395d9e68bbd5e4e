-- The tree of a JSON tree's value is that tree.
use Rattle.std.proofs.Common.{◌≡◌, ℕ, ◌≤◌, ◌^◌, pos, negsuc, List, length, Some, true, ℤ, nat_lt, option_map, refl, ap, ◌∙◌}
use Rattle.std.proofs.lemmas.Bool.{lt-ltb}
use Rattle.serde_json.specs.Find.{as_i64, of_integer}
use Rattle.mig_model.specs.declared.limits.TheConstants.{MOST_SAVE_BYTES}
use Rattle.mig_model.specs.Plain as plain
use Rattle.mig_model.specs.Plain.{Plain, items, entries, trees_of, pairs_of}
use Rattle.mig_model.specs.Keeps.{Keeps, AllKeep, AllPairsKeep}
use Rattle.mig_tree.proofs.Places.{trees_back, pairs_back}
use Rattle.mig_json.specs.Save.{tree_of, trees_in, pairs_in, JsonSave}
use Rattle.mig_json.specs.Kinds.{IsJson, AreJson, ArePairsJson}
use Rattle.mig_json.specs.Writing.{data_of, items_of, members_of}
use Rattle.std.specs.Prelude.{FitsSigned}
use Rattle.std.specs.Int.{w64}
use Rattle.mig_model.specs.Kinds.{IsMap}
use Rattle.std.specs.Prelude.{IsUtf8}
use Rattle.serde_json.specs.Read.{read}

whole_again : (z : ℤ) → FitsSigned w64 z → as_i64 (of_integer z) ≡ Some z
whole_again (pos n) h = let small : nat_lt n (2 ^ 63) ≡ true = lt-ltb n (2 ^ 63) h.sfits in rw small refl
whole_again (negsuc n) h = refl

mutual
  pub tree_again : (t : Plain) → IsJson t → Keeps t → tree_of (data_of t) ≡ Some t
  tree_again (plain.text s) j h = refl
  tree_again (plain.list ts) j h = ap (option_map (λ xs. plain.list (trees_of xs))) (items_again ts j h.1) ∙ ap (λ (xs : plain.Trees). Some (plain.list xs)) (trees_back ts)
  tree_again (plain.map ps) j h = ap (option_map (λ xs. plain.map (pairs_of xs))) (members_again ps j h.2) ∙ ap (λ (xs : plain.Pairs). Some (plain.map xs)) (pairs_back ps)
  tree_again plain.null j h = refl
  tree_again (plain.boolean b) j h = refl
  tree_again (plain.whole z) j h = ap (option_map plain.whole) (whole_again z h)
  tree_again _ j h = absurd j

  items_again : (ts : plain.Trees) → AreJson ts → AllKeep ts → trees_in (items_of ts) ≡ Some (items ts)
  items_again plain.no_tree j h = refl
  items_again (plain.tree t ts) j h = rw (tree_again t j.0 h.0, items_again ts j.1 h.1) refl

  members_again : (ps : plain.Pairs) → ArePairsJson ps → AllPairsKeep ps → pairs_in (members_of ps) ≡ Some (entries ps)
  members_again plain.no_pair j h = refl
  members_again (plain.pair k t ps) j h = rw (tree_again t j.1 h.1, members_again ps j.2 h.2) refl

pub save_again : (t : Plain) (b : List ℕ) → IsMap t → IsJson t → Keeps t → IsUtf8 b → read b ≡ Some (data_of t) → length b ≤ MOST_SAVE_BYTES → JsonSave b t
save_again (plain.map ps) b m j h u r l = (members_of ps, u, r, tree_again (plain.map ps) j h, l)
save_again _ b m j h u r l = absurd m
