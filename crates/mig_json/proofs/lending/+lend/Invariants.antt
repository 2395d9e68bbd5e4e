use Rattle.std.proofs.Common.{◌≡◌, List, ◌++◌, map, drop, Some}
use Rattle.serde_json.specs.View.{items_view, members_view}
use Rattle.serde_json.proofs.Views.{Entry}
use Rattle.mig_model.specs.Plain.{trees_of, pairs_of}
use Rattle.mig_model.specs.Keeps.{AllPairsKeep}
use Rattle.mig_tree.specs.View.{entry_of}
use Rattle.mig_json.specs.Save.{trees_in, pairs_in}
use Rattle.mig_json.specs.Kinds.{AreJson, ArePairsJson}
use Rattle.mig_json.specs.Lending.{ahead}
use Rattle.mig_json.proofs.lending.+lend.Given as goal

abbrev pub invariant-lend_items-loop-value : goal.invariant-lend_items-loop-value
invariant-lend_items-loop-value l =
    (ahead l.items (trees_in (items_view (drop l.value-index l.values))) ≡ trees_in (items_view l.values))
    × AreJson (trees_of l.items)

abbrev pub invariant-lend_members-loop-key : goal.invariant-lend_members-loop-key
invariant-lend_members-loop-key l =
    (done : List Entry) × (l.members.entries ≡ done ++ l.key-iterator)
    × (pairs_in (members_view done) ≡ Some (map entry_of l.list.items))
    × (ahead (map entry_of l.list.items) (pairs_in (members_view l.key-iterator)) ≡ pairs_in (members_view l.members.entries))
    × ArePairsJson (pairs_of (map entry_of l.list.items)) × AllPairsKeep (pairs_of (map entry_of l.list.items))
