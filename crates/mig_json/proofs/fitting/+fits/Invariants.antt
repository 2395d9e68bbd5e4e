use Rattle.std.proofs.Common.{◌≡◌, is_some, drop}
use Rattle.serde_json.specs.View.{items_view, members_view}
use Rattle.mig_json.specs.Save.{trees_in, pairs_in}
use Rattle.mig_json.proofs.fitting.+fits.Given as goal

abbrev pub invariant-all_items_fit-loop-value : goal.invariant-all_items_fit-loop-value
invariant-all_items_fit-loop-value l = is_some (trees_in (items_view (drop l.value-index l.values))) ≡ is_some (trees_in (items_view l.values))

abbrev pub invariant-all_members_fit-loop-key : goal.invariant-all_members_fit-loop-key
invariant-all_members_fit-loop-key l = is_some (pairs_in (members_view l._key-iterator)) ≡ is_some (pairs_in (members_view l.members.entries))
