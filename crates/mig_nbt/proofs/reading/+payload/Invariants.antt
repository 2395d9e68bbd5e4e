use Rattle.std.proofs.Common.{◌≡◌, ◌+◌, ◌*◌, ◌-◌, length, map}
use Rattle.mig_nbt.specs.Reading.{payload_at, payloads_at, tags_at}
use Rattle.mig_tree.specs.View.{entry_of}
use Rattle.mig_nbt.proofs.Loops.{ahead}
use Rattle.mig_nbt.proofs.reading.+payload.Given as goal

abbrev pub decreases-payload_at : goal.decreases-payload_at
decreases-payload_at l = 3 * l.levels

abbrev pub decreases-list_at : goal.decreases-list_at
decreases-list_at l = 3 * l.levels + 2

abbrev pub decreases-map_at : goal.decreases-map_at
decreases-map_at l = 3 * l.levels + 2

abbrev pub decreases-payloads_at : goal.decreases-payloads_at
decreases-payloads_at l = 3 * l.levels + 1

abbrev pub decreases-tags_at : goal.decreases-tags_at
decreases-tags_at l = 3 * l.levels + 1

abbrev pub invariant-payloads_at-loop : goal.invariant-payloads_at-loop
invariant-payloads_at-loop l =
    ahead l.items (payloads_at (payload_at l.levels l.element) (l.count - l.counter) l.rest) ≡ payloads_at (payload_at l.levels l.element) l.count l.bytes

abbrev pub invariant-tags_at-loop : goal.invariant-tags_at-loop
invariant-tags_at-loop l =
    ahead (map entry_of l.list.items) (tags_at (payload_at l.levels) (length l.bytes - l.counter) l.rest) ≡ tags_at (payload_at l.levels) (length l.bytes) l.bytes
