use Rattle.std.proofs.Common.{◌≡◌, nat_eq, drop}
use Rattle.indexmap.specs.IndexSet.{insert_all}
use Rattle.mig_schema.proofs.reach.add_all.Given as goal

abbrev pub invariant-loop-place : goal.invariant-loop-place
invariant-loop-place l = insert_all nat_eq l.found.keys (drop l.place-index l.places) ≡ insert_all nat_eq l.initial.found.keys l.places
