use Rattle.std.proofs.Common.{◌≡◌, nat_eq, drop}
use Rattle.indexmap.specs.IndexSet.{insert_all}
use Rattle.mig_schema.specs.Reach.{places}
use Rattle.mig_schema.proofs.named.NamedTypes.add_places_of.Given as goal

abbrev pub invariant-loop-name : goal.invariant-loop-name
invariant-loop-name l = insert_all nat_eq l.found.keys (places l.self (drop l.name-index l.names)) ≡ insert_all nat_eq l.initial.found.keys (places l.self l.names)
