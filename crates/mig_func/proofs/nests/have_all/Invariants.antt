use Rattle.std.proofs.Common.{◌≡◌, drop}
use Rattle.std.specs.List.{list_all}
use Rattle.mig_model.specs.Names.{has}
use Rattle.mig_func.proofs.nests.have_all.Given as goal

abbrev pub invariant-loop-name : goal.invariant-loop-name
invariant-loop-name l = list_all (λ x. has x l.fields) (drop l.name-index l.names) ≡ list_all (λ x. has x l.fields) l.names
