use Rattle.std.proofs.Common.{◌≡◌, drop}
use Rattle.std.specs.Prelude.{not, if◌then◌else◌}
use Rattle.std.specs.List.{list_any}
use Rattle.mig_model.specs.Family.{is_one}
use Rattle.mig_template.specs.KindSet.{is_in}
use Rattle.mig_schema.proofs.kinds.is_one.Given as goal

abbrev pub invariant-loop-kind : goal.invariant-loop-kind
invariant-loop-kind l = (if l.found then not (list_any (is_in l.set) (drop l.kind-index l.kind-items)) else is_one (is_in l.set) (drop l.kind-index l.kind-items)) ≡ is_one (is_in l.set) l.kind-items
