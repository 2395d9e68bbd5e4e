use Rattle.std.proofs.Common.{◌≡◌, drop}
use Rattle.std.specs.Prelude.{◌&&◌}
use Rattle.std.specs.List.{list_any}
use Rattle.mig_template.specs.KindSet.{is_in}
use Rattle.mig_template.proofs.kinds.KindSet.meets.Given as goal

abbrev pub invariant-loop-kind : goal.invariant-loop-kind
invariant-loop-kind l = list_any (λ k. is_in l.self k && is_in l.other k) (drop l.kind-index l.kind-items) ≡ list_any (λ k. is_in l.self k && is_in l.other k) l.kind-items
