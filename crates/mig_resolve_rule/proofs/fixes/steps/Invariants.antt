use Rattle.std.proofs.Common.{◌≡◌, map, take}
use Rattle.mig_rule.specs.View as values
use Rattle.mig_syntax.specs.DeclView.{step_of}
use Rattle.mig_resolve_rule.specs.Rules.{step_from}
use Rattle.mig_resolve_rule.proofs.fixes.steps.Given as goal

abbrev pub invariant-loop-text : goal.invariant-loop-text
invariant-loop-text l = map values.step_of l.list.items ≡ map step_from (map step_of (take l.text-index l.texts))
