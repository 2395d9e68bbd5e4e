use Rattle.std.proofs.Common.{◌≡◌, ◌++◌, suc, map, drop}
use Rattle.mig_rule.specs.ChainView.{steps_of}
use Rattle.mig_syntax.specs.DeclView.{decl_of}
use Rattle.mig_resolve.specs.Text.{steps_from, step_numbers}
use Rattle.mig_resolve.specs.Faults.{unformed_from}
use Rattle.mig_resolve.proofs.steps.steps_from.Given as goal

abbrev pub invariant-loop-place : goal.invariant-loop-place
invariant-loop-place l =
    (steps_of l.made.steps.items ++ steps_from l.form l.path (map decl_of (drop l.place l.decls)) ≡ steps_from l.form l.path (map decl_of l.decls))
    × (l.made.numbers.items ++ step_numbers (suc l.place) (map decl_of (drop l.place l.decls)) ≡ step_numbers 1 (map decl_of l.decls))
    × (unformed_from l.form l.path (suc l.place) (map decl_of (drop l.place l.decls)) ≡ unformed_from l.form l.path 1 (map decl_of l.decls))
