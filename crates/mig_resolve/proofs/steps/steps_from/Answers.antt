use Rattle.std.proofs.Common.{◌≡◌, ◌∙◌, ◌+◌, ◌++◌, ℕ, suc, List, [], map, drop, sym, ap, subst, arith}
use Rattle.mig_rule.specs.ChainView.{chain_step_of, steps_of}
use Rattle.mig_syntax.specs.DeclSyntax.{DeclSyntax}
use Rattle.mig_syntax.specs.DeclView.{decl_of}
use Rattle.std.specs.Prelude.{is_some, option_map}
use Rattle.mig_resolve.specs.Right.{IsRight, AreRight}
use Rattle.mig_resolve.specs.Text.{steps_from, step_numbers}
use Rattle.mig_resolve.specs.Faults.{is_unformed, unformed_from}
use Rattle.mig_resolve.specs.Steps.{with_number, IsUnformedAt, IsUnformedFault}
use Rattle.mig_resolve.proofs.Lists.{at_index, all_dropped, ahead}
use Rattle.mig_resolve.proofs.Stepped.{steps_further, numbers_further, unformed_further, unformed_here}
use Rattle.mig_resolve.proofs.steps.steps_from.Goals as goal

pub step-requires-clause-here : goal.step-requires-clause-here
step-requires-clause-here c = at_index (IsRight c.args.form) decl_of c.args.decls.now c.loop-place.place c.index-decls-place.result c.loop-place-test.true c.index-decls-place.is c.requires

pub step-requires-clause-later : goal.step-requires-clause-later
step-requires-clause-later c = subst (λ l. AreRight c.args.form (map decl_of l)) (sym c.later_than-later.ensures) (all_dropped (IsRight c.args.form) decl_of c.args.decls.now (c.loop-place.place + 1) c.requires)

pub loop-place-preserved : goal.loop-place-preserved
loop-place-preserved c =
    let form = c.args.form in
    let path = c.args.path.now in
    let xs = c.args.decls.now in
    let i = c.loop-place.place in
    let d = decl_of c.index-decls-place.result in
    let later = map decl_of c.later_than-later.result.now in
    let next = ahead decl_of xs c.later_than-later.result.now i c.index-decls-place.result (omega arith) c.index-decls-place.is c.later_than-later.ensures in
    let behind : later ≡ map decl_of (drop (i + 1) xs) = ap (map decl_of) c.later_than-later.ensures in
    let more : i + 1 ≡ suc i = omega arith in
    let steps = steps_further form path d later (steps_of c.loop-place.made.steps.items) (steps_of c.in_ok-made-in-Ok.made.steps.items) (steps_from form path (map decl_of xs)) (option_map chain_step_of c.in-Ok.found) c.in_ok-made-in-Ok.ensures.steps c.in-Ok.ensures.step
    (subst (λ (l : List DeclSyntax). steps_of c.loop-place.made.steps.items ++ steps_from form path l ≡ steps_from form path (map decl_of xs)) next c.loop-place.invariant.0) in
    let numbered = subst (λ (k : ℕ). c.in_ok-made-in-Ok.made.numbers.items ≡ c.loop-place.made.numbers.items ++ with_number (is_some c.in-Ok.found) k []) more c.in_ok-made-in-Ok.ensures.numbers in
    let numbers = numbers_further chain_step_of form path (suc i) d later c.loop-place.made.numbers.items c.in_ok-made-in-Ok.made.numbers.items (step_numbers 1 (map decl_of xs)) c.in-Ok.found numbered c.in-Ok.ensures.step
    (subst (λ (l : List DeclSyntax). c.loop-place.made.numbers.items ++ step_numbers (suc i) l ≡ step_numbers 1 (map decl_of xs)) next c.loop-place.invariant.1) in
    let formed = unformed_further form path (suc i) d later (unformed_from form path 1 (map decl_of xs)) c.in-Ok.ensures.formed
    (subst (λ (l : List DeclSyntax). unformed_from form path (suc i) l ≡ unformed_from form path 1 (map decl_of xs)) next c.loop-place.invariant.2) in (
      subst (λ (l : List DeclSyntax). steps_of c.in_ok-made-in-Ok.made.steps.items ++ steps_from form path l ≡ steps_from form path (map decl_of xs)) behind steps,
      subst (λ (k : ℕ). c.in_ok-made-in-Ok.made.numbers.items ++ step_numbers (suc k) (map decl_of (drop (i + 1) xs)) ≡ step_numbers 1 (map decl_of xs)) (sym more) (subst (λ (l : List DeclSyntax). c.in_ok-made-in-Ok.made.numbers.items ++ step_numbers (suc (suc i)) l ≡ step_numbers 1 (map decl_of xs)) behind numbers),
      subst (λ (k : ℕ). unformed_from form path (suc k) (map decl_of (drop (i + 1) xs)) ≡ unformed_from form path 1 (map decl_of xs)) (sym more) (subst (λ (l : List DeclSyntax). unformed_from form path (suc (suc i)) l ≡ unformed_from form path 1 (map decl_of xs)) behind formed),
    )

pub returns-in-Err-clause-fault : goal.returns-in-Err-clause-fault
returns-in-Err-clause-fault c =
    let form = c.args.form in
    let path = c.args.path.now in
    let xs = c.args.decls.now in
    let i = c.loop-place.place in
    let d = decl_of c.index-decls-place.result in
    let later = map decl_of c.later_than-later.result.now in
    let next = ahead decl_of xs c.later_than-later.result.now i c.index-decls-place.result (omega arith) c.index-decls-place.is c.later_than-later.ensures in
    let more : i + 1 ≡ suc i = omega arith in
    unformed_here form path (suc i) d later (unformed_from form path 1 (map decl_of xs)) c.in-Err.fault
    (subst (λ (k : ℕ). IsUnformedAt c.in-Err.fault k (is_unformed form path d later)) more c.in-Err.ensures.fault)
    (subst (λ (l : List DeclSyntax). unformed_from form path (suc i) l ≡ unformed_from form path 1 (map decl_of xs)) next c.loop-place.invariant.2)
