use Rattle.std.proofs.Common.{◌≡◌, ◌∙◌, ◌<◌, ℕ, List, Option, Some, None, length, map, sym, ap, subst}
use Rattle.std.specs.List.{AllByRecursion}
use Rattle.mig_schema.specs.Version.{IsVersionPath}
use Rattle.mig_rule.specs.ChainView.{steps_of, chain_of}
use Rattle.mig_rule.specs.Spelled.{IsSpelled}
use Rattle.mig_syntax.specs.declared.decl.Decl.{Decl}
use Rattle.mig_syntax.specs.DeclView.{decl_of}
use Rattle.mig_resolve.specs.Text.{form_in, path_in, missing_in, steps_from, step_numbers, chain_from}
use Rattle.mig_resolve.specs.Faults as faults
use Rattle.mig_resolve.specs.Faults.{early_fault, unformed_from, unformed, IsFaultAt}
use Rattle.mig_resolve.specs.Right.{AreRight}
use Rattle.mig_resolve.specs.Steps.{IsUnformedFault}
use Rattle.mig_resolve.proofs.Resolved.{path_few}
use Rattle.mig_resolve.proofs.Spelled.{right_text, spelled_chain, same_chain, late_fault, refused_step, walk_fault}
use Rattle.mig_resolve.proofs.resolving.resolve.Goals as goal

pub returns-in-Some-clause-fault : goal.returns-in-Some-clause-fault
returns-in-Some-clause-fault c =
    let found : early_fault (map decl_of c.args.decls.items) ≡ Some (c.in-Some.number, c.in-Some.declaration)
    = ap (λ (l : List Decl). early_fault (map decl_of l)) (sym c.deref.ensures.value) ∙ sym c.in_ok-number.ensures ∙ c.in-Some.is in
    faults.early c.in-Some.number c.in-Some.declaration found

pub path_in-requires : goal.path_in-requires
path_in-requires c =
    let none = ap (λ (l : List Decl). early_fault (map decl_of l)) (sym c.deref.ensures.value) ∙ sym c.in_ok-number.ensures ∙ c.in_default.is in
    subst (λ (l : List Decl). IsVersionPath (path_in (map decl_of l))) (sym c.deref-3.ensures.value) (path_few (map decl_of c.args.decls.items) none c.requires)

pub missing_in-missing-requires : goal.missing_in-missing-requires
missing_in-missing-requires c =
    let none = ap (λ (l : List Decl). early_fault (map decl_of l)) (sym c.deref.ensures.value) ∙ sym c.in_ok-number.ensures ∙ c.in_default.is in
    let ds = map decl_of c.args.decls.items in
    (form_in ds, subst (λ (l : List Decl). AreRight (form_in ds) (map decl_of l)) (sym c.deref-4.ensures.value) (right_text ds none))

pub steps_from-requires : goal.steps_from-requires
steps_from-requires c =
    let none = ap (λ (l : List Decl). early_fault (map decl_of l)) (sym c.deref.ensures.value) ∙ sym c.in_ok-number.ensures ∙ c.in_default.is in
    let same = c.form_in-form.ensures ∙ ap (λ (l : List Decl). form_in (map decl_of l)) c.deref-2.ensures.value in
    subst (λ (l : List Decl). AreRight c.form_in-form.result (map decl_of l)) (sym c.deref-5.ensures.value)
    (subst (λ f. AreRight f (map decl_of c.args.decls.items)) (sym same) (right_text (map decl_of c.args.decls.items) none))

pub returns-in-Err-clause-fault : goal.returns-in-Err-clause-fault
returns-in-Err-clause-fault c =
    let ds = map decl_of c.args.decls.items in
    let none = ap (λ (l : List Decl). early_fault (map decl_of l)) (sym c.deref.ensures.value) ∙ sym c.in_ok-number.ensures ∙ c.in_default.is in
    let form = c.form_in-form.ensures ∙ ap (λ (l : List Decl). form_in (map decl_of l)) c.deref-2.ensures.value in
    let path = c.in_ok-path.ensures ∙ ap (λ (l : List Decl). path_in (map decl_of l)) c.deref-3.ensures.value in
    let all = ap (λ (l : List Decl). map decl_of l) c.deref-5.ensures.value in
    late_fault ds c.in-Err.fault none (subst (IsUnformedFault c.in-Err.fault) (λ i. unformed_from (form i) (path i) 1 (all i)) c.in-Err.ensures.fault)

pub new-requires : goal.new-requires
new-requires c =
    let ds = map decl_of c.args.decls.items in
    let none = ap (λ (l : List Decl). early_fault (map decl_of l)) (sym c.deref.ensures.value) ∙ sym c.in_ok-number.ensures ∙ c.in_default.is in
    let form = c.form_in-form.ensures ∙ ap (λ (l : List Decl). form_in (map decl_of l)) c.deref-2.ensures.value in
    let path = c.in_ok-path.ensures ∙ ap (λ (l : List Decl). path_in (map decl_of l)) c.deref-3.ensures.value in
    let missing = c.missing_in-missing.ensures ∙ ap (λ (l : List Decl). missing_in (map decl_of l)) c.deref-4.ensures.value in
    let steps = c.in-Ok.ensures.steps ∙ ap (λ (l : List Decl). steps_from c.form_in-form.result c.in_ok-path.path (map decl_of l)) c.deref-5.ensures.value in
    subst IsSpelled (sym (same_chain ds c.form_in-form.result c.in_ok-path.path c.missing_in-missing.result (steps_of c.in-Ok.made.steps.items) form path missing steps)) (spelled_chain ds none c.requires)

pub fault_of-requires : goal.fault_of-requires
fault_of-requires c step walk at =
    let ds = map decl_of c.args.decls.items in
    let none = ap (λ (l : List Decl). early_fault (map decl_of l)) (sym c.deref.ensures.value) ∙ sym c.in_ok-number.ensures ∙ c.in_default.is in
    let form = c.form_in-form.ensures ∙ ap (λ (l : List Decl). form_in (map decl_of l)) c.deref-2.ensures.value in
    let path = c.in_ok-path.ensures ∙ ap (λ (l : List Decl). path_in (map decl_of l)) c.deref-3.ensures.value in
    let missing = c.missing_in-missing.ensures ∙ ap (λ (l : List Decl). missing_in (map decl_of l)) c.deref-4.ensures.value in
    let steps = c.in-Ok.ensures.steps ∙ ap (λ (l : List Decl). steps_from c.form_in-form.result c.in_ok-path.path (map decl_of l)) c.deref-5.ensures.value in
    let same = same_chain ds c.form_in-form.result c.in_ok-path.path c.missing_in-missing.result (steps_of c.in-Ok.made.steps.items) form path missing steps in
    let numbers = c.in-Ok.ensures.numbers ∙ ap (λ (l : List Decl). step_numbers 1 (map decl_of l)) c.deref-5.ensures.value in
    subst (λ l. step < length l) (sym numbers ∙ sym c.deref-in-Err-new.ensures.value) (refused_step ds _ c.in-Err-new.error none same c.in-Err-new.ensures.fault step walk at)

pub returns-clause-fault : goal.returns-clause-fault
returns-clause-fault c =
    let ds = map decl_of c.args.decls.items in
    let none = ap (λ (l : List Decl). early_fault (map decl_of l)) (sym c.deref.ensures.value) ∙ sym c.in_ok-number.ensures ∙ c.in_default.is in
    let form = c.form_in-form.ensures ∙ ap (λ (l : List Decl). form_in (map decl_of l)) c.deref-2.ensures.value in
    let path = c.in_ok-path.ensures ∙ ap (λ (l : List Decl). path_in (map decl_of l)) c.deref-3.ensures.value in
    let missing = c.missing_in-missing.ensures ∙ ap (λ (l : List Decl). missing_in (map decl_of l)) c.deref-4.ensures.value in
    let steps = c.in-Ok.ensures.steps ∙ ap (λ (l : List Decl). steps_from c.form_in-form.result c.in_ok-path.path (map decl_of l)) c.deref-5.ensures.value in
    let same = same_chain ds c.form_in-form.result c.in_ok-path.path c.missing_in-missing.result (steps_of c.in-Ok.made.steps.items) form path missing steps in
    let all = ap (λ (l : List Decl). map decl_of l) c.deref-5.ensures.value in
    let numbers = c.deref-in-Err-new.ensures.value ∙ c.in-Ok.ensures.numbers ∙ ap (λ (l : List Decl). step_numbers 1 (map decl_of l)) c.deref-5.ensures.value in
    let formed = subst (λ o. o ≡ None) (λ i. unformed_from (form i) (path i) 1 (all i)) c.in-Ok.ensures.formed in
    walk_fault ds _ c.fault_of.result c.deref-in-Err-new.result.now c.in-Err-new.error none formed same numbers c.fault_of.ensures c.in-Err-new.ensures.fault
