-- The chain of declarations is spelled, and what it has where nothing from 1 to 9 holds.
use Rattle.std.proofs.Common.{◌≡◌, ◌∙◌, ◌<◌, ◌≤◌, ◌^◌, ℕ, List, [], ◌∷◌, Option, Some, None, length, refl, sym, ap, subst, arith}
use Rattle.std.specs.Prelude.{slice_get}
use Rattle.std.specs.List.{AllByRecursion}
use Rattle.std.proofs.lemmas.Str.{IsUtf8-nil, chars-nil}
use Rattle.mig_model.specs.declared.form.Form.{Form}
use Rattle.mig_parse.proofs.DeclarationTexts.{texts_are_spelled}
use Rattle.mig_parse.specs.Texts.{decl_texts}
use Rattle.mig_rule.specs.Chain.{Chain, ChainStep, Path, IsRefusedAt}
use Rattle.mig_rule.specs.Fault.{IsWalkFault}
use Rattle.mig_rule.specs.Spelled.{IsSpelledText, IsSpelled}
use Rattle.mig_rule.specs.declared.fault.Walk.{Walk}
use Rattle.mig_rule.specs.declared.fault.ChainError.{ChainError}
use Rattle.mig_rule.specs.declared.fault.ChainError.TheVariants as C
use Rattle.mig_syntax.specs.DeclSyntax.{DeclSyntax}
use Rattle.mig_resolve.specs.declared.fault.ChainFault.{ChainFault}
use Rattle.mig_resolve.specs.declared.fault.ChainFault.TheVariants as F
use Rattle.mig_resolve.specs.Text.{form_in, path_in, missing_in, steps_from, step_numbers, chain_from}
use Rattle.mig_resolve.specs.Faults as faults
use Rattle.mig_resolve.specs.Faults.{early_fault, unformed, IsFaultAt}
use Rattle.mig_resolve.specs.Right.{AreRight, IsDeclaration}
use Rattle.mig_resolve.specs.Steps.{IsChainFault, IsStepFault, IsUnformedFault}
use Rattle.mig_resolve.proofs.Clear.{all_clear, all_right}
use Rattle.mig_resolve.proofs.Texts.{of_chain, of_path}
use Rattle.mig_resolve.proofs.KindsOfSteps.{kinds_of_chain}
use Rattle.mig_resolve.proofs.Resolved.{refused_there}

empty_is_spelled : IsSpelledText []
empty_is_spelled = (omega arith, IsUtf8-nil, subst (AllByRecursion (λ c. (32 ≤ c) × (c < 2 ^ 16))) (sym chars-nil) tt)

texts_of : (ds : List DeclSyntax) → AllByRecursion IsDeclaration ds → AllByRecursion (λ d. AllByRecursion IsSpelledText (decl_texts d)) ds
texts_of [] h = tt
texts_of (d ∷ ds) h = (texts_are_spelled h.0.0 d h.0.1, texts_of ds h.1)

pub right_text : (ds : List DeclSyntax) → early_fault ds ≡ None → AreRight (form_in ds) ds
right_text ds e = all_right (form_in ds) [] ds (all_clear (form_in ds) [] ds e)

pub spelled_chain : (ds : List DeclSyntax) → early_fault ds ≡ None → AllByRecursion IsDeclaration ds → IsSpelled (chain_from ds)
spelled_chain ds e g =
    let texts = texts_of ds g in
    let path = of_path IsSpelledText ds texts in
    record {
      version = path;
      texts = of_chain IsSpelledText empty_is_spelled (form_in ds) (path_in ds) path ds texts;
      kinds = kinds_of_chain (form_in ds) (path_in ds) ds (right_text ds e);
    }

-- a chain of parts that are those of the declarations
pub same_chain : (ds : List DeclSyntax) (form : Form) (path : Path) (missing : Option ℕ) (steps : List ChainStep) → form ≡ form_in ds → path ≡ path_in ds → missing ≡ missing_in ds → steps ≡ steps_from form path ds
    → record { form = form; version = path; missing = missing; steps = steps } ≡ chain_from ds
same_chain ds form path missing steps f p m s =
    let all : steps ≡ steps_from (form_in ds) (path_in ds) ds = s ∙ ap (λ g. steps_from g path ds) f ∙ ap (λ q. steps_from (form_in ds) q ds) p in
    λ i. record { form = f i; version = p i; missing = m i; steps = all i }

pub late_fault : (ds : List DeclSyntax) (e : ChainFault) → early_fault ds ≡ None → IsUnformedFault e (unformed ds) → IsChainFault e (IsFaultAt ds)
late_fault ds (F.Fault n k) early (a, b) = subst (λ m. IsFaultAt ds m k) (sym a) (faults.late k early b)
late_fault ds F.Memory early h = tt

pub refused_step : (ds : List DeclSyntax) (c : Chain) (error : ChainError) → early_fault ds ≡ None → c ≡ chain_from ds → IsWalkFault error (IsRefusedAt c) → (step : ℕ) (walk : Walk) → error ≡ C.At step walk → step < length (step_numbers 1 ds)
refused_step ds c error early is h step walk at = refused_there ds early step walk (subst (λ d. IsRefusedAt d step walk) is (subst (λ x. IsWalkFault x (IsRefusedAt c)) at h))

pub walk_fault : (ds : List DeclSyntax) (c : Chain) (e : ChainFault) (ks : List ℕ) (error : ChainError) → early_fault ds ≡ None → unformed ds ≡ None → c ≡ chain_from ds → ks ≡ step_numbers 1 ds → IsStepFault e ks error → IsWalkFault error (IsRefusedAt c) → IsChainFault e (IsFaultAt ds)
walk_fault ds c (F.Fault n k) ks (C.At j w) early none is numbers (a, b) r =
    subst (λ m. IsFaultAt ds m k) (sym a) (faults.walk j k w early none (subst (λ d. IsRefusedAt d j w) is r) (ap (λ l. slice_get l j) (sym numbers) ∙ b))
walk_fault ds c (F.Fault n k) ks C.Memory early none is numbers h r = absurd h
walk_fault ds c F.Memory ks error early none is numbers h r = tt
