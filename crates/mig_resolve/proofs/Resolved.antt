-- When a text has no fault, and what is known of the chain of one that may have a fault on the walk.
use Rattle.std.proofs.Common.{◌≡◌, ◌∙◌, ◌<◌, ℕ, ℤ, zero, suc, List, [], ◌∷◌, Bool, true, false, Option, Some, None, length, refl, sym, ap, subst, arith}
use Rattle.std.specs.Prelude.{if◌then◌else◌}
use Rattle.std.specs.List.{AllByRecursion}
use Rattle.mig_model.specs.declared.form.Form.{Form}
use Rattle.mig_schema.specs.Version.{IsVersionPath}
use Rattle.mig_token.specs.Token.{Tok}
use Rattle.mig_parse.specs.Grammar as grammar
use Rattle.mig_parse.specs.Grammar.{Names, Declaration}
use Rattle.mig_rule.specs.Chain.{ChainStep, Path, Known, after, AreWrongAt, IsRefusedAt}
use Rattle.mig_rule.specs.declared.fault.Walk.{Walk}
use Rattle.mig_syntax.specs.DeclSyntax as decl
use Rattle.mig_syntax.specs.DeclSyntax.{DeclSyntax}
use Rattle.mig_resolve.specs.Text.{form_in, path_in, steps_from, step_numbers, chain_from}
use Rattle.mig_resolve.specs.Faults as faults
use Rattle.mig_resolve.specs.Faults.{early_fault, unformed, IsFaultAt}
use Rattle.mig_resolve.specs.Right.{IsDeclaration}
use Rattle.mig_resolve.proofs.Beginning.{Begins, beginning}

pub no_fault : (ds : List DeclSyntax) → early_fault ds ≡ None → unformed ds ≡ None → ((j : ℕ) (w : Walk) → IsRefusedAt (chain_from ds) j w → ⊥) → (n k : ℕ) → IsFaultAt ds n k → ⊥
no_fault ds e u r n k (faults.early n' k' f) = absurd (let x : None ≡ Some (n', k') = sym e ∙ f in cc)
no_fault ds e u r n k (faults.late k' e' f) = absurd (let x : None ≡ Some k' = sym u ∙ f in cc)
no_fault ds e u r n k (faults.walk j k' w e' u' f at) = r j w f

-- ---- the step at which something is wrong is there
numbers_are : (form : Form) (path : Path) (k : ℕ) (ds : List DeclSyntax) → length (step_numbers k ds) ≡ length (steps_from form path ds)
numbers_are form path k [] = refl
numbers_are form path k (decl.schema z follows ∷ ds) = ap suc (numbers_are form path (suc k) ds)
numbers_are form path k (decl.fix z x ∷ ds) = ap suc (numbers_are form path (suc k) ds)
numbers_are form path k (decl.form f ∷ ds) = numbers_are form path (suc k) ds
numbers_are form path k (decl.version xs z ∷ ds) = numbers_are form path (suc k) ds
numbers_are form path k (decl.named n t ∷ ds) = numbers_are form path (suc k) ds
numbers_are form path k (decl.root n ∷ ds) = numbers_are form path (suc k) ds

one_more : (k : ℕ) (xs : List ChainStep) → k < length xs → suc k < suc (length xs)
one_more k xs h = omega arith

wrong_there : (form : Form) (path : Path) (s : Known) (xs : List ChainStep) (k : ℕ) (w : Walk) → AreWrongAt form path s xs k w → k < length xs
wrong_there form path s [] k w h = absurd h
wrong_there form path s (x ∷ xs) zero w h = omega arith
wrong_there form path s (x ∷ xs) (suc k) w h = one_more k xs (wrong_there form path (after s x) xs k w h.1)

refused_begun : (ds : List DeclSyntax) → Begins ds → (j : ℕ) (w : Walk) → IsRefusedAt (chain_from ds) j w → j < length (steps_from (form_in ds) (path_in ds) ds)
refused_begun ds b j w r = subst (λ es. j < length (steps_from (form_in es) (path_in es) es)) (sym b.is) (at (subst (λ es. IsRefusedAt (chain_from es) j w) b.is r))
  where
    begun : List DeclSyntax
    begun = decl.form b.form ∷ decl.version b.path b.missing ∷ decl.schema b.first false ∷ b.rest

    at : IsRefusedAt (chain_from begun) j w → j < length (steps_from b.form b.path begun)
    at h = wrong_there b.form b.path None (steps_from b.form b.path begun) j w h

pub refused_there : (ds : List DeclSyntax) → early_fault ds ≡ None → (j : ℕ) (w : Walk) → IsRefusedAt (chain_from ds) j w → j < length (step_numbers 1 ds)
refused_there ds e j w r = subst (λ n. j < n) (sym (numbers_are (form_in ds) (path_in ds) 1 ds)) (refused_begun ds (beginning ds e) j w r)

-- ---- the version path has one to three names
names_few : (ts : List Tok) (xs : List (List ℕ)) → Names ts xs → IsVersionPath xs
names_few ts xs (grammar.one_name x) = record { one = omega arith; three = omega arith }
names_few ts xs (grammar.two_names x y) = record { one = omega arith; three = omega arith }
names_few ts xs (grammar.three_names x y z) = record { one = omega arith; three = omega arith }

version_few : (ts : List Tok) (xs : List (List ℕ)) (z : Option ℤ) → Declaration ts (decl.version xs z) → IsVersionPath xs
version_few ts xs z (grammar.version a xs' n names) = names_few a xs names

pub path_few : (ds : List DeclSyntax) → early_fault ds ≡ None → AllByRecursion IsDeclaration ds → IsVersionPath (path_in ds)
path_few ds e h = by (beginning ds e)
  where
    by : Begins ds → IsVersionPath (path_in ds)
    by b =
        let known = subst (AllByRecursion IsDeclaration) b.is h in
        let second = known.1.0 in
        subst (λ es. IsVersionPath (path_in es)) (sym b.is) (version_few second.1.0 b.path b.missing second.1.2)
