-- How a text begins at whose declarations nothing from 1 to 9 holds: with a form, a version, and a schema with a family of its own.
use Rattle.std.proofs.Common.{◌≡◌, ◌∙◌, ◌||◌, ◌&&◌, ℕ, ℤ, List, [], ◌∷◌, Bool, true, false, Option, Some, None, refl, sym, ap, subst}
use Rattle.std.specs.Prelude.{not}
use Rattle.mig_model.specs.declared.form.Form.{Form}
use Rattle.mig_syntax.specs.DeclSyntax as decl
use Rattle.mig_syntax.specs.DeclSyntax.{DeclSyntax}
use Rattle.mig_resolve.specs.Text.{is_form, is_version, is_own_schema, is_part, is_root, is_under_own, has_root, form_in}
use Rattle.mig_resolve.specs.Faults.{early_fault, schema_is_misplaced, third_is_no_schema}
use Rattle.mig_resolve.proofs.Clear.{IsClear, AreClear, all_clear, neither, not_false}

pub record Begins (ds : List DeclSyntax) : Type 0 where
  pub form : Form
  pub path : List (List ℕ)
  pub missing : Option ℤ
  pub first : ℤ
  pub rest : List DeclSyntax
  pub is : ds ≡ decl.form form ∷ decl.version path missing ∷ decl.schema first false ∷ rest
  pub version_clear : IsClear form (decl.form form ∷ []) (decl.version path missing) (decl.schema first false ∷ rest)
  pub schema_clear : IsClear form (decl.version path missing ∷ decl.form form ∷ []) (decl.schema first false) rest
  pub rest_clear : AreClear form (decl.schema first false ∷ decl.version path missing ∷ decl.form form ∷ []) rest

third_own : (before : List DeclSyntax) (d : DeclSyntax) (later : List DeclSyntax) → schema_is_misplaced before d later ≡ false → third_is_no_schema before d ≡ false
third_own before d later e =
    (neither (third_is_no_schema before d) ((is_part d && not (is_under_own before)) || ((is_root d && has_root before) || (is_own_schema d && not (has_root later)))) e).0

the_third : (f : Form) (xs : List (List ℕ)) (m : Option ℤ) (ds : List DeclSyntax) → IsClear f (decl.form f ∷ []) (decl.version xs m) ds → AreClear f (decl.version xs m ∷ decl.form f ∷ []) ds → Begins (decl.form f ∷ decl.version xs m ∷ ds)
the_third f xs m [] v h = absurd cc
the_third f xs m (decl.schema z false ∷ ds) v h = record { form = f; path = xs; missing = m; first = z; rest = ds; is = refl; version_clear = v; schema_clear = h.0; rest_clear = h.1 }
the_third f xs m (decl.schema z true ∷ ds) v h = absurd (let e : true ≡ false = third_own (decl.version xs m ∷ decl.form f ∷ []) (decl.schema z true) ds h.0.schema_placed in cc)
the_third f xs m (decl.form g ∷ ds) v h = absurd (let e : true ≡ false = third_own (decl.version xs m ∷ decl.form f ∷ []) (decl.form g) ds h.0.schema_placed in cc)
the_third f xs m (decl.version ys n ∷ ds) v h = absurd (let e : true ≡ false = third_own (decl.version xs m ∷ decl.form f ∷ []) (decl.version ys n) ds h.0.schema_placed in cc)
the_third f xs m (decl.named n t ∷ ds) v h = absurd (let e : true ≡ false = third_own (decl.version xs m ∷ decl.form f ∷ []) (decl.named n t) ds h.0.schema_placed in cc)
the_third f xs m (decl.root n ∷ ds) v h = absurd (let e : true ≡ false = third_own (decl.version xs m ∷ decl.form f ∷ []) (decl.root n) ds h.0.schema_placed in cc)
the_third f xs m (decl.fix z x ∷ ds) v h = absurd (let e : true ≡ false = third_own (decl.version xs m ∷ decl.form f ∷ []) (decl.fix z x) ds h.0.schema_placed in cc)

the_second : (f : Form) (ds : List DeclSyntax) → AreClear f (decl.form f ∷ []) ds → Begins (decl.form f ∷ ds)
the_second f [] h = absurd cc
the_second f (decl.version xs m ∷ ds) h = the_third f xs m ds h.0 h.1
the_second f (decl.form g ∷ ds) h = absurd (let e : true ≡ false = h.0.version_placed in cc)
the_second f (decl.schema z b ∷ ds) h = absurd (let e : true ≡ false = h.0.version_placed in cc)
the_second f (decl.named n t ∷ ds) h = absurd (let e : true ≡ false = h.0.version_placed in cc)
the_second f (decl.root n ∷ ds) h = absurd (let e : true ≡ false = h.0.version_placed in cc)
the_second f (decl.fix z x ∷ ds) h = absurd (let e : true ≡ false = h.0.version_placed in cc)

the_first : (ds : List DeclSyntax) → AreClear (form_in ds) [] ds → Begins ds
the_first [] h = absurd cc
the_first (decl.form f ∷ ds) h = the_second f ds h.1
the_first (decl.version xs m ∷ ds) h = absurd (let e : true ≡ false = h.0.form_placed in cc)
the_first (decl.schema z b ∷ ds) h = absurd (let e : true ≡ false = h.0.form_placed in cc)
the_first (decl.named n t ∷ ds) h = absurd (let e : true ≡ false = h.0.form_placed in cc)
the_first (decl.root n ∷ ds) h = absurd (let e : true ≡ false = h.0.form_placed in cc)
the_first (decl.fix z x ∷ ds) h = absurd (let e : true ≡ false = h.0.form_placed in cc)

pub beginning : (ds : List DeclSyntax) → early_fault ds ≡ None → Begins ds
beginning ds e = the_first ds (all_clear (form_in ds) [] ds e)
