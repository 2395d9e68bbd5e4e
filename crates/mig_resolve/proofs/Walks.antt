-- On the walk along the steps of a text at whose declarations nothing from 1 to 9 holds, only what has a number above 10 is met.
use Rattle.std.proofs.Common.{◌≡◌, ◌∙◌, ◌<◌, ◌≤◌, ◌||◌, ◌&&◌, ℕ, ℤ, zero, suc, List, [], ◌∷◌, Bool, true, false, Option, Some, None, length, refl, sym, ap, subst, arith}
use Rattle.std.specs.Prelude.{not, nat_abs, option_map, int_le}
use Rattle.std.proofs.lemmas.Bool.Decides.{Decides-int_eq}
use Rattle.mig_model.specs.declared.form.Form.{Form}
use Rattle.mig_model.specs.Family.{Family}
use Rattle.mig_model.specs.Version.{last_version}
use Rattle.mig_rule.specs.Rule.{Fix}
use Rattle.mig_rule.specs.Chain as chain
use Rattle.mig_rule.specs.Chain.{ChainStep, Path, Known, IsWrong, IsFirst, IsOf, InOrder, AreWrongAt, IsRefusedAt, next_schema, family_next}
use Rattle.mig_rule.specs.declared.fault.Walk.{Walk}
use Rattle.mig_rule.specs.declared.fault.Walk.TheVariants as W
use Rattle.mig_syntax.specs.DeclSyntax as decl
use Rattle.mig_syntax.specs.DeclSyntax.{DeclSyntax}
use Rattle.mig_resolve.specs.Text.{nearest_version, family_in, given_family, steps_from, chain_from}
use Rattle.mig_resolve_rule.specs.Rules.{fix_from}
use Rattle.mig_resolve.specs.Faults.{is_version_number, is_above, is_number, version_is_wrong, walk_number, early_fault}
use Rattle.mig_resolve.proofs.Clear.{IsClear, AreClear, neither, not_false}
use Rattle.mig_resolve.proofs.Beginning.{Begins, beginning}

in_range : (z : ℤ) → is_version_number z ≡ true → nat_abs z ≤ last_version
in_range z e = grind arith

above : (y z : ℤ) → is_version_number y ≡ true → is_version_number z ≡ true → not (int_le z y) ≡ true → nat_abs y < nat_abs z
above y z a b e = grind arith

-- the next schema of the steps is that of the declarations
next_is : (form : Form) (path : Path) (ds : List DeclSyntax) → next_schema (steps_from form path ds) ≡ option_map nat_abs (nearest_version ds)
next_is form path [] = refl
next_is form path (decl.form f ∷ ds) = next_is form path ds
next_is form path (decl.version xs z ∷ ds) = next_is form path ds
next_is form path (decl.schema z follows ∷ ds) = refl
next_is form path (decl.named n t ∷ ds) = next_is form path ds
next_is form path (decl.root n ∷ ds) = next_is form path ds
next_is form path (decl.fix z x ∷ ds) = next_is form path ds

number_is : (o : Option ℤ) (z : ℤ) → not (is_number o z) ≡ false → option_map nat_abs o ≡ Some (nat_abs z)
number_is None z e = absurd cc
number_is (Some y) z e = ap (λ x. Some (nat_abs x)) ((Decides-int_eq y z).0 (not_false (is_number (Some y) z) e))

own_is_of : (form : Form) (path : Path) (follows : Bool) (ds : List DeclSyntax) → IsOf form path (given_family form path follows ds)
own_is_of form path true ds = tt
own_is_of form path false ds = (refl, refl)

-- the last schema before has the version y, and v is that as a plain number
pub record IsLast (before : List DeclSyntax) (v : ℕ) : Type 0 where
  pub version : ℤ
  pub nearest : nearest_version before ≡ Some version
  pub range : is_version_number version ≡ true
  pub is : v ≡ nat_abs version

in_order : (form : Form) (path : Path) (before : List DeclSyntax) (v : ℕ) (z : ℤ) (follows : Bool) (ds : List DeclSyntax) → IsLast before v → version_is_wrong before (decl.schema z follows) ≡ false
    → InOrder form path (Some v) (nat_abs z) (given_family form path follows ds)
in_order form path before v z follows ds last e =
    let both = neither (not (is_version_number z)) (not (is_above (nearest_version before) z)) e in
    let range : is_version_number z ≡ true = not_false (is_version_number z) both.0 in
    let over : is_above (Some last.version) z ≡ true = ap (λ o. is_above o z) (sym last.nearest) ∙ not_false (is_above (nearest_version before) z) both.1 in
    record {
      above = subst (λ n. n < nat_abs z) (sym last.is) (above last.version z last.range range over);
      bound = in_range z range;
      of_chain = own_is_of form path follows ds;
    }

-- what is first wrong at a schema in order, and at a fix with the right number
late_schema : (form : Form) (path : Path) (s : ℕ × Family) (v : ℕ) (f : Option Family) (later : List ChainStep) (w : Walk) → InOrder form path (Some s.0) v f → IsFirst (IsWrong form path (Some s) (chain.schema v f) later) w → 10 < walk_number w
late_schema form path s v f later W.First o is = absurd is.wrong
late_schema form path s v f later W.Order o is = absurd (is.wrong o)
late_schema form path s v None later W.Number o is = absurd is.wrong
late_schema form path s v (Some f) later W.Number o is = absurd is.wrong
late_schema form path s v f later W.NoName o is = omega arith
late_schema form path s v f later W.Missed o is = omega arith
late_schema form path s v f later W.IllFormed o is = omega arith
late_schema form path s v f later W.Mismatch o is = omega arith

late_fix : (form : Form) (path : Path) (s : ℕ × Family) (n : ℕ) (x : Fix) (later : List ChainStep) (w : Walk) → next_schema later ≡ Some n → IsFirst (IsWrong form path (Some s) (chain.fix n x) later) w → 10 < walk_number w
late_fix form path s n x later W.First o is = absurd is.wrong
late_fix form path s n x later W.Order o is = absurd is.wrong
late_fix form path s n x later W.Number o is = absurd (is.wrong o)
late_fix form path s n x later W.NoName o is = omega arith
late_fix form path s n x later W.Missed o is = omega arith
late_fix form path s n x later W.IllFormed o is = omega arith
late_fix form path s n x later W.Mismatch o is = omega arith

abbrev Late : Form → Path → ℕ × Family → List DeclSyntax → Type 0
Late form path s ds = (k : ℕ) (w : Walk) → AreWrongAt form path (Some s) (steps_from form path ds) k w → 10 < walk_number w

late_from : (form : Form) (path : Path) (before ds : List DeclSyntax) (s : ℕ × Family) → IsLast before s.0 → AreClear form before ds → Late form path s ds
late_from form path before [] s last h k w r = absurd r
late_from form path before (decl.schema z follows ∷ ds) s last h zero w r =
    late_schema form path s (nat_abs z) (given_family form path follows ds) (steps_from form path ds) w (in_order form path before s.0 z follows ds last h.0.version_right) r
late_from form path before (decl.schema z true ∷ ds) s last h (suc k) w r =
    let range = not_false (is_version_number z) (neither (not (is_version_number z)) (not (is_above (nearest_version before) z)) h.0.version_right).0 in
    late_from form path (decl.schema z true ∷ before) ds (nat_abs z, s.1) (record { version = z; nearest = refl; range = range; is = refl }) h.1 k w r.1
late_from form path before (decl.schema z false ∷ ds) s last h (suc k) w r =
    let range = not_false (is_version_number z) (neither (not (is_version_number z)) (not (is_above (nearest_version before) z)) h.0.version_right).0 in
    late_from form path (decl.schema z false ∷ before) ds (nat_abs z, family_in form path ds) (record { version = z; nearest = refl; range = range; is = refl }) h.1 k w r.1
late_from form path before (decl.fix z x ∷ ds) s last h zero w r =
    late_fix form path s (nat_abs z) (fix_from x) (steps_from form path ds) w (next_is form path ds ∙ number_is (nearest_version ds) z h.0.number_right) r
late_from form path before (decl.fix z x ∷ ds) s last h (suc k) w r =
    late_from form path (decl.fix z x ∷ before) ds (s.0, family_next (fix_from x) s.1) (record { version = last.version; nearest = last.nearest; range = last.range; is = last.is }) h.1 k w r.1
late_from form path before (decl.form f ∷ ds) s last h k w r =
    late_from form path (decl.form f ∷ before) ds s (record { version = last.version; nearest = last.nearest; range = last.range; is = last.is }) h.1 k w r
late_from form path before (decl.version xs z ∷ ds) s last h k w r =
    late_from form path (decl.version xs z ∷ before) ds s (record { version = last.version; nearest = last.nearest; range = last.range; is = last.is }) h.1 k w r
late_from form path before (decl.named n t ∷ ds) s last h k w r =
    late_from form path (decl.named n t ∷ before) ds s (record { version = last.version; nearest = last.nearest; range = last.range; is = last.is }) h.1 k w r
late_from form path before (decl.root n ∷ ds) s last h k w r =
    late_from form path (decl.root n ∷ before) ds s (record { version = last.version; nearest = last.nearest; range = last.range; is = last.is }) h.1 k w r

-- the first step is a schema with a family, in order
late_first : (form : Form) (path : Path) (v : ℕ) (f : Family) (later : List ChainStep) (w : Walk) → InOrder form path None v (Some f) → IsFirst (IsWrong form path None (chain.schema v (Some f)) later) w → 10 < walk_number w
late_first form path v f later W.First o is = absurd is.wrong
late_first form path v f later W.Order o is = absurd (is.wrong o)
late_first form path v f later W.Number o is = absurd is.wrong
late_first form path v f later W.NoName o is = omega arith
late_first form path v f later W.Missed o is = omega arith
late_first form path v f later W.IllFormed o is = omega arith
late_first form path v f later W.Mismatch o is = omega arith

late_begun : (ds : List DeclSyntax) → Begins ds → (k : ℕ) (w : Walk) → IsRefusedAt (chain_from ds) k w → 10 < walk_number w
late_begun ds b k w r = at k (subst (λ es. IsRefusedAt (chain_from es) k w) b.is r)
  where
    range : is_version_number b.first ≡ true
    range = not_false (is_version_number b.first) (neither (not (is_version_number b.first)) (not (is_above None b.first)) b.schema_clear.version_right).0

    at : (k : ℕ) → IsRefusedAt (chain_from (decl.form b.form ∷ decl.version b.path b.missing ∷ decl.schema b.first false ∷ b.rest)) k w → 10 < walk_number w
    at zero r = late_first b.form b.path (nat_abs b.first) (family_in b.form b.path b.rest) (steps_from b.form b.path b.rest) w (record { above = tt; bound = in_range b.first range; of_chain = (refl, refl) }) r
    at (suc k) r = late_from b.form b.path (decl.schema b.first false ∷ decl.version b.path b.missing ∷ decl.form b.form ∷ []) b.rest (nat_abs b.first, family_in b.form b.path b.rest) (record { version = b.first; nearest = refl; range = range; is = refl }) b.rest_clear k w r.1

pub late_walk : (ds : List DeclSyntax) → early_fault ds ≡ None → (k : ℕ) (w : Walk) → IsRefusedAt (chain_from ds) k w → 10 < walk_number w
late_walk ds e = late_begun ds (beginning ds e)
