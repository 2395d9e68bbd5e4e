-- What an accepted small chain does at each version.
use Rattle.std.proofs.Common.{◌≡◌, ◌∙◌, ◌<◌, ℕ, zero, suc, List, [], ◌∷◌, ◌++◌, length, Bool, true, false, cond, Option, Some, None, eqb-true, refl, sym, ap, subst, arith}
use Rattle.std.specs.Prelude.{◌==◌, ◌||◌, ◌&&◌, Err, is_some, not, nat_lt, nat_le, option_map, slice_get, unwrap_or}
use Rattle.std.specs.List.{AllByRecursion, flat_map, list_any}
use Rattle.std.proofs.lemmas.Option.{same_Some}
use Rattle.mig_model.specs.declared.form.Form.{Form}
use Rattle.mig_model.specs.declared.rest.Rest.TheVariants.{Open}
use Rattle.mig_model.specs.Const.{const_kind, const_tree}
use Rattle.mig_model.specs.Family.{Family, Flaw, body, find_type, first_flaw, holds}
use Rattle.mig_model.specs.Inhabits.{Entries, depth}
use Rattle.mig_model.specs.Kinds.{IsMap}
use Rattle.mig_model.specs.Names.{same_name, put, without}
use Rattle.mig_model.specs.Plain.{Plain, on_entries}
use Rattle.mig_model.specs.Record.{RecordParts, record_of}
use Rattle.mig_model.specs.Template.{Template, any, rec, field_list, no_choice, is_of_form}
use Rattle.mig_model.proofs.Bools.{first_true}
use Rattle.mig_model.proofs.SameNames.{same_name_is, same_name_itself}
use Rattle.mig_schema.specs.Types.{Named}
use Rattle.mig_fold.specs.Fold.{treat, fold_within, unless_skipped, none_skipped}
use Rattle.mig_field.specs.FieldFn.{constant, rename, add}
use Rattle.mig_field.specs.NewRecord.{new_record}
use Rattle.mig_rule.specs.Rule as rule
use Rattle.mig_rule.specs.Rule.{Fix}
use Rattle.mig_rule.specs.Target.{parts_of, target}
use Rattle.mig_rule.specs.Act.{act, by_function, where_it_fits}
use Rattle.mig_rule.specs.Fix.{no_name, missed, if_formed, family_after, fits_type, misses, names_nothing, next, plain}
use Rattle.mig_rule.specs.Chain.{Path, AreAccepted, IsFamily, IsSameAs, families, family_next, family_or, versions}
use Rattle.mig_rule.specs.Lifted.{fixed_by, numbered}
use Rattle.mig_rule.specs.Spelled.{IsSpelledText, chain_step_kinds, chain_step_texts, family_texts, rule_texts}
use Rattle.mig_rule.proofs.Floors.{Rises}
use Rattle.mig_lift.specs.Small.{Edits, is_flat, is_flat_record}
use Rattle.mig_lift.specs.View.{with_edits}
use Rattle.mig_lift.proofs.Flat.{nothing_treated}
use Rattle.mig_lift.proofs.FlatAfter.{flat_after}
use Rattle.mig_lift.proofs.Parts.{Parts, common_function, rule_with, steps_of}

-- of the form and the version path, and the root is a flat record
pub record IsFlatOf (form : Form) (path : Path) (f : Family) : Type 0 where
  pub form_is : f.form ≡ form
  pub version_is : f.version ≡ path
  pub flat : is_flat_record (body f f.root) ≡ true

-- ---- the one type of a flat family
record OneType (ts : List Named) (n : List ℕ) : Type 0 where
  pub template : Template
  pub types_are : ts ≡ (n, template) ∷ []
  pub flat : is_flat_record template ≡ true

one_type : (ts : List Named) (n : List ℕ) → (length ts == 1 && holds is_flat_record (find_type n ts)) ≡ true → OneType ts n
one_type [] n e = absurd (let x : false ≡ true = e in cc)
one_type (t ∷ []) n e = by (same_name n t.0) refl e
  where
    by : (b : Bool) → same_name n t.0 ≡ b → holds is_flat_record (cond b (Some t.1) None) ≡ true → OneType (t ∷ []) n
    by true h flat = record { template = t.1; types_are = ap (λ m. (m, t.1) ∷ []) (sym (same_name_is n t.0 h)); flat = flat }
    by false h flat = absurd (let x : false ≡ true = flat in cc)
one_type (t ∷ (u ∷ ts)) n e =
    let one : length (t ∷ (u ∷ ts)) ≡ 1 = eqb-true (length (t ∷ (u ∷ ts))) 1 (first_true (length (t ∷ (u ∷ ts)) == 1) (holds is_flat_record (find_type n (t ∷ (u ∷ ts)))) e) in
    absurd (omega (arith, one))

body_is : (f : Family) (V : Template) → f.types ≡ (f.root, V) ∷ [] → body f f.root ≡ V
body_is f V e = ap (λ ts. unwrap_or (find_type f.root ts) any) e ∙ ap (λ b. unwrap_or (cond b (Some V) None) any) (same_name_itself f.root)

-- ---- what a fix that is accepted makes
record IsNext (x : Fix) (f : Family) : Type 0 where
  pub fits : misses x f ≡ false
  pub family : family_next x f ≡ family_after x f

next_is : (x : Fix) (f : Family) → IsFamily (next x f) → IsNext x f
next_is x f h = by (names_nothing x f) (misses x f) refl (first_flaw after) h refl
  where
    after : Family
    after = family_after x f

    by : (b m : Bool) → misses x f ≡ m → (w : Option Flaw) → IsFamily (cond b (Err no_name) (cond m (Err missed) (if_formed after w)))
        → next x f ≡ cond b (Err no_name) (cond m (Err missed) (if_formed after w)) → IsNext x f
    by true m k w h e = absurd h
    by false true k w h e = absurd h
    by false false k None h e = record { fits = k; family = ap (family_or f) e }
    by false false k (Some w) h e = absurd h

-- ---- what the rule does to a map of a flat record
act_is : (form : Form) (n : List ℕ) (e : Edits) (V : Template) → is_flat_record V ≡ true → (t : Plain) → act form (rule_with e) n V t ≡ with_edits e t
act_is form n e (rec fs no_choice Open) flat t = by (new_record (common_function (rename e.0.0 e.0.1)) (record { fields = field_list fs; choice = None; rest = Open })) (act form (rule.function (common_function (rename e.0.0 e.0.1))) n (rec fs no_choice Open) t)
  where
    by : (o : Option RecordParts) (u : Plain) → by_function (common_function (add e.1.0 (constant e.1.1))) (parts_of (unwrap_or (option_map record_of o) (rec fs no_choice Open))) u
        ≡ on_entries (λ (es : Entries). put e.1.0 (const_tree e.1.1) (without e.1.0 es)) u
    by None u = refl
    by (Some p) u = refl
act_is form n e V flat t = absurd (let k : false ≡ true = flat in cc)

module _ (form : Form) (path : Path) (p : Parts) (accepted : AreAccepted form path (steps_of p)) (flat : is_flat p.before ≡ true) where
  abbrev fix_of : Fix
  fix_of = rule.rule (rule_with p.edits)

  one : OneType p.before.types p.before.root
  one = one_type p.before.types p.before.root flat

  root_is : body p.before p.before.root ≡ one.template
  root_is = body_is p.before one.template one.types_are

  next_family : IsNext fix_of p.before
  next_family = next_is fix_of p.before accepted.1.0.1

  -- the template that the rule makes of the root's
  made : (W : Template) × (target (rule_with p.edits) p.before.root one.template ≡ Some W)
  made = by (target (rule_with p.edits) p.before.root one.template) refl (subst (λ ts. not (list_any (fits_type (rule_with p.edits)) ts) ≡ false) one.types_are next_family.fits)
    where
      by : (o : Option Template) → target (rule_with p.edits) p.before.root one.template ≡ o → not (is_some o || false) ≡ false → (W : Template) × (target (rule_with p.edits) p.before.root one.template ≡ Some W)
      by None h e = absurd (let k : true ≡ false = e in cc)
      by (Some W) h e = (W, h)

  flat_before : IsFlatOf form path p.before
  flat_before = record { form_is = accepted.0.of_chain.0; version_is = accepted.0.of_chain.1; flat = subst (λ V. is_flat_record V ≡ true) (sym root_is) one.flat }

  flat_next : IsFlatOf form path (family_next fix_of p.before)
  flat_next = subst (IsFlatOf form path) (sym next_family.family) (record { form_is = accepted.0.of_chain.0; version_is = accepted.0.of_chain.1; flat = subst (λ V. is_flat_record V ≡ true) (sym after_is) kept })
    where
      after_is : body (family_after fix_of p.before) p.before.root ≡ made.0
      after_is =
          body_is (family_after fix_of p.before) made.0
          (ap (λ ts. (family_after fix_of (record p.before { types = ts })).types) one.types_are ∙ ap (λ o. (p.before.root, unwrap_or o one.template) ∷ []) made.1)

      kept : is_flat_record made.0 ≡ true
      kept = flat_after p.before.root p.edits one.template made.0 one.flat made.1

  flat_second : IsFlatOf form path (unwrap_or p.given (family_next fix_of p.before))
  flat_second = by p.given accepted.1.1.0.1
    where
      by : (o : Option Family) → IsSameAs (family_next fix_of p.before) o → IsFlatOf form path (unwrap_or o (family_next fix_of p.before))
      by None h = flat_next
      by (Some g) h = record {
        form_is = sym h.form ∙ flat_next.form_is;
        version_is = sym h.version ∙ flat_next.version_is;
        flat = ap (λ o. is_flat_record (unwrap_or o any)) (ap (λ n. find_type n g.types) (sym h.root) ∙ sym (h.types (family_next fix_of p.before).root)) ∙ flat_next.flat;
      }

  pub flat_at : (i : ℕ) (f : Family) → slice_get (families (steps_of p)) i ≡ Some f → IsFlatOf form path f
  flat_at zero f e = subst (IsFlatOf form path) (same_Some p.before f e) flat_before
  flat_at (suc zero) f e = subst (IsFlatOf form path) (same_Some (unwrap_or p.given (family_next fix_of p.before)) f e) flat_second
  flat_at (suc (suc i)) f e = absurd (let k : None ≡ Some f = e in cc)

  pub family_there : (i : ℕ) → i < length (versions (steps_of p)) → (f : Family) × (slice_get (families (steps_of p)) i ≡ Some f)
  family_there zero l = (p.before, refl)
  family_there (suc zero) l = (unwrap_or p.given (family_next fix_of p.before), refl)
  family_there (suc (suc i)) l = absurd (omega (arith, l))

  pub versions_rise : Rises None (versions (steps_of p))
  versions_rise = (tt, (accepted.1.1.0.0.above, tt))

  -- what the fix does to a map
  plain_is : (t : Plain) → IsMap t → plain fix_of p.before p.before.root t ≡ with_edits p.edits t
  plain_is t m =
      let bodies = body p.before in
      let r = rule_with p.edits in
      let n = p.before.root in
      let arm = λ (m : List ℕ) (u : Plain). where_it_fits (target r m) (act p.before.form r m) (bodies m) u in
      let h = unless_skipped none_skipped (fold_within p.before.form bodies none_skipped arm (depth t)) in
      ap (λ V. where_it_fits (target r n) (act p.before.form r n) V (treat p.before.form h V t)) root_is
      ∙ ap (where_it_fits (target r n) (act p.before.form r n) one.template) (nothing_treated p.before.form h one.template one.flat t m)
      ∙ ap (λ o. cond (is_some o) (act p.before.form r n one.template t) t) made.1
      ∙ act_is p.before.form n p.edits one.template one.flat t

  pub fixed_is : (v aim : ℕ) (t : Plain) → IsMap t → fixed_by v aim (numbered (steps_of p)) t ≡ cond (nat_lt v p.number && nat_le p.number aim) (with_edits p.edits t) t
  fixed_is v aim t m = ap (λ u. cond (nat_lt v p.number && nat_le p.number aim) u t) (plain_is t m)

-- ---- what is spelled
split_all : {A : Type 0} (P : A → Type 0) (xs ys : List A) → AllByRecursion P (xs ++ ys) → AllByRecursion P xs × AllByRecursion P ys
split_all P [] ys h = (tt, h)
split_all P (x ∷ xs) ys h = let rest = split_all P xs ys h.1 in ((h.0, rest.0), rest.1)

pub texts_spelled : (p : Parts) → AllByRecursion IsSpelledText (flat_map chain_step_texts (steps_of p)) → AllByRecursion IsSpelledText (rule_texts (rule_with p.edits))
texts_spelled p h =
    let behind = (split_all IsSpelledText (family_texts (Some p.before)) _ h).1 in
    (split_all IsSpelledText (rule_texts (rule_with p.edits)) _ behind).0

pub kind_of_form : (form : Form) (p : Parts) → AllByRecursion (λ k. is_of_form form k ≡ true) (flat_map chain_step_kinds (steps_of p)) → is_of_form form (const_kind p.edits.1.1) ≡ true
kind_of_form form p h = h.0
