-- A rule leads the tidy trees of a sound template to those of the template that it gives.
--
-- The road. `Step V W A` (proofs/Children) is all that an action A keeps on its way from V to W: soundness, root kinds, whether it may be a side, the kind of each tree, and that a tidy tree that
-- fits V becomes a tidy tree that fits W. Steps follow one another (`chained`). Where each child has a step, the whole has one (`children_step`); so `all`, `at` and `everywhere` are one lemma
-- about what becomes of children (`children_after`), and the last an induction over levels. A function's step stands on the laws of field functions; the rest is cases on what fits.
use Rattle.std.proofs.Common.{◌≡◌, ℕ, zero, suc, List, [], ◌∷◌, Bool, true, false, Option, Some, None, IsTrue, refl, sym, ap, ap₂, subst, ◌∙◌}
use Rattle.std.proofs.lemmas.Option.{same_Some}
use Rattle.std.specs.Prelude.{◌||◌, option_map, option_and_then, is_some, unwrap_or, if◌then◌else◌}
use Rattle.std.specs.Option.{option_or}
use Rattle.std.specs.List.{list_any}
use Rattle.mig_model.specs.declared.form.Form.{Form}
use Rattle.mig_model.specs.declared.rest.Rest.{Rest}
use Rattle.mig_model.specs.Family.{nests, any_inside, is_wrong_leaf}
use Rattle.mig_model.specs.Names.{same_name, under}
use Rattle.mig_model.specs.Plain as plain
use Rattle.mig_model.specs.Plain.{Plain, entries, on_entries}
use Rattle.mig_model.specs.Kinds.{kind_of}
use Rattle.mig_model.specs.Template.{Template, leaf, any, list, point, rec, sum, Fields, field_list, Choice, no_choice, choice, Cases, no_case, case, cases_of, case_list}
use Rattle.mig_model.specs.TemplateKept.{TemplateKept, FieldsKept, ChoiceKept, RecordKept}
use Rattle.mig_model.specs.Inhabits.{Entries, Fits}
use Rattle.mig_model.specs.Record.{RecordParts, IsRecord, choice_of, cases_in, record_of}
use Rattle.mig_template.proofs.Views.{record_kept}
use Rattle.mig_laws.specs.Sides.{SumsApart}
use Rattle.mig_laws.proofs.Parts.{Whatever, whatever_down, near}
use Rattle.mig_laws.proofs.Inhabitants.{fits_where}
use Rattle.mig_laws.proofs.Reading.{fields_of_list}
use Rattle.mig_field.specs.FieldFn.{FieldFn, FieldOp, add, add_case}
use Rattle.mig_field.specs.NewRecord.{new_record}
use Rattle.mig_field.specs.Act as function
use Rattle.mig_field_laws.specs.Laws.{FunctionKept, NamesAscend, UnknownsFormed, Anything}
use Rattle.mig_field_laws.proofs.Forms.{formed}
use Rattle.mig_field_laws.proofs.KeptRecords.{kept_record}
use Rattle.mig_field_laws.proofs.Laws.{types_stay_at, form_stays}
use Rattle.mig_action.proofs.Values.{mapped}
use Rattle.mig_rule.specs.Rule as rule
use Rattle.mig_rule.specs.Rule.{Rule}
use Rattle.mig_rule.specs.Children.{Child, children, map_children, at_children}
use Rattle.mig_rule.specs.Target.{Retyping, Outcome, stays, becomes, unfit, if_it_fits, it_must_fit, changed, changed_or, is_unfit, is_changed, by_children, all_children, then_itself, everywhere_within, is_name, place_or, places_within, parts_of, new_template, target}
use Rattle.mig_rule.specs.Act.{Action, where_it_fits, act_within, act_at_places, by_function, act}
use Rattle.mig_rule_laws.specs.Premises.{AllAscend, IsTidy, IsSound, OpSound, RuleSound}
use Rattle.mig_rule_laws.proofs.Ascending.{all_ascend}
use Rattle.mig_rule_laws.proofs.RightRecords.{right_record}
use Rattle.mig_rule_laws.proofs.Children.{ChildrenHave, children_have, children_fail, children_all, children_same, Step, idle, children_step}

-- ---- the parts of a record
cases_back : (cs : Cases) → cases_of (case_list cs) ≡ cs
cases_back no_case = refl
cases_back (case l fs cs) = ap₂ (λ gs ds. case l gs ds) (fields_of_list fs) (cases_back cs)

choice_back : (c : Choice) → choice_of (cases_in c) ≡ c
choice_back no_choice = refl
choice_back (choice tag cs kept) = ap (λ ds. choice tag ds kept) (cases_back cs)

abbrev pub parts : Fields → Choice → Rest → RecordParts
parts fs c r = record { fields = field_list fs; choice = cases_in c; rest = r }

pub parts_back : (fs : Fields) (c : Choice) (r : Rest) → record_of (parts fs c r) ≡ rec fs c r
parts_back fs c r = ap₂ (λ gs d. rec gs d r) (fields_of_list fs) (choice_back c)

parts_kept : (fs : Fields) (c : Choice) (r : Rest) → TemplateKept (rec fs c r) → RecordKept (parts fs c r)
parts_kept fs c r k = (k.0, (subst FieldsKept (sym (fields_of_list fs)) k.1.0, subst ChoiceKept (sym (choice_back c)) k.1.1))

brings_kept : (form : Form) (op : FieldOp) → OpSound form op → FunctionKept op
brings_kept form (add x c) o = o.0
brings_kept form (add_case b fs) o = o.0
brings_kept form op o = tt

kind_on_entries : (f : Entries → Entries) (t : Plain) → kind_of (on_entries f t) ≡ kind_of t
kind_on_entries f (plain.map ps) = refl
kind_on_entries f t = refl

module _ (form : Form) (P : List ℕ → Plain → Type 0) where
  -- ---- steps that follow one another
  turned : (V X W : Template) (A : Plain → Plain) → X ≡ W → Step form P V X A → Step form P V W A
  turned V X W A e s = subst (λ Y. Step form P V Y A) e s

  chained : (V X W : Template) (A B : Plain → Plain) → Step form P V X A → Step form P X W B → Step form P V W (λ t. B (A t))
  chained V X W A B s z = record {
    sound = λ k. z.sound (s.sound k);
    alike = λ k. z.alike k ∙ s.alike k;
    side = λ e. z.side (s.side e);
    kind = λ t. z.kind (A t) ∙ s.kind t;
    leads = λ k t b x. let made = s.leads k t b x in z.leads (s.sound k) (A t) made.0 made.1;
  }

  -- ---- functions
  names_ascend : (fs : Fields) (c : Choice) (r : Rest) (t : Plain) → Fits form P (rec fs c r) t → AllAscend t → NamesAscend t
  names_ascend fs c r (plain.map ps) x a = a.0
  names_ascend fs c r t x a = absurd x

  unknowns_formed : (fs : Fields) (c : Choice) (r : Rest) (p : RecordParts) (t : Plain) → Fits form P (rec fs c r) t → IsTidy form t → UnknownsFormed form p t
  unknowns_formed fs c r p (plain.map ps) x b = λ n u k e. formed form ps b.formed n u e
  unknowns_formed fs c r p t x b = absurd x

  function_leads : (f : FieldFn) → OpSound form f.op → (fs : Fields) (c : Choice) (r : Rest) (q : RecordParts) → new_record f (parts fs c r) ≡ Some q
      → IsSound form (rec fs c r) → IsSound form (record_of q) → (t : Plain) → IsTidy form t → Fits form P (rec fs c r) t
      → IsTidy form (on_entries (function.act f (parts fs c r)) t) × Fits form P (record_of q) (on_entries (function.act f (parts fs c r)) t)
  function_leads f o fs c r q e s k t b x =
      let V : Template = rec fs c r in
      let p : RecordParts = parts fs c r in
      let names = names_ascend fs c r t x b.ascend in
      let here = subst (λ W. Fits form P W t) (sym (parts_back fs c r)) x in
      let loose = fits_where form Whatever whatever_down P Anything (λ n u w v. tt) (record_of p) t (near Whatever whatever_down (record_of p) t tt) here in (
        record { ascend = all_ascend f p t b.ascend; formed = form_stays f p q e s.kept.0 form t loose names b.formed k.right },
        types_stay_at f p q e s.kept.0 form P t here names (unknowns_formed fs c r p t x b),
      )

  function_step : (f : FieldFn) → OpSound form f.op → (V W : Template) → new_template f V ≡ Some W → Step form P V W (by_function f (parts_of V))
  function_step f o (rec fs c r) W e =
      let a = mapped record_of (new_record f (parts fs c r)) W e in
      turned (rec fs c r) (record_of a.0) W (by_function f (parts_of (rec fs c r))) a.2 (record {
        sound = λ s. sound a.0 a.1 s;
        alike = λ k. refl;
        side = λ k. refl;
        kind = kind_on_entries (function.act f (parts fs c r));
        leads = λ s t b x. function_leads f o fs c r a.0 a.1 s (sound a.0 a.1 s) t b x;
      })
    where
      sound : (q : RecordParts) → new_record f (parts fs c r) ≡ Some q → IsSound form (rec fs c r) → IsSound form (record_of q)
      sound q d s =
          let new = right_record form f (parts fs c r) q d s.kept.0 o (subst (λ V. SumsApart form V × (any_inside (is_wrong_leaf form) V ≡ false)) (sym (parts_back fs c r)) (s.apart, s.right)) in
          record { kept = record_kept q (kept_record f (parts fs c r) q d (parts_kept fs c r s.kept) (brings_kept form f.op o)); apart = new.0; right = new.1 }
  function_step f o (leaf j) W e = absurd cc
  function_step f o any W e = absurd cc
  function_step f o (list V) W e = absurd cc
  function_step f o (point n) W e = absurd cc
  function_step f o (sum V X) W e = absurd cc

  -- ---- what becomes of a template
  abbrev StepAfter : Template → Outcome → (Plain → Plain) → Type 0
  StepAfter V stays A = Step form P V V A
  StepAfter V (becomes W) A = Step form P V W A
  StepAfter V unfit A = Unit {0}

  changed_step : (V : Template) (o : Outcome) (W : Template) (A : Plain → Plain) → StepAfter V o A → changed o ≡ Some W → Step form P V W A
  changed_step V stays W A h e = absurd cc
  changed_step V (becomes X) W A h e = turned V X W A (same_Some X W e) h
  changed_step V unfit W A h e = absurd cc

  fit_step : (V : Template) (o : Outcome) (A : Plain → Plain) → is_unfit o ≡ false → StepAfter V o A → Step form P V (changed_or V o) A
  fit_step V stays A e h = h
  fit_step V (becomes W) A e h = h
  fit_step V unfit A e h = absurd cc

  unchanged : (V : Template) (o : Outcome) → is_changed o ≡ false → changed_or V o ≡ V
  unchanged V stays e = refl
  unchanged V (becomes W) e = absurd cc
  unchanged V unfit e = refl

  children_after : (o : Child → Outcome) (a : Child → Plain → Plain) → ((c : Child) → StepAfter c.1 (o c) (a c)) → (V : Template) → StepAfter V (by_children o V) (at_children form a V)
  children_after o a h V = by (list_any (λ c. is_unfit (o c)) (children V)) (list_any (λ c. is_changed (o c)) (children V)) refl refl
    where
      new : Child → Template
      new c = changed_or c.1 (o c)

      whole : list_any (λ c. is_unfit (o c)) (children V) ≡ false → Step form P V (map_children new V) (at_children form a V)
      whole e =
          children_step form P new a V
          (children_have (λ c. is_unfit (o c) ≡ false) (λ c. StepAfter c.1 (o c) (a c)) (λ c. Step form P c.1 (changed_or c.1 (o c)) (a c)) (λ c q s. fit_step c.1 (o c) (a c) q s) V
          (children_fail (λ c. is_unfit (o c)) V e) (children_all (λ c. StepAfter c.1 (o c) (a c)) h V))

      same : list_any (λ c. is_changed (o c)) (children V) ≡ false → map_children new V ≡ V
      same e =
          children_same new V
          (children_have (λ c. is_changed (o c) ≡ false) (λ c. is_changed (o c) ≡ false) (λ c. changed_or c.1 (o c) ≡ c.1) (λ c q s. unchanged c.1 (o c) q) V
          (children_fail (λ c. is_changed (o c)) V e) (children_fail (λ c. is_changed (o c)) V e))

      by : (p q : Bool) → list_any (λ c. is_unfit (o c)) (children V) ≡ p → list_any (λ c. is_changed (o c)) (children V) ≡ q
          → StepAfter V (if p then unfit else (if q then becomes (map_children (λ c. changed_or c.1 (o c)) V) else stays)) (at_children form a V)
      by true q d e = tt
      by false true d e = whole d
      by false false d e = turned V (map_children new V) V (at_children form a V) (same e) (whole d)

  module _ (R : Retyping) (A : Action) (steps : (V W : Template) → R V ≡ Some W → Step form P V W (A V)) where
    fits_after : (V : Template) → StepAfter V (if_it_fits (R V)) (where_it_fits R A V)
    fits_after V = by (R V) refl
      where
        by : (o : Option Template) → R V ≡ o → StepAfter V (if_it_fits o) (λ t. if is_some o then A V t else t)
        by None e = idle form P V
        by (Some W) e = steps V W e

    must_after : (V : Template) → StepAfter V (it_must_fit (R V)) (A V)
    must_after V = by (R V) refl
      where
        by : (o : Option Template) → R V ≡ o → StepAfter V (it_must_fit o) (A V)
        by None e = tt
        by (Some W) e = steps V W e

    pub where_step : (V : Template) → Step form P V (unwrap_or (R V) V) (where_it_fits R A V)
    where_step V = by (R V) refl
      where
        by : (o : Option Template) → R V ≡ o → Step form P V (unwrap_or o V) (λ t. if is_some o then A V t else t)
        by None e = idle form P V
        by (Some W) e = steps V W e

    all_after : (V : Template) → StepAfter V (by_children (λ c. if_it_fits (R c.1)) V) (at_children form (λ c u. where_it_fits R A c.1 u) V)
    all_after V = children_after (λ c. if_it_fits (R c.1)) (λ c u. where_it_fits R A c.1 u) (λ c. fits_after c.1) V

    all_step : (V W : Template) → all_children R V ≡ Some W → Step form P V W (at_children form (λ c u. where_it_fits R A c.1 u) V)
    all_step V W e = changed_step V (by_children (λ c. if_it_fits (R c.1)) V) W _ (all_after V) e

    -- no child has to fit
    never_unfit : (cs : List Child) → list_any (λ c. is_unfit (if_it_fits (R c.1))) cs ≡ false
    never_unfit [] = refl
    never_unfit (c ∷ cs) = by (R c.1) (never_unfit cs)
      where
        by : (o : Option Template) → list_any (λ c. is_unfit (if_it_fits (R c.1))) cs ≡ false → (is_unfit (if_it_fits o) || list_any (λ c. is_unfit (if_it_fits (R c.1))) cs) ≡ false
        by None rest = rest
        by (Some W) rest = rest

    fit_children : (V : Template) → is_unfit (by_children (λ c. if_it_fits (R c.1)) V) ≡ false
    fit_children V = by (list_any (λ c. is_unfit (if_it_fits (R c.1))) (children V)) (list_any (λ c. is_changed (if_it_fits (R c.1))) (children V)) (never_unfit (children V))
      where
        by : (p q : Bool) → p ≡ false → is_unfit (if p then unfit else (if q then becomes (map_children (λ c. changed_or c.1 (if_it_fits (R c.1))) V) else stays)) ≡ false
        by true q e = absurd cc
        by false true e = refl
        by false false e = refl

  places_after : (R : Retyping) (A : Action) → ((V W : Template) → R V ≡ Some W → Step form P V W (A V)) → (x : List ℕ) (k : ℕ) (V : Template)
      → StepAfter V (places_within x R k V) (act_at_places form x A k V)
  places_after R A steps x zero V = idle form P V
  places_after R A steps x (suc k) V =
      children_after (place_or x R (places_within x R k)) (λ c u. if is_name x c.0 then A c.1 u else act_at_places form x A k c.1 u) (λ c. by c (is_name x c.0) (places_after R A steps x k c.1)) V
    where
      by : (c : Child) (q : Bool) → StepAfter c.1 (places_within x R k c.1) (act_at_places form x A k c.1)
          → StepAfter c.1 (if q then it_must_fit (R c.1) else places_within x R k c.1) (λ u. if q then A c.1 u else act_at_places form x A k c.1 u)
      by c true h = must_after R A steps c.1
      by c false h = h

  -- ---- everywhere
  module _ (R : Retyping) (A : Action) (steps : (V W : Template) → R V ≡ Some W → Step form P V W (A V)) where
    either_is : (X W : Template) (o : Option Template) → option_or o (Some X) ≡ Some W → unwrap_or o X ≡ W
    either_is X W None e = same_Some X W e
    either_is X W (Some Y) e = same_Some Y W e

    there_is : (V W : Template) (o : Option Template) → o ≡ Some W → unwrap_or o V ≡ W
    there_is V W None e = absurd cc
    there_is V W (Some X) e = same_Some X W e

    -- the children, and then the template that they give
    itself_step : (V W : Template) (o : Outcome) (C : Plain → Plain) → is_unfit o ≡ false → StepAfter V o C → then_itself R V (changed o) ≡ Some W
        → Step form P V W (λ t. where_it_fits R A (unwrap_or (changed o) V) (C t))
    itself_step V W stays C u h e =
        chained V V W C (where_it_fits R A V) h (turned V (unwrap_or (R V) V) W (where_it_fits R A V) (there_is V W (R V) e) (where_step R A steps V))
    itself_step V W (becomes X) C u h e =
        chained V X W C (where_it_fits R A X) h (turned X (unwrap_or (R X) X) W (where_it_fits R A X) (either_is X W (R X) e) (where_step R A steps X))
    itself_step V W unfit C u h e = absurd cc

    everywhere_step : (k : ℕ) (V W : Template) → everywhere_within R k V ≡ Some W → Step form P V W (act_within form R A k V)
    everywhere_step zero V W e = absurd cc
    everywhere_step (suc k) V W e =
        itself_step V W (by_children (λ c. if_it_fits (everywhere_within R k c.1)) V) (at_children form (λ c u. where_it_fits (everywhere_within R k) (act_within form R A k) c.1 u) V)
        (fit_children (everywhere_within R k) (act_within form R A k) (everywhere_step k) V) (all_after (everywhere_within R k) (act_within form R A k) (everywhere_step k) V) e

  -- ---- rules
  pub rule_step : (r : Rule) → RuleSound form r → (n : List ℕ) (V W : Template) → target r n V ≡ Some W → Step form P V W (act form r n V)
  rule_step rule.nop o n V W e = turned V V W (λ t. t) (same_Some V W e) (idle form P V)
  rule_step (rule.function f) o n V W e = function_step f o V W e
  rule_step (rule.on m r) o n V W e = by (same_name n m) e (rule_step r o n V W)
    where
      by : (q : Bool) → (if q then target r n V else None) ≡ Some W → (target r n V ≡ Some W → Step form P V W (act form r n V)) → Step form P V W (act form r n V)
      by true e h = h e
      by false e h = absurd cc
  rule_step (rule.at x r) o n V W e =
      changed_step V (places_within x (target r n) (nests V) V) W (act_at_places form x (act form r n) (nests V) V) (places_after (target r n) (act form r n) (rule_step r o n) x (nests V) V) e
  rule_step (rule.seq r s) o n V W e = by (target r n V) (rule_step r o.0 n V) (rule_step s o.1 n) e
    where
      by : (p : Option Template) → ((X : Template) → p ≡ Some X → Step form P V X (act form r n V)) → ((X Y : Template) → target s n X ≡ Some Y → Step form P X Y (act form s n X))
          → option_and_then (target s n) p ≡ Some W → Step form P V W (λ t. act form s n (unwrap_or p V) (act form r n V t))
      by None h g e = absurd cc
      by (Some X) h g e = chained V X W (act form r n V) (act form s n X) (h X refl) (g X W e)
  rule_step (rule.or_else r s) o n V W e = by (target r n V) (rule_step r o.0 n V) (rule_step s o.1 n V W) e
    where
      by : (p : Option Template) → ((X : Template) → p ≡ Some X → Step form P V X (act form r n V)) → (target s n V ≡ Some W → Step form P V W (act form s n V))
          → option_or p (target s n V) ≡ Some W → Step form P V W (λ t. if is_some p then act form r n V t else act form s n V t)
      by None h g e = g e
      by (Some X) h g e = turned V X W (act form r n V) (same_Some X W e) (h X refl)
  rule_step (rule.all r) o n V W e = all_step (target r n) (act form r n) (rule_step r o n) V W e
  rule_step (rule.everywhere r) o n V W e = everywhere_step (target r n) (act form r n) (rule_step r o n) (nests V) V W e

-- types stay, whatever is asked at points
pub rule_types_stay_at : (form : Form) (P : List ℕ → Plain → Type 0) (r : Rule) → RuleSound form r → (n : List ℕ) (V W : Template) → target r n V ≡ Some W → IsSound form V
    → (t : Plain) → IsTidy form t → Fits form P V t → Fits form P W (act form r n V t)
rule_types_stay_at form P r o n V W e s t b x = ((rule_step form P r o n V W e).leads s t b x).1
