-- A rule as a fix: the traversal from below leads the inhabitants of a family to those of the next.
--
-- The road. An induction on how many points stand on each way down says three things of the traversal at once: it keeps tidiness, it keeps the kind of the tree, and it makes an inhabitant of the next
-- family. Trees at points are tidy since tidiness passes down (`fits_where`), treating them keeps the shape (`treat_fits`) and tidiness (`treat_good`), and the arm is a step (`where_step`).
use Rattle.std.proofs.Common.{◌≡◌, ℕ, zero, suc, List, false, Option, Some, None, refl, sym, ap, subst, ◌∙◌}
use Rattle.std.specs.Prelude.{map, unwrap_or}
use Rattle.mig_model.specs.declared.form.Form.{Form}
use Rattle.mig_model.specs.Plain.{Plain}
use Rattle.mig_model.specs.Kinds.{kind_of}
use Rattle.mig_model.specs.Template.{Template, any}
use Rattle.mig_model.specs.TemplateKept.{TemplateKept}
use Rattle.mig_model.specs.Family.{Family, find_type, body, any_inside, is_wrong_leaf, wrong_kind, IsFormed}
use Rattle.mig_model.specs.Inhabits.{Fits, InhabitsWithin, Inhabits, depth}
use Rattle.mig_laws.proofs.Formed.{no_flaw, each_body, body_guarded, body_apart}
use Rattle.mig_laws.proofs.Parts.{near}
use Rattle.mig_laws.proofs.Inhabitants.{fits_where, inhabits_unfold}
use Rattle.mig_fold.specs.Fold.{treat, unless_skipped, fold_within, none_skipped}
use Rattle.mig_fold.proofs.Treats.{Treatment, treat_fits}
use Rattle.mig_rule.specs.Rule as rule
use Rattle.mig_rule.specs.Rule.{Rule}
use Rattle.mig_rule.specs.Target.{target}
use Rattle.mig_rule.specs.Act.{where_it_fits, act}
use Rattle.mig_rule.specs.Fix.{family_after, plain}
use Rattle.mig_rule_laws.specs.Premises.{IsTidy, IsSound, RuleSound}
use Rattle.mig_rule_laws.specs.Fixes.{FamilyKept}
use Rattle.mig_rule_laws.proofs.Children.{Step}
use Rattle.mig_rule_laws.proofs.Rules.{rule_step, where_step}
use Rattle.mig_rule_laws.proofs.Treated.{tidy_down, Good, treat_good}
use Rattle.mig_rule_laws.proofs.Families.{found_after}
use Rattle.mig_laws.proofs.Sides.{kind_shown}

-- the bodies of a formed family are sound, where they are in order
pub body_sound : (f : Family) → IsFormed f → FamilyKept f → (n : List ℕ) → IsSound f.form (body f n)
body_sound f e k n = record { kept = k n; apart = body_apart f e n; right = each_body (any_inside (is_wrong_leaf f.form)) f (no_flaw f e wrong_kind) refl n }

-- the arm of the traversal
abbrev pub arm_of : Rule → Family → Treatment
arm_of r f m u = where_it_fits (target r m) (act f.form r m) (body f m) u

-- it leads from the body before to the body after, whatever is asked at points
pub arm_step : (r : Rule) (f : Family) → RuleSound f.form r → (P : List ℕ → Plain → Type 0) (n : List ℕ) → Step f.form P (body f n) (body (family_after (rule.rule r) f) n) (arm_of r f n)
arm_step r f o P n =
    subst (λ V. Step f.form P (body f n) V (arm_of r f n)) (sym (found_after r n f.types)) (where_step f.form P (target r n) (act f.form r n) (rule_step f.form P r o n) (body f n))

module _ (r : Rule) (f : Family) (o : RuleSound f.form r) (e : IsFormed f) (kept : FamilyKept f) (d : IsFormed (family_after (rule.rule r) f)) where
  abbrev after : Family
  after = family_after (rule.rule r) f

  abbrev done : ℕ → Treatment
  done k = fold_within f.form (body f) none_skipped (arm_of r f) k

  abbrev Made : List ℕ → Plain → Plain → Type 0
  Made n t u = Good f.form t u × Inhabits f.form (body after) n u

  made : (k : ℕ) (n : List ℕ) (t : Plain) → IsTidy f.form t → InhabitsWithin f.form (body f) k n t → Made n t (done k n t)
  made zero n t b s = absurd s
  made (suc k) n t b s =
      let h : Treatment = done k in
      let u : Plain = treat f.form h (body f n) t in
      let parts = fits_where f.form (IsTidy f.form) (tidy_down f.form) (InhabitsWithin f.form (body f) k) (λ m v. InhabitsWithin f.form (body f) k m v × IsTidy f.form v) (λ m v c w. (w, c)) (body f n) t
      (near (IsTidy f.form) (tidy_down f.form) (body f n) t b) s in
      let fit = treat_fits f.form (λ m v. InhabitsWithin f.form (body f) k m v × IsTidy f.form v) (Inhabits f.form (body after)) h (λ m v w. (made k m v w.1 w.0).1) (body f n) (body_apart f e n) t parts in
      let good = treat_good f.form (InhabitsWithin f.form (body f) k) h (λ m v c w. (made k m v c w).0) (body f n) (body_apart f e n) t b s in
      let step = arm_step r f o (Inhabits f.form (body after)) n in
      let led = step.leads (body_sound f e kept n) u good.0 fit in
      ((led.0, step.kind u ∙ good.1), (inhabits_unfold f.form (body after) (body_guarded after d) n (arm_of r f n u)).1 led.1)

  pub rule_makes : (n : List ℕ) (t : Plain) → IsTidy f.form t → Inhabits f.form (body f) n t → Made n t (plain (rule.rule r) f n t)
  rule_makes n t b s = made (suc (depth t)) n t b s

  pub rule_keeps : FamilyKept after
  rule_keeps n = ((arm_step r f o (Inhabits f.form (body after)) n).sound (body_sound f e kept n)).kept
