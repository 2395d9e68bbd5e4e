-- A rule keeps the root kinds of a template that it fits.
use Rattle.std.proofs.Common.{◌≡◌, ◌∙◌, ℕ, zero, suc, List, Bool, true, false, ◌||◌, Option, Some, None, refl, sym, ap, subst}
use Rattle.std.proofs.lemmas.Option.{same_Some}
use Rattle.std.specs.Prelude.{option_map, option_and_then, if◌then◌else◌}
use Rattle.std.specs.Option.{option_or}
use Rattle.std.specs.List.{list_any}
use Rattle.mig_model.specs.declared.form.Form.{Form}
use Rattle.mig_model.specs.declared.kind.Kind.{Kind}
use Rattle.mig_model.specs.declared.kind.Kind.TheVariants as K
use Rattle.mig_model.specs.Family.{nests}
use Rattle.mig_model.specs.Names.{same_name}
use Rattle.mig_model.specs.Template.{Template, leaf, any, list, point, rec, sum, has_kind, same_kind}
use Rattle.mig_model.specs.Record.{RecordParts, record_of}
use Rattle.mig_field.specs.FieldFn.{FieldFn}
use Rattle.mig_field.specs.NewRecord.{new_record}
use Rattle.mig_rule.specs.Rule as rule
use Rattle.mig_rule.specs.Rule.{Rule}
use Rattle.mig_rule.specs.Children.{Child, children, map_children}
use Rattle.mig_rule.specs.Laws.{RootKindsStay}
use Rattle.mig_rule.specs.Target.{Retyping, Outcome, stays, becomes, unfit, if_it_fits, it_must_fit, changed, changed_or, is_unfit, is_changed, by_children, all_children, then_itself, everywhere_within, is_name, place_or, places_within, parts_of, new_template, target}

module _ (form : Form) where
  -- the second has the root kinds of the first
  abbrev Alike : Template → Template → Type 0
  Alike V W = (k : Kind) → has_kind form W k ≡ has_kind form V k

  abbrev Keeps : Retyping → Type 0
  Keeps R = (V W : Template) → R V ≡ Some W → Alike V W

  abbrev AlikeAfter : Template → Outcome → Type 0
  AlikeAfter V stays = Unit {0}
  AlikeAfter V (becomes W) = Alike V W
  AlikeAfter V unfit = Unit {0}

  turned : (V X W : Template) → Some X ≡ Some W → Alike V X → Alike V W
  turned V X W e h = subst (Alike V) (same_Some X W e) h

  changed_alike : (V : Template) (o : Outcome) → AlikeAfter V o → Alike V (changed_or V o)
  changed_alike V stays h k = refl
  changed_alike V (becomes W) h k = h k
  changed_alike V unfit h k = refl

  changed_kept : (V : Template) (o : Outcome) (W : Template) → AlikeAfter V o → changed o ≡ Some W → Alike V W
  changed_kept V stays W h e = absurd cc
  changed_kept V (becomes X) W h e = turned V X W e h
  changed_kept V unfit W h e = absurd cc

  fits_alike : (V : Template) (o : Option Template) → ((W : Template) → o ≡ Some W → Alike V W) → AlikeAfter V (if_it_fits o)
  fits_alike V None h = tt
  fits_alike V (Some W) h = h W refl

  must_alike : (V : Template) (o : Option Template) → ((W : Template) → o ≡ Some W → Alike V W) → AlikeAfter V (it_must_fit o)
  must_alike V None h = tt
  must_alike V (Some W) h = h W refl

  rebuilt_alike : (o : Child → Outcome) → ((c : Child) → AlikeAfter c.1 (o c)) → (V : Template) → Alike V (map_children (λ c. changed_or c.1 (o c)) V)
  rebuilt_alike o h (leaf j) k = refl
  rebuilt_alike o h any k = refl
  rebuilt_alike o h (list V) k = refl
  rebuilt_alike o h (point n) k = refl
  rebuilt_alike o h (rec fs c r) k = refl
  rebuilt_alike o h (sum V W) k = λ i. changed_alike V (o (None, V)) (h (None, V)) k i || changed_alike W (o (None, W)) (h (None, W)) k i

  decided_alike : (V W : Template) (b c : Bool) → Alike V W → AlikeAfter V (if b then unfit else (if c then becomes W else stays))
  decided_alike V W true c h = tt
  decided_alike V W false true h = h
  decided_alike V W false false h = tt

  children_alike : (o : Child → Outcome) → ((c : Child) → AlikeAfter c.1 (o c)) → (V : Template) → AlikeAfter V (by_children o V)
  children_alike o h V = decided_alike V (map_children (λ c. changed_or c.1 (o c)) V) (list_any (λ c. is_unfit (o c)) (children V)) (list_any (λ c. is_changed (o c)) (children V)) (rebuilt_alike o h V)

  module _ (R : Retyping) (keeps : Keeps R) where
    all_keeps : Keeps (all_children R)
    all_keeps V W e = changed_kept V (by_children (λ c. if_it_fits (R c.1)) V) W (children_alike (λ c. if_it_fits (R c.1)) (λ c. fits_alike c.1 (R c.1) (keeps c.1)) V) e

    or_alike : (X W : Template) (p : Option Template) → ((Y : Template) → p ≡ Some Y → Alike X Y) → option_or p (Some X) ≡ Some W → Alike X W
    or_alike X W None h e = turned X X W e (λ k. refl)
    or_alike X W (Some Y) h e = turned X Y W e (h Y refl)

    itself_alike : (V W : Template) (o : Option Template) → ((X : Template) → o ≡ Some X → Alike V X) → then_itself R V o ≡ Some W → Alike V W
    itself_alike V W None h e = keeps V W e
    itself_alike V W (Some X) h e = λ k. or_alike X W (R X) (keeps X) e k ∙ h X refl k

  module _ (R : Retyping) (keeps : Keeps R) where
    everywhere_keeps : (k : ℕ) → Keeps (everywhere_within R k)
    everywhere_keeps zero V W e = absurd cc
    everywhere_keeps (suc k) V W e = itself_alike R keeps V W (all_children (everywhere_within R k) V) (all_keeps (everywhere_within R k) (everywhere_keeps k) V) e

    place_alike : (x : List ℕ) (inside : Template → Outcome) → ((V : Template) → AlikeAfter V (inside V)) → (c : Child) → AlikeAfter c.1 (place_or x R inside c)
    place_alike x inside h c = by (is_name x c.0)
      where
        by : (b : Bool) → AlikeAfter c.1 (if b then it_must_fit (R c.1) else inside c.1)
        by true = must_alike c.1 (R c.1) (keeps c.1)
        by false = h c.1

    places_alike : (x : List ℕ) (k : ℕ) (V : Template) → AlikeAfter V (places_within x R k V)
    places_alike x zero V = tt
    places_alike x (suc k) V = children_alike (place_or x R (places_within x R k)) (place_alike x (places_within x R k) (places_alike x k)) V

  of_record : (W : Template) (o : Option RecordParts) → option_map record_of o ≡ Some W → (k : Kind) → has_kind form W k ≡ same_kind K.Map k
  of_record W None e = absurd cc
  of_record W (Some p) e = λ k. ap (λ X. has_kind form X k) (sym (same_Some (record_of p) W e))

  function_keeps : (f : FieldFn) → Keeps (new_template f)
  function_keeps f (rec fs c r) W e = of_record W (option_and_then (new_record f) (parts_of (rec fs c r))) e
  function_keeps f (leaf j) W e = absurd cc
  function_keeps f any W e = absurd cc
  function_keeps f (list V) W e = absurd cc
  function_keeps f (point n) W e = absurd cc
  function_keeps f (sum V X) W e = absurd cc

  rule_keeps : (r : Rule) (n : List ℕ) → Keeps (target r n)
  rule_keeps rule.nop n V W e = turned V V W e (λ k. refl)
  rule_keeps (rule.function f) n V W e = function_keeps f V W e
  rule_keeps (rule.on m r) n V W e = by (same_name n m) e (rule_keeps r n V W)
    where
      by : (b : Bool) → (if b then target r n V else None) ≡ Some W → (target r n V ≡ Some W → Alike V W) → Alike V W
      by true e h = h e
      by false e h = absurd cc
  rule_keeps (rule.at x r) n V W e = changed_kept V (places_within x (target r n) (nests V) V) W (places_alike (target r n) (rule_keeps r n) x (nests V) V) e
  rule_keeps (rule.seq r s) n V W e = by (target r n V) (rule_keeps r n V) (rule_keeps s n) e
    where
      by : (o : Option Template) → ((X : Template) → o ≡ Some X → Alike V X) → Keeps (target s n) → option_and_then (target s n) o ≡ Some W → Alike V W
      by None h g e = absurd cc
      by (Some X) h g e = λ k. g X W e k ∙ h X refl k
  rule_keeps (rule.or_else r s) n V W e = by (target r n V) (rule_keeps r n V) (rule_keeps s n) e
    where
      by : (o : Option Template) → ((X : Template) → o ≡ Some X → Alike V X) → Keeps (target s n) → option_or o (target s n V) ≡ Some W → Alike V W
      by None h g e = g V W e
      by (Some X) h g e = turned V X W e (h X refl)
  rule_keeps (rule.all r) n V W e = all_keeps (target r n) (rule_keeps r n) V W e
  rule_keeps (rule.everywhere r) n V W e = everywhere_keeps (target r n) (rule_keeps r n) (nests V) V W e

pub root_kinds_stay : RootKindsStay
root_kinds_stay form r n V W e = rule_keeps form r n V W e
