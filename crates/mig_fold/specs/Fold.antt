-- What is done to the trees at points, one level at a time, and the traversal that does it bottom up.
use Rattle.std.specs.Prelude.{ℕ, zero, suc, List, Bool, false, if◌then◌else◌}
use Rattle.mig_model.specs.declared.form.Form.{Form}
use Rattle.mig_model.specs.Plain.{Plain, on_items, on_entries, each_entry}
use Rattle.mig_model.specs.Kinds.{kind_of}
use Rattle.mig_model.specs.Template.{Template, leaf, any, list, point, rec, sum, Fields, no_field, field, Choice, no_choice, choice, Cases, no_case, case, has_kind}
use Rattle.mig_model.specs.Names.{same_name}
use Rattle.mig_model.specs.Inhabits.{Entries, has_tag, depth}

-- h is done to each tree that stands at a point of the template, and all else stays
abbrev mutual
  pub treat : Form → (List ℕ → Plain → Plain) → Template → Plain → Plain
  treat form h (leaf k) t = t
  treat form h any t = t
  treat form h (list V) t = on_items (treat form h V) t
  treat form h (point n) t = h n t
  treat form h (rec fs c r) t = on_entries (λ es. each_entry (treat_choice form h c (treat_fields form h fs) es) es) t
  treat form h (sum V W) t = if has_kind form V (kind_of t) then treat form h V t else (if has_kind form W (kind_of t) then treat form h W t else t)

  -- the tree of the name n, which is a common field's or one of the others
  pub treat_fields : Form → (List ℕ → Plain → Plain) → Fields → (List ℕ → Plain → Plain) → List ℕ → Plain → Plain
  treat_fields form h no_field others n t = others n t
  treat_fields form h (field x p V fs) others n t = if same_name n x then treat form h V t else treat_fields form h fs others n t

  -- the tag itself stays
  pub treat_choice : Form → (List ℕ → Plain → Plain) → Choice → ((List ℕ → Plain → Plain) → List ℕ → Plain → Plain) → Entries → List ℕ → Plain → Plain
  treat_choice form h no_choice common es n t = common (λ m u. u) n t
  treat_choice form h (choice tag cs kept) common es n t = if same_name n tag then t else common (treat_cases form h tag cs es) n t

  -- the fields of the case that the map's tag names
  pub treat_cases : Form → (List ℕ → Plain → Plain) → List ℕ → Cases → Entries → List ℕ → Plain → Plain
  treat_cases form h tag no_case es n t = t
  treat_cases form h tag (case l fs cs) es n t = if has_tag tag l es then treat_fields form h fs (λ m u. u) n t else treat_cases form h tag cs es n t

-- a skipped name's tree stays
abbrev pub unless_skipped : (List ℕ → Bool) → (List ℕ → Plain → Plain) → List ℕ → Plain → Plain
unless_skipped skipped h n t = if skipped n then t else h n t

-- first the trees at points, each by the arm of its name, and then the tree itself, with at most k points on each way down
abbrev pub fold_within : Form → (List ℕ → Template) → (List ℕ → Bool) → (List ℕ → Plain → Plain) → ℕ → List ℕ → Plain → Plain
fold_within form bodies skipped arm zero n t = t
fold_within form bodies skipped arm (suc k) n t = arm n (treat form (unless_skipped skipped (fold_within form bodies skipped arm k)) (bodies n) t)

-- the bottom-up traversal of a tree at the named type n. A tree at a skipped name is left unopened
abbrev pub fold : Form → (List ℕ → Template) → (List ℕ → Bool) → (List ℕ → Plain → Plain) → List ℕ → Plain → Plain
fold form bodies skipped arm n t = fold_within form bodies skipped arm (suc (depth t)) n t

abbrev pub none_skipped : List ℕ → Bool
none_skipped n = false
