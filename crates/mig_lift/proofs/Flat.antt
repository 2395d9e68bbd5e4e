-- Flat records: nothing inside is treated, and their values have no nodes.
use Rattle.std.proofs.Common.{◌≡◌, ℕ, zero, suc, List, [], ◌∷◌, Bool, true, false, cond, refl, ap, ◌∙◌}
use Rattle.std.specs.Prelude.{◌&&◌, MatchBool, IsTrue, Option, Some, None, is_some, not}
use Rattle.std.specs.List.{list_all}
use Rattle.std.specs.Map.{values_of}
use Rattle.mig_model.specs.declared.form.Form.{Form}
use Rattle.mig_model.specs.declared.presence.Presence.{Presence}
use Rattle.mig_model.specs.declared.presence.Presence.TheVariants.{Must, May}
use Rattle.mig_model.specs.declared.rest.Rest.{Rest}
use Rattle.mig_model.specs.declared.rest.Rest.TheVariants.{Open, Closed}
use Rattle.mig_model.specs.Family.{Family, body}
use Rattle.mig_model.specs.Inhabits.{Entries, is_in_form}
use Rattle.mig_model.specs.Kinds.{IsMap, kind_of}
use Rattle.mig_model.specs.Names.{same_name}
use Rattle.mig_model.specs.Plain as plain
use Rattle.mig_model.specs.Plain.{Plain, pairs_of, entries, each_entry}
use Rattle.mig_model.specs.Record.{RecordParts, Cases, choice_of, record_of}
use Rattle.mig_model.specs.Template as template
use Rattle.mig_model.specs.Template.{Template, leaf, Fields, no_field, field, fields_of, field_list, no_choice, is_open}
use Rattle.mig_model.proofs.Bools.{split_and}
use Rattle.mig_tree.proofs.Places.{pairs_back}
use Rattle.mig_template.proofs.Views.{field_list_of}
use Rattle.mig_fold.specs.Fold.{treat, treat_fields}
use Rattle.mig_value.specs.Typed.{Typed, atom, rec, Slots, no_slot, slot, typed_size}
use Rattle.mig_value.specs.Fit.{ValueFits, FieldsFit, ChoiceFits, IsUnknown, IsAtom, IsAtomOf, EachSlot, FitWithin, FitAsRead}
use Rattle.mig_value.specs.Nodes.{every, nodes, nodes_in_slots}
use Rattle.mig_lift.specs.Small.{is_must_leaf, is_flat_record}

abbrev AreLeaves : Fields → Type 0
AreLeaves fs = list_all is_must_leaf (values_of (field_list fs)) ≡ true

-- the record of parts
pub flat_is : (p : RecordParts) → is_flat_record (record_of p) ≡ ((is_open p.rest && not (is_some p.choice)) && list_all is_must_leaf (values_of p.fields))
flat_is p = by p.choice p.rest
  where
    by : (c : Option Cases) (r : Rest) → is_flat_record (template.rec (fields_of p.fields) (choice_of c) r) ≡ ((is_open r && not (is_some c)) && list_all is_must_leaf (values_of p.fields))
    by None Open = ap (λ fs. list_all is_must_leaf (values_of fs)) (field_list_of p.fields)
    by (Some c) Open = refl
    by None Closed = refl
    by (Some c) Closed = refl

-- ---- a record of leaves has no points
leaf_stays : (form : Form) (h : List ℕ → Plain → Plain) (p : Presence) (V : Template) → is_must_leaf (p, V) ≡ true → (t : Plain) → treat form h V t ≡ t
leaf_stays form h Must (leaf k) e t = refl
leaf_stays form h Must V e t = absurd (let x : false ≡ true = e in cc)
leaf_stays form h May V e t = absurd (let x : false ≡ true = e in cc)

choose : {A : Type 0} (b : Bool) (x y z : A) → x ≡ z → y ≡ z → cond b x y ≡ z
choose true x y z p q = p
choose false x y z p q = q

fields_stay : (form : Form) (h : List ℕ → Plain → Plain) (fs : Fields) → AreLeaves fs → (n : List ℕ) (t : Plain) → treat_fields form h fs (λ m u. u) n t ≡ t
fields_stay form h no_field e n t = refl
fields_stay form h (field x p V fs) e n t =
    let both = split_and (is_must_leaf (p, V)) (list_all is_must_leaf (values_of (field_list fs))) e in
    choose (same_name n x) (treat form h V t) (treat_fields form h fs (λ m u. u) n t) t (leaf_stays form h p V both.0 t) (fields_stay form h fs both.1 n t)

entries_stay : (f : List ℕ → Plain → Plain) → ((n : List ℕ) (t : Plain) → f n t ≡ t) → (es : Entries) → each_entry f es ≡ es
entries_stay f h [] = refl
entries_stay f h (e ∷ es) = λ i. (e.0, h e.0 e.1 i) ∷ entries_stay f h es i

pub nothing_treated : (form : Form) (h : List ℕ → Plain → Plain) (V : Template) → is_flat_record V ≡ true → (t : Plain) → IsMap t → treat form h V t ≡ t
nothing_treated form h (template.rec fs no_choice Open) e t m = by t m
  where
    by : (t : Plain) → IsMap t → treat form h (template.rec fs no_choice Open) t ≡ t
    by (plain.map ps) m = ap (λ es. plain.map (pairs_of es)) (entries_stay (treat_fields form h fs (λ m u. u)) (fields_stay form h fs e) (entries ps)) ∙ ap plain.map (pairs_back ps)
    by _ m = absurd m
nothing_treated form h V e t m = absurd (let x : false ≡ true = e in cc)

-- ---- a value of one has no nodes
atom_nodes : (Q : Plain → Type 0) (v : Typed) → IsAtom Q v → nodes every v ≡ 0
atom_nodes Q (atom t) a = refl
atom_nodes Q v a = absurd a

slots_nodes : (Q : List ℕ → Typed → Type 0) → ((n : List ℕ) (v : Typed) → Q n v → nodes every v ≡ 0) → (ss : Slots) → EachSlot Q ss → nodes_in_slots every ss ≡ 0
slots_nodes Q h no_slot e = refl
slots_nodes Q h (slot n v ss) e = rw (h n v e.0, slots_nodes Q h ss e.1) refl

module _ (form : Form) (P : List ℕ → Typed → Type 0) where
  leaf_nodes : (p : Presence) (V : Template) → is_must_leaf (p, V) ≡ true → (v : Typed) → ValueFits (IsAtomOf form) P V v → nodes every v ≡ 0
  leaf_nodes Must (leaf k) e v a = atom_nodes (λ t. kind_of t ≡ k) v a
  leaf_nodes Must V e v a = absurd (let x : false ≡ true = e in cc)
  leaf_nodes May V e v a = absurd (let x : false ≡ true = e in cc)

  field_nodes : (fs : Fields) → AreLeaves fs → (n : List ℕ) (v : Typed) → FieldsFit (IsAtomOf form) P fs n v → nodes every v ≡ 0
  field_nodes no_field e n v a = absurd a
  field_nodes (field x p V fs) e n v a =
      let both = split_and (is_must_leaf (p, V)) (list_all is_must_leaf (values_of (field_list fs))) e in
      by (same_name n x) (leaf_nodes p V both.0 v) (field_nodes fs both.1 n v) a
    where
      by : (b : Bool) → (ValueFits (IsAtomOf form) P V v → nodes every v ≡ 0) → (FieldsFit (IsAtomOf form) P fs n v → nodes every v ≡ 0)
          → MatchBool b (ValueFits (IsAtomOf form) P V v) (FieldsFit (IsAtomOf form) P fs n v) → nodes every v ≡ 0
      by true here later a = here a
      by false here later a = later a

  record_nodes : (fs : Fields) → AreLeaves fs → (v : Typed) → ValueFits (IsAtomOf form) P (template.rec fs no_choice Open) v → nodes every v ≡ 0
  record_nodes fs e (rec ss tag cs rs) a =
      rw (
        slots_nodes (FieldsFit (IsAtomOf form) P fs) (field_nodes fs e) ss a.2,
        slots_nodes (ChoiceFits (IsAtomOf form) P no_choice tag) (λ n v h. absurd h) cs a.3,
        slots_nodes (IsUnknown (IsAtomOf form) fs no_choice tag Open) (λ n v h. atom_nodes (λ t. IsTrue (is_in_form form t)) v h.2) rs a.4,
      ) refl
  record_nodes fs e v a = absurd a

  flat_nodes : (V : Template) → is_flat_record V ≡ true → (v : Typed) → ValueFits (IsAtomOf form) P V v → nodes every v ≡ 0
  flat_nodes (template.rec fs no_choice Open) e v a = record_nodes fs e v a
  flat_nodes V e v a = absurd (let x : false ≡ true = e in cc)

pub no_nodes : (f : Family) → is_flat_record (body f f.root) ≡ true → (v : Typed) → FitAsRead f.form (body f) f.root v → nodes every v ≡ 0
no_nodes f flat v a = by (typed_size v) a
  where
    by : (k : ℕ) → FitWithin (IsAtomOf f.form) (body f) k f.root v → nodes every v ≡ 0
    by zero a = absurd a
    by (suc k) a = flat_nodes f.form (FitWithin (IsAtomOf f.form) (body f) k) (body f f.root) flat v a
