-- A property of all nodes that stand at points of a template, as what is asked of their bodies.
use Rattle.std.proofs.Common.{ℕ, List, [], ◌∷◌, ◌++◌, Bool, true, false, Option, Some, sym, subst, MatchBool}
use Rattle.std.specs.Prelude.{if◌then◌else◌}
use Rattle.std.specs.List.{AllByRecursion}
use Rattle.mig_model.specs.Template as template
use Rattle.mig_model.specs.Template.{Template, Fields, no_field, field, Choice, no_choice, choice, Cases, no_case, case}
use Rattle.mig_model.specs.Names.{same_name}
use Rattle.mig_value.specs.Typed.{Typed, list, left, right, rec, point, Items, no_item, item, Slots, no_slot, slot, Tag}
use Rattle.mig_value.specs.Parts.{NodeParts}
use Rattle.mig_value.specs.Fit.{ValueFits, FieldsFit, ChoiceFits, CasesFit, IsListOf, EachItem, IsSideOf, IsNodeOf, EachSlot}
use Rattle.mig_action.specs.Nodes.{of_items, of_list, of_side, of_slots, of_node, nodes_at, nodes_in_fields, nodes_in_choice, nodes_in_cases}

module _ (U : Typed → Type 0) (Q : NodeParts → Type 0) where
  abbrev pub All : List NodeParts → Type 0
  All xs = AllByRecursion Q xs

  -- what a node's body has to be
  abbrev pub Has : List ℕ → Typed → Type 0
  Has n w = Q (n, w)

  abbrev Anything : List ℕ → Typed → Type 0
  Anything n w = Unit {0}

  all_left : (xs ys : List NodeParts) → All (xs ++ ys) → All xs
  all_left [] ys h = tt
  all_left (x ∷ xs) ys h = (h.0, all_left xs ys h.1)

  all_right : (xs ys : List NodeParts) → All (xs ++ ys) → All ys
  all_right [] ys h = h
  all_right (x ∷ xs) ys h = all_right xs ys h.1

  all_both : (xs ys : List NodeParts) → All xs → All ys → All (xs ++ ys)
  all_both [] ys h k = k
  all_both (x ∷ xs) ys h k = (h.0, all_both xs ys h.1 k)

  -- nodes of which all have what is asked make of A what B is, and B's nodes have it
  record Told (A : Type 0) (xs : List NodeParts) (B : Type 0) : Type 0 where
    have : A → All xs → B
    give : B → All xs

  told_both : {A B C D : Type 0} (xs ys : List NodeParts) → Told A xs B → Told C ys D → Told (A × C) (xs ++ ys) (B × D)
  told_both xs ys r s = record { have = λ h k. (r.have h.0 (all_left xs ys k), s.have h.1 (all_right xs ys k)); give = λ h. all_both xs ys (r.give h.0) (s.give h.1) }

  -- what has no nodes
  none_there : (A : Type 0) → Told A [] A
  none_there A = record { have = λ h k. h; give = λ h. tt }

  items_told : (f : Typed → List NodeParts) (A B : Typed → Type 0) → ((v : Typed) → Told (A v) (f v) (B v)) → (vs : Items) → Told (EachItem A vs) (of_items f vs) (EachItem B vs)
  items_told f A B g no_item = none_there (Unit {0})
  items_told f A B g (item v vs) = told_both (f v) (of_items f vs) (g v) (items_told f A B g vs)

  slots_told : (f : List ℕ → Typed → List NodeParts) (A B : List ℕ → Typed → Type 0) → ((n : List ℕ) (v : Typed) → Told (A n v) (f n v) (B n v)) → (ss : Slots) → Told (EachSlot A ss) (of_slots f ss) (EachSlot B ss)
  slots_told f A B g no_slot = none_there (Unit {0})
  slots_told f A B g (slot n v ss) = told_both (f n v) (of_slots f ss) (g n v) (slots_told f A B g ss)

  node_told : (n : List ℕ) (v : Typed) → Told (IsNodeOf n (Anything n) v) (of_node v) (IsNodeOf n (Has n) v)
  node_told n (point m w) = record { have = λ h k. (h.0, subst (λ x. Q (x, w)) h.0 k.0); give = λ h. (subst (λ x. Q (x, w)) (sym h.0) h.1, tt) }
  node_told n v = none_there ⊥

  list_told : (f : Typed → List NodeParts) (A B : Typed → Type 0) → ((v : Typed) → Told (A v) (f v) (B v)) → (v : Typed) → Told (IsListOf A v) (of_list f v) (IsListOf B v)
  list_told f A B g (list vs) = items_told f A B g vs
  list_told f A B g v = none_there ⊥

  side_told : (f g : Typed → List NodeParts) (A B C D : Typed → Type 0) → ((v : Typed) → Told (A v) (f v) (C v)) → ((v : Typed) → Told (B v) (g v) (D v)) → (v : Typed) → Told (IsSideOf A B v) (of_side f g v) (IsSideOf C D v)
  side_told f g A B C D a b (left v) = a v
  side_told f g A B C D a b (right v) = b v
  side_told f g A B C D a b v = none_there ⊥

  either_told : {A B C D : Type 0} (b : Bool) (xs ys : List NodeParts) → Told A xs C → Told B ys D → Told (MatchBool b A B) (if b then xs else ys) (MatchBool b C D)
  either_told true xs ys r s = r
  either_told false xs ys r s = s

  mutual
    told : (V : Template) (v : Typed) → Told (ValueFits U Anything V v) (nodes_at V v) (ValueFits U Has V v)
    told (template.leaf k) v = none_there (ValueFits U Has (template.leaf k) v)
    told template.any v = none_there (U v)
    told (template.list V) v = list_told (nodes_at V) (ValueFits U Anything V) (ValueFits U Has V) (told V) v
    told (template.point n) v = node_told n v
    told (template.rec fs c r) (rec ss tag cs rs) =
        let a = slots_told (nodes_in_fields fs) (FieldsFit U Anything fs) (FieldsFit U Has fs) (fields_told fs) ss in
        let b = slots_told (nodes_in_choice c tag) (ChoiceFits U Anything c tag) (ChoiceFits U Has c tag) (choice_told c tag) cs in
        let both = told_both (of_slots (nodes_in_fields fs) ss) (of_slots (nodes_in_choice c tag) cs) a b in
        record { have = λ h q. let w = both.have (h.2, h.3) q in (h.0, h.1, w.0, w.1, h.4); give = λ h. both.give (h.2, h.3) }
    told (template.rec fs c r) v = none_there ⊥
    told (template.sum V W) v = side_told (nodes_at V) (nodes_at W) (ValueFits U Anything V) (ValueFits U Anything W) (ValueFits U Has V) (ValueFits U Has W) (told V) (told W) v

    fields_told : (fs : Fields) (n : List ℕ) (v : Typed) → Told (FieldsFit U Anything fs n v) (nodes_in_fields fs n v) (FieldsFit U Has fs n v)
    fields_told no_field n v = none_there ⊥
    fields_told (field x p V fs) n v = either_told (same_name n x) (nodes_at V v) (nodes_in_fields fs n v) (told V v) (fields_told fs n v)

    choice_told : (c : Choice) (tag : Option Tag) (n : List ℕ) (v : Typed) → Told (ChoiceFits U Anything c tag n v) (nodes_in_choice c tag n v) (ChoiceFits U Has c tag n v)
    choice_told (choice m cs kept) (Some t) n v = cases_told t.1 cs n v
    choice_told c tag n v = none_there ⊥

    cases_told : (l : List ℕ) (cs : Cases) (n : List ℕ) (v : Typed) → Told (CasesFit U Anything l cs n v) (nodes_in_cases l cs n v) (CasesFit U Has l cs n v)
    cases_told l no_case n v = none_there ⊥
    cases_told l (case m fs cs) n v = either_told (same_name l m) (nodes_in_fields fs n v) (nodes_in_cases l cs n v) (fields_told fs n v) (cases_told l cs n v)

  -- from the nodes to the value, and from the value to its nodes
  pub listed : (V : Template) (v : Typed) → ValueFits U Anything V v → All (nodes_at V v) → ValueFits U Has V v
  listed V v = (told V v).have

  pub given : (V : Template) (v : Typed) → ValueFits U Has V v → All (nodes_at V v)
  given V v = (told V v).give
