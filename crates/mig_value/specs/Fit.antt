-- When a value is one of a template: one level at a time, with what is asked of a node's body left to a parameter.
use Rattle.std.specs.Prelude.{◌≡◌, ℕ, zero, suc, List, Bool, true, false, not, ◌&&◌, ◌||◌, Option, Some, None, MatchBool, IsTrue, if◌then◌else◌}
use Rattle.mig_model.specs.declared.form.Form.{Form}
use Rattle.mig_model.specs.declared.rest.Rest.{Rest}
use Rattle.mig_model.specs.Plain.{Plain}
use Rattle.mig_model.specs.Kinds.{kind_of}
use Rattle.mig_model.specs.Template as template
use Rattle.mig_model.specs.Template.{Template, Fields, no_field, field, Choice, no_choice, choice, Cases, no_case, case, is_open}
use Rattle.mig_model.specs.Names.{same_name}
use Rattle.mig_model.specs.Fields.{is_field}
use Rattle.mig_model.specs.Inhabits.{Entries, has_musts, is_in_form}
use Rattle.mig_value.specs.Typed.{Typed, atom, list, left, right, rec, point, Items, no_item, item, Slots, no_slot, slot, Tag, out, out_slots, typed_size}

abbrev pub IsAtom : (Plain → Type 0) → Typed → Type 0
IsAtom Q (atom t) = Q t
IsAtom Q v = ⊥

abbrev pub EachItem : (Typed → Type 0) → Items → Type 0
EachItem Q no_item = Unit {0}
EachItem Q (item v vs) = Q v × EachItem Q vs

abbrev pub IsListOf : (Typed → Type 0) → Typed → Type 0
IsListOf Q (list vs) = EachItem Q vs
IsListOf Q v = ⊥

abbrev pub IsSideOf : (Typed → Type 0) → (Typed → Type 0) → Typed → Type 0
IsSideOf Q R (left v) = Q v
IsSideOf Q R (right v) = R v
IsSideOf Q R v = ⊥

abbrev pub IsNodeOf : List ℕ → (Typed → Type 0) → Typed → Type 0
IsNodeOf n Q (point m v) = (m ≡ n) × Q v
IsNodeOf n Q v = ⊥

abbrev pub EachSlot : (List ℕ → Typed → Type 0) → Slots → Type 0
EachSlot Q no_slot = Unit {0}
EachSlot Q (slot n v ss) = Q n v × EachSlot Q ss

abbrev pub IsRecordOf : (Slots → Option Tag → Slots → Slots → Type 0) → Typed → Type 0
IsRecordOf Q (rec fs tag cs rs) = Q fs tag cs rs
IsRecordOf Q v = ⊥

-- the literal is that of a case
abbrev pub has_literal : List ℕ → Cases → Bool
has_literal l no_case = false
has_literal l (case m fs cs) = same_name l m || has_literal l cs

-- the tag stands there as the choice has it: a case's literal, or another text where that is kept
abbrev pub TagFits : Choice → Option Tag → Type 0
TagFits no_choice None = Unit {0}
TagFits (choice tag cs kept) (Some t) = (t.0 ≡ tag) × IsTrue (has_literal t.1 cs || kept)
TagFits c t = ⊥

-- the Must fields of the case with this literal, if there is one, are there
abbrev pub has_case_musts : List ℕ → Cases → Entries → Bool
has_case_musts l no_case es = true
has_case_musts l (case m fs cs) es = if same_name l m then has_musts fs es else has_case_musts l cs es

-- the Must fields of the case that the tag names are there
abbrev pub has_cased_musts : Choice → Option Tag → Entries → Bool
has_cased_musts (choice tag cs kept) (Some t) es = has_case_musts t.1 cs es
has_cased_musts c t es = true

-- the name is a field of the case with this literal
abbrev pub is_field_of_case : List ℕ → List ℕ → Cases → Bool
is_field_of_case n l no_case = false
is_field_of_case n l (case m fs cs) = if same_name l m then is_field n fs else is_field_of_case n l cs

-- the name is the tag, or a field of the case that it names
abbrev pub is_cased : List ℕ → Choice → Option Tag → Bool
is_cased n (choice tag cs kept) (Some t) = same_name n tag || is_field_of_case n t.1 cs
is_cased n c t = false

-- the tag's text is no case's literal
abbrev pub has_unknown_tag : Choice → Option Tag → Bool
has_unknown_tag (choice tag cs kept) (Some t) = not (has_literal t.1 cs)
has_unknown_tag c t = false

-- an unknown name isn't one of the record's, and stands only where the rest is open or the tag's text is no case's literal
abbrev pub IsUnknown : (Typed → Type 0) → Fields → Choice → Option Tag → Rest → List ℕ → Typed → Type 0
IsUnknown U fs c tag r n v = (is_field n fs || is_cased n c tag ≡ false) × IsTrue (is_open r || has_unknown_tag c tag) × U v

-- a value is one of a template, where U says what may stand at `any` and at unknown names, and P what the body of a node at a point has to be
abbrev mutual
  pub ValueFits : (Typed → Type 0) → (List ℕ → Typed → Type 0) → Template → Typed → Type 0
  ValueFits U P (template.leaf k) v = IsAtom (λ t. kind_of t ≡ k) v
  ValueFits U P template.any v = U v
  ValueFits U P (template.list V) v = IsListOf (ValueFits U P V) v
  ValueFits U P (template.point n) v = IsNodeOf n (P n) v
  ValueFits U P (template.rec fs c r) v =
      IsRecordOf
      (λ ss tag cs rs.
      TagFits c tag × IsTrue (has_musts fs (out_slots ss) && has_cased_musts c tag (out_slots cs)) × EachSlot (FieldsFit U P fs) ss × EachSlot (ChoiceFits U P c tag) cs × EachSlot (IsUnknown U fs c tag r) rs)
      v
  ValueFits U P (template.sum V W) v = IsSideOf (ValueFits U P V) (ValueFits U P W) v

  -- a value under a name that is a field
  pub FieldsFit : (Typed → Type 0) → (List ℕ → Typed → Type 0) → Fields → List ℕ → Typed → Type 0
  FieldsFit U P no_field n v = ⊥
  FieldsFit U P (field x p V fs) n v = MatchBool (same_name n x) (ValueFits U P V v) (FieldsFit U P fs n v)

  pub ChoiceFits : (Typed → Type 0) → (List ℕ → Typed → Type 0) → Choice → Option Tag → List ℕ → Typed → Type 0
  ChoiceFits U P (choice tag cs kept) (Some t) n v = CasesFit U P t.1 cs n v
  ChoiceFits U P c tag n v = ⊥

  -- a value under a name that is a field of the case with this literal
  pub CasesFit : (Typed → Type 0) → (List ℕ → Typed → Type 0) → List ℕ → Cases → List ℕ → Typed → Type 0
  CasesFit U P l no_case n v = ⊥
  CasesFit U P l (case m fs cs) n v = MatchBool (same_name l m) (FieldsFit U P fs n v) (CasesFit U P l cs n v)

-- the value has the template's shape: anything may stand at `any` and at unknown names, and no node's body is looked at
abbrev pub Shape : Template → Typed → Type 0
Shape V v = ValueFits (λ _. Unit {0}) (λ n w. Unit {0}) V v

-- the tree of the value is of the form
abbrev pub IsOfForm : Form → Typed → Type 0
IsOfForm form v = IsTrue (is_in_form form (out v))

-- the value is a tree of the form that isn't looked into
abbrev pub IsAtomOf : Form → Typed → Type 0
IsAtomOf form v = IsAtom (λ t. IsTrue (is_in_form form t)) v

-- the value is one of the body of n, with at most k nodes on each way down
abbrev pub FitWithin : (Typed → Type 0) → (List ℕ → Template) → ℕ → List ℕ → Typed → Type 0
FitWithin U body zero n v = ⊥
FitWithin U body (suc k) n v = ValueFits U (FitWithin U body k) (body n) v

abbrev pub FitBy : (Typed → Type 0) → (List ℕ → Template) → List ℕ → Typed → Type 0
FitBy U body n v = FitWithin U body (typed_size v) n v

-- the value is one of the body of n: at `any` and at unknown names stands any value whose tree is of the form
abbrev pub Fit : Form → (List ℕ → Template) → List ℕ → Typed → Type 0
Fit form body n v = FitBy (IsOfForm form) body n v

-- the value is one of the body of n as reading gives it: an atom stands at `any` and at unknown names
abbrev pub FitAsRead : Form → (List ℕ → Template) → List ℕ → Typed → Type 0
FitAsRead form body n v = FitBy (IsAtomOf form) body n v
