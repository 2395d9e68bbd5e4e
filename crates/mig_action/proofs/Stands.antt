-- A record value fits a record name by name: what stands under each name is a field's, the tag, or unknown.
use Rattle.std.proofs.Common.{◌≡◌, ℕ, List, [], ◌∷◌, Bool, true, false, Option, Some, None, refl, sym, ap, subst, ◌∙◌, MatchBool, IsTrue, arith}
use Rattle.std.specs.Prelude.{◌||◌, is_some, option_map, unwrap_or, if◌then◌else◌}
use Rattle.mig_model.specs.declared.presence.Presence.{Presence}
use Rattle.mig_model.specs.Names.{Ascends, under, same_name, has}
use Rattle.mig_model.specs.Template.{Template, Field, fields_of, cases_of, is_must, is_open}
use Rattle.mig_model.specs.Fields.{is_field}
use Rattle.mig_model.specs.Inhabits.{Entries, has_musts}
use Rattle.mig_model.specs.Record as template
use Rattle.mig_model.specs.Record.{RecordParts, choice_of, found_case}
use Rattle.mig_template.proofs.Views.{field_list_of}
use Rattle.mig_value.specs.Typed.{Typed, Slot, Tag, slots_of, out, out_slots}
use Rattle.mig_value.specs.Parts as value
use Rattle.mig_value.specs.Parts.{record_of}
use Rattle.mig_value.specs.Fit.{ValueFits, FieldsFit, CasesFit, ChoiceFits, EachSlot, TagFits, IsUnknown, has_literal, has_case_musts, has_cased_musts, has_unknown_tag, is_field_of_case, is_cased}
use Rattle.mig_field.specs.NewRecord.{is_tag}
use Rattle.mig_model.proofs.Edits.{found_in, under_past, ascends-tail, under-itself}
use Rattle.mig_model.proofs.Options.{none-there}
use Rattle.mig_model.proofs.Bools.{split_and, split_or, both_true, both_false}

-- a value under the name of a field
abbrev pub AtField : (Typed → Type 0) → (List ℕ → Typed → Type 0) → Option (Presence × Template) → Typed → Type 0
AtField U P None v = ⊥
AtField U P (Some s) v = ValueFits U P s.1 v

-- no value has to stand there
abbrev MayLack : Option (Presence × Template) → Type 0
MayLack None = Unit {0}
MayLack (Some s) = is_must s.0 ≡ false

-- a value, or none, at a field, or none
abbrev pub Stands : (Typed → Type 0) → (List ℕ → Typed → Type 0) → Option (Presence × Template) → Option Typed → Type 0
Stands U P F None = MayLack F
Stands U P F (Some v) = AtField U P F v

-- an unknown value, or none, where its name is a field's or stands elsewhere in the record
abbrev pub IsRest : (Typed → Type 0) → Option (Presence × Template) → Bool → Bool → Option Typed → Type 0
IsRest U F away opened None = Unit {0}
IsRest U F away opened (Some v) = (F ≡ None) × (away ≡ false) × IsTrue opened × U v

-- the fields of the case that the tag names
abbrev pub case_of : Option template.Cases → Option Tag → List Field
case_of c None = []
case_of c (Some t) = unwrap_or (found_case t.1 c) []

abbrev pub has_either : List ℕ → Option template.Cases → Option Tag → Bool
has_either n c tag = is_tag n c || has n (case_of c tag)

-- unknown names may stand there: the rest is open, or the tag's text is no literal
abbrev pub opened : RecordParts → Option Tag → Bool
opened p tag = is_open p.rest || has_unknown_tag (choice_of p.choice) tag

pub record RecordStands (U : Typed → Type 0) (P : List ℕ → Typed → Type 0) (p : RecordParts) (v : value.RecordParts) : Type 0 where
  pub tag : TagFits (choice_of p.choice) v.tag
  pub fields : (n : List ℕ) → Stands U P (under n p.fields) (under n v.fields)
  pub cased : (n : List ℕ) → Stands U P (under n (case_of p.choice v.tag)) (under n v.cased)
  pub rest : (n : List ℕ) → IsRest U (under n p.fields) (has_either n p.choice v.tag) (opened p v.tag) (under n v.rest)

module _ (U : Typed → Type 0) (P : List ℕ → Typed → Type 0) where
  pub stands_none : (S : Option Typed) → Stands U P None S → S ≡ None
  stands_none None h = refl
  stands_none (Some v) h = absurd h

  -- where no field is, no value stands
  pub none_stands : (F : Option (Presence × Template)) (S : Option Typed) → Stands U P F S → is_some F ≡ false → S ≡ None
  none_stands None S h k = stands_none S h
  none_stands (Some s) S h k = cc

  pub stands_there : (F : Option (Presence × Template)) (S : Option Typed) → Stands U P F S → is_some S ≡ true → is_some F ≡ true
  stands_there (Some f) S h k = refl
  stands_there None S h k = sym (ap is_some (stands_none S h)) ∙ k

  -- the name of an unknown value is no field's, and stands nowhere else
  pub rest_apart : (F : Option (Presence × Template)) (a o : Bool) (R : Option Typed) → IsRest U F a o R → is_some R ≡ true → (is_some F ≡ false) × (a ≡ false)
  rest_apart F a o None h k = cc
  rest_apart F a o (Some w) h k = (ap is_some h.0, h.1)

  pub no_rest : (F : Option (Presence × Template)) (a o : Bool) (R : Option Typed) → IsRest U F a o R → is_some F ≡ true → R ≡ None
  no_rest F a o R h k = let apart = rest_apart F a o R h in grind (arith, apart)

-- ---- slots by their names
module _ (Q : List ℕ → Typed → Type 0) where
  pub each_under : (ss : List Slot) → EachSlot Q (slots_of ss) → (n : List ℕ) (v : Typed) → under n ss ≡ Some v → Q n v
  each_under ss h n v e = found_in (λ (l : List Slot). EachSlot Q (slots_of l)) Q (λ s l k. k) ss h n v e

  pub under_each : (ss : List Slot) → Ascends ss → ((n : List ℕ) (v : Typed) → under n ss ≡ Some v → Q n v) → EachSlot Q (slots_of ss)
  under_each [] s h = tt
  under_each (t ∷ ss) s h = (h t.0 t.1 (under-itself t ss), under_each ss (ascends-tail t ss s) (λ n v e. h n v (under_past t ss n v s e)))

-- ---- the fields of one case
abbrev in_case : Option (List Field) → List Field
in_case o = unwrap_or o []

pub literal_is : (l : List ℕ) (cs : List template.Case) → has_literal l (cases_of cs) ≡ is_some (under l cs)
literal_is l [] = refl
literal_is l (c ∷ cs) = grind (arith, literal_is l cs)

case_musts : (l : List ℕ) (cs : List template.Case) (es : Entries) → has_case_musts l (cases_of cs) es ≡ has_musts (fields_of (in_case (under l cs))) es
case_musts l [] es = refl
case_musts l (c ∷ cs) es = grind (arith, case_musts l cs es)

pub field_is : (n : List ℕ) (fs : List Field) → is_field n (fields_of fs) ≡ has n fs
field_is n fs = ap (has n) (field_list_of fs)

case_field_is : (n l : List ℕ) (cs : List template.Case) → is_field_of_case n l (cases_of cs) ≡ has n (in_case (under l cs))
case_field_is n l [] = refl
case_field_is n l (c ∷ cs) = grind (arith, field_is n c.1, case_field_is n l cs)

pub cased_is : (n : List ℕ) (c : Option template.Cases) (tag : Option Tag) → TagFits (choice_of c) tag → is_cased n (choice_of c) tag ≡ has_either n c tag
cased_is n None None h = refl
cased_is n None (Some t) h = absurd h
cased_is n (Some c) None h = absurd h
cased_is n (Some c) (Some t) h = ap (λ b. same_name n c.0 || b) (case_field_is n t.1 c.1)

-- ---- Must fields
pub found_out : (ss : List Slot) (n : List ℕ) → under n (out_slots (slots_of ss)) ≡ option_map out (under n ss)
found_out [] n = refl
found_out (s ∷ ss) n = grind (arith, found_out ss n)

pub out_there : (ss : List Slot) (n : List ℕ) → is_some (under n (out_slots (slots_of ss))) ≡ has n ss
out_there ss n = grind (arith, found_out ss n)

-- no Must field is missing
abbrev pub Musts : List Field → Entries → Type 0
Musts fs es = (n : List ℕ) (s : Presence × Template) → under n fs ≡ Some s → is_must s.0 ≡ true → is_some (under n es) ≡ true

pub musts_all : (fs : List Field) (es : Entries) → has_musts (fields_of fs) es ≡ true → Musts fs es
musts_all fs es h =
    found_in (λ l. has_musts (fields_of l) es ≡ true) (λ n (s : Presence × Template). is_must s.0 ≡ true → is_some (under n es) ≡ true) (λ f l k. (λ m. grind arith, grind arith)) fs h

pub all_musts : (fs : List Field) (es : Entries) → Ascends fs → Musts fs es → has_musts (fields_of fs) es ≡ true
all_musts [] es s h = refl
all_musts (f ∷ fs) es s h =
    let here = h f.0 f.1 (under-itself f fs) in
    let behind = all_musts fs es (ascends-tail f fs s) (λ n t e m. h n t (under_past f fs n t s e) m) in
    grind (arith, here, behind)

-- a choice between what holds of two
pub either : {A : Type 0} (Q : A → Type 0) (b : Bool) (x y : A) → MatchBool b (Q x) (Q y) ≡ Q (if b then x else y)
either Q true x y = refl
either Q false x y = refl

-- ---- the fields of one scope, and those of the tag's case
module _ (U : Typed → Type 0) (P : List ℕ → Typed → Type 0) where
  fields_fit : (fs : List Field) (n : List ℕ) (v : Typed) → FieldsFit U P (fields_of fs) n v ≡ AtField U P (under n fs) v
  fields_fit [] n v = refl
  fields_fit (f ∷ fs) n v = ap (λ (X : Type 0). MatchBool (same_name n f.0) (ValueFits U P f.1.1 v) X) (fields_fit fs n v) ∙ either (λ F. AtField U P F v) (same_name n f.0) (Some f.1) (under n fs)

  cases_fit : (l : List ℕ) (cs : List template.Case) (n : List ℕ) (v : Typed) → CasesFit U P l (cases_of cs) n v ≡ FieldsFit U P (fields_of (in_case (under l cs))) n v
  cases_fit l [] n v = refl
  cases_fit l (c ∷ cs) n v =
      ap (λ (X : Type 0). MatchBool (same_name l c.0) (FieldsFit U P (fields_of c.1) n v) X) (cases_fit l cs n v)
      ∙ either (λ F. FieldsFit U P (fields_of (in_case F)) n v) (same_name l c.0) (Some c.1) (under l cs)

  choice_fits : (c : Option template.Cases) (tag : Option Tag) (n : List ℕ) (v : Typed) → ChoiceFits U P (choice_of c) tag n v ≡ FieldsFit U P (fields_of (case_of c tag)) n v
  choice_fits (Some c) (Some t) n v = cases_fit t.1 c.1 n v
  choice_fits None (Some t) n v = refl
  choice_fits c tag n v = refl

  slots_fit : (c : Option template.Cases) (tag : Option Tag) (ss : List Slot) → EachSlot (ChoiceFits U P (choice_of c) tag) (slots_of ss) ≡ EachSlot (FieldsFit U P (fields_of (case_of c tag))) (slots_of ss)
  slots_fit c tag ss = λ i. EachSlot (λ n v. choice_fits c tag n v i) (slots_of ss)

  cased_musts : (c : Option template.Cases) (tag : Option Tag) (es : Entries) → has_cased_musts (choice_of c) tag es ≡ has_musts (fields_of (case_of c tag)) es
  cased_musts (Some c) (Some t) es = case_musts t.1 c.1 es
  cased_musts None (Some t) es = refl
  cased_musts c tag es = refl

  scope_stands : (fs : List Field) (ss : List Slot) → has_musts (fields_of fs) (out_slots (slots_of ss)) ≡ true → EachSlot (FieldsFit U P (fields_of fs)) (slots_of ss) → (n : List ℕ) → Stands U P (under n fs) (under n ss)
  scope_stands fs ss m h n = by (under n ss) refl
    where
      may : (F : Option (Presence × Template)) → under n fs ≡ F → has n ss ≡ false → MayLack F
      may None k l = tt
      may (Some s) k l = let a = musts_all fs (out_slots (slots_of ss)) m n s k in grind (arith, a, out_there ss n)

      by : (S : Option Typed) → under n ss ≡ S → Stands U P (under n fs) S
      by None l = may (under n fs) refl (ap is_some l)
      by (Some v) l = subst (λ (X : Type 0). X) (fields_fit fs n v) (each_under (FieldsFit U P (fields_of fs)) ss h n v l)

  stands_fit : (fs : List Field) (ss : List Slot) → Ascends ss → ((n : List ℕ) → Stands U P (under n fs) (under n ss)) → EachSlot (FieldsFit U P (fields_of fs)) (slots_of ss)
  stands_fit fs ss s h = under_each (FieldsFit U P (fields_of fs)) ss s (λ n v e. subst (λ (X : Type 0). X) (sym (fields_fit fs n v)) (subst (Stands U P (under n fs)) e (h n)))

  stands_musts : (fs : List Field) (ss : List Slot) → Ascends fs → ((n : List ℕ) → Stands U P (under n fs) (under n ss)) → has_musts (fields_of fs) (out_slots (slots_of ss)) ≡ true
  stands_musts fs ss s h = all_musts fs (out_slots (slots_of ss)) s (λ n t e m. out_there ss n ∙ by t (under n ss) m (subst (λ F. Stands U P F (under n ss)) e (h n)))
    where
      by : (t : Presence × Template) (S : Option Typed) → is_must t.0 ≡ true → Stands U P (Some t) S → is_some S ≡ true
      by t None m k = sym k ∙ m
      by t (Some w) m k = refl

  -- ---- a whole record
  pub fits_stand : (p : RecordParts) (v : value.RecordParts) → ValueFits U P (template.record_of p) (record_of v) → RecordStands U P p v
  fits_stand p v h =
      let musts = split_and (has_musts (fields_of p.fields) (out_slots (slots_of v.fields))) (has_cased_musts (choice_of p.choice) v.tag (out_slots (slots_of v.cased))) h.1 in
      record {
        tag = h.0;
        fields = scope_stands p.fields v.fields musts.0 h.2;
        cased = scope_stands (case_of p.choice v.tag) v.cased (sym (cased_musts p.choice v.tag (out_slots (slots_of v.cased))) ∙ musts.1) (subst (λ (X : Type 0). X) (slots_fit p.choice v.tag v.cased) h.3);
        rest = λ n. rest n (under n v.rest) refl;
      }
    where
      Unknown : List ℕ → Typed → Type 0
      Unknown = IsUnknown U (fields_of p.fields) (choice_of p.choice) v.tag p.rest

      rest : (n : List ℕ) (R : Option Typed) → under n v.rest ≡ R → IsRest U (under n p.fields) (has_either n p.choice v.tag) (opened p v.tag) R
      rest n None k = tt
      rest n (Some w) k =
          let u : Unknown n w = each_under Unknown v.rest h.4 n w k in
          let s = split_or (is_field n (fields_of p.fields)) (is_cased n (choice_of p.choice) v.tag) u.0 in
          (none-there (under n p.fields) (sym (field_is n p.fields) ∙ s.0), sym (cased_is n p.choice v.tag h.0) ∙ s.1, u.1, u.2)

  pub stand_fits : (p : RecordParts) (v : value.RecordParts) → Ascends p.fields → Ascends (case_of p.choice v.tag) → Ascends v.fields → Ascends v.cased → Ascends v.rest → RecordStands U P p v
      → ValueFits U P (template.record_of p) (record_of v)
  stand_fits p v pf pc vf vc vr h = (
    h.tag,
    both_true (has_musts (fields_of p.fields) (out_slots (slots_of v.fields))) (has_cased_musts (choice_of p.choice) v.tag (out_slots (slots_of v.cased)))
        (stands_musts p.fields v.fields pf h.fields) (cased_musts p.choice v.tag (out_slots (slots_of v.cased)) ∙ stands_musts (case_of p.choice v.tag) v.cased pc h.cased),
    stands_fit p.fields v.fields vf h.fields,
    subst (λ (X : Type 0). X) (sym (slots_fit p.choice v.tag v.cased)) (stands_fit (case_of p.choice v.tag) v.cased vc h.cased),
    under_each Unknown v.rest vr (λ n w k. unknown n w (subst (IsRest U (under n p.fields) (has_either n p.choice v.tag) (opened p v.tag)) k (h.rest n))),
  )
    where
      Unknown : List ℕ → Typed → Type 0
      Unknown = IsUnknown U (fields_of p.fields) (choice_of p.choice) v.tag p.rest

      unknown : (n : List ℕ) (w : Typed) → IsRest U (under n p.fields) (has_either n p.choice v.tag) (opened p v.tag) (Some w) → Unknown n w
      unknown n w k = (
        both_false (is_field n (fields_of p.fields)) (is_cased n (choice_of p.choice) v.tag) (field_is n p.fields ∙ ap is_some k.0) (cased_is n p.choice v.tag h.tag ∙ k.1),
        k.2,
        k.3,
      )
