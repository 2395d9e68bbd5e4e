-- A map fits a record name by name: what stands under each name is the tag, a field's, or unknown.
use Rattle.std.proofs.Common.{◌≡◌, ℕ, List, [], ◌∷◌, Bool, true, false, true≢false, Option, Some, None, refl, sym, ap, subst, ◌∙◌, MatchBool, arith}
use Rattle.std.specs.Prelude.{not, ◌||◌, is_some, option_map, unwrap_or, if◌then◌else◌}
use Rattle.mig_model.specs.declared.form.Form.{Form}
use Rattle.mig_model.specs.declared.kind.Kind.TheVariants as K
use Rattle.mig_model.specs.declared.presence.Presence.TheVariants.{Must}
use Rattle.mig_model.specs.declared.rest.Rest.{Rest}
use Rattle.mig_model.specs.Plain as plain
use Rattle.mig_model.specs.Plain.{Plain, each_entry}
use Rattle.mig_model.specs.Kinds.{kind_of}
use Rattle.mig_model.specs.Names.{Ascends, under, same_name, has}
use Rattle.mig_model.specs.Fields.{if_so}
use Rattle.mig_model.specs.Template.{leaf, Field, fields_of, Cases, no_case, case, cases_of, is_must, is_open}
use Rattle.mig_model.specs.Inhabits.{Entries, Fits, FieldsFit, CasesFit, ChoiceFits, EachEntry, Unknown, is_text, is_some_text, has_tag, has_text, has_musts, has_case, is_complete}
use Rattle.mig_model.proofs.Bools.{split_and, both_true, left_or, right_or, second_true, split_or}
use Rattle.mig_model.proofs.SameNames.{same_name_is}
use Rattle.mig_model.specs.Record as template
use Rattle.mig_model.specs.Record.{RecordParts, choice_of, found_case}
use Rattle.mig_laws.proofs.Named.{told_by_name}
use Rattle.mig_laws.proofs.Reading.{tag_is}
use Rattle.mig_laws.proofs.Inhabitants.{RecordFits}
use Rattle.mig_fold.specs.Fold.{treat, treat_fields, treat_choice, treat_cases}
use Rattle.mig_fold.proofs.Treats.{Treatment, found_each}
use Rattle.mig_value.specs.Typed.{Tag}
use Rattle.mig_field.specs.NewRecord.{FieldType, is_tag}
use Rattle.mig_model.proofs.Edits.{first, found_in, under_past, ascends-tail, under-itself}
use Rattle.mig_model.proofs.Options.{none-there}
use Rattle.mig_action.proofs.Stands.{case_of, musts_all, all_musts, either}
use Rattle.mig_action.proofs.Distinct.{Distinct}

-- a tree, or none, at a field, or at none
abbrev pub Stands : Form → (List ℕ → Plain → Type 0) → Bool → Option FieldType → Option Plain → Type 0
Stands form P o None None = Unit {0}
Stands form P o None (Some t) = o ≡ true
Stands form P o (Some s) None = is_must s.0 ≡ false
Stands form P o (Some s) (Some t) = Fits form P s.1 t

-- what is done to a tree there
abbrev pub treat_at : Form → Treatment → Option FieldType → Plain → Plain
treat_at form h None t = t
treat_at form h (Some s) t = treat form h s.1 t

-- a map's tag, as a literal that the map alone tells
abbrev pub tagged : List ℕ → Option Tag
tagged s = Some ([], s)

-- the tag is as a Must field of texts
abbrev pub tag_place : Option template.Cases → List ℕ → Option FieldType
tag_place None n = None
tag_place (Some c) n = if_so (same_name n c.0) (Must, leaf K.Text)

-- what the record has under the name, where the tag's text is s
abbrev pub place : RecordParts → List ℕ → List ℕ → Option FieldType
place p s n = first (tag_place p.choice n) (first (under n p.fields) (under n (case_of p.choice (tagged s))))

abbrev pub is_unknown_tag : Option template.Cases → List ℕ → Bool
is_unknown_tag None s = false
is_unknown_tag (Some c) s = not (has s c.1)

-- unknown names may stand there
abbrev pub opened : RecordParts → List ℕ → Bool
opened p s = is_open p.rest || is_unknown_tag p.choice s

abbrev pub HasTag : Option template.Cases → List ℕ → Entries → Type 0
HasTag None s es = Unit {0}
HasTag (Some c) s es = under c.0 es ≡ Some (plain.text s)

abbrev pub IsTag : Option template.Cases → List ℕ → Type 0
IsTag None s = Unit {0}
IsTag (Some c) s = (has s c.1 || c.2) ≡ true

pub record Standing (form : Form) (P : List ℕ → Plain → Type 0) (p : RecordParts) (s : List ℕ) (es : Entries) : Type 0 where
  pub tag : HasTag p.choice s es
  pub literal : IsTag p.choice s
  pub at : (n : List ℕ) → Stands form P (opened p s) (place p s n) (under n es)

-- ---- pairs by their names
module _ (Q : List ℕ → Plain → Type 0) where
  pub each_under : (es : Entries) → EachEntry Q es → (n : List ℕ) (t : Plain) → under n es ≡ Some t → Q n t
  each_under es h n t e = found_in (EachEntry Q) Q (λ e es k. k) es h n t e

  pub under_each : (es : Entries) → Ascends es → ((n : List ℕ) (t : Plain) → under n es ≡ Some t → Q n t) → EachEntry Q es
  under_each [] s h = tt
  under_each (e ∷ es) s h = (h e.0 e.1 (under-itself e es), under_each es (ascends-tail e es s) (λ n t k. h n t (under_past e es n t s k)))

-- ---- the tag
some_text : (o : Option Plain) → is_some_text o ≡ true → (s : List ℕ) × (o ≡ Some (plain.text s))
some_text (Some (plain.text s)) h = (s, refl)
some_text o h = absurd (true≢false (sym h))

text_some : (l : List ℕ) (o : Option Plain) → is_text l o ≡ true → is_some_text o ≡ true
text_some l (Some (plain.text s)) h = refl
text_some l o h = h

tag_text : (tag : List ℕ) (cs : Cases) (kept : Bool) (es : Entries) → has_case tag cs kept es ≡ true → (s : List ℕ) × (under tag es ≡ Some (plain.text s))
tag_text tag no_case kept es h = some_text (under tag es) (second_true kept (has_text tag es) h)
tag_text tag (case l fs cs) kept es h = by (has_tag tag l es) refl h (tag_text tag cs kept es)
  where
    by : (b : Bool) → has_tag tag l es ≡ b → (if b then has_musts fs es else has_case tag cs kept es) ≡ true
        → (has_case tag cs kept es ≡ true → (s : List ℕ) × (under tag es ≡ Some (plain.text s))) → (s : List ℕ) × (under tag es ≡ Some (plain.text s))
    by true e k rest = some_text (under tag es) (text_some l (under tag es) e)
    by false e k rest = rest k

abbrev case_musts : Bool → Entries → Option (List Field) → Bool
case_musts kept es None = kept
case_musts kept es (Some ds) = has_musts (fields_of ds) es

case_told : (tag s : List ℕ) (kept : Bool) (es : Entries) → under tag es ≡ Some (plain.text s) → (cs : List template.Case) → has_case tag (cases_of cs) kept es ≡ case_musts kept es (under s cs)
case_told tag s kept es is =
    told_by_name s (case_musts kept es) (λ cs. has_case tag (cases_of cs) kept es) (grind (arith, is))
    (λ c cs. ap (λ b. if b then has_musts (fields_of c.1) es else has_case tag (cases_of cs) kept es) (tag_is tag s es is c.0))

-- ---- what is done to the tree under a name
module _ (form : Form) (h : Treatment) (n : List ℕ) (t : Plain) where
  abbrev treat_or : Plain → Option FieldType → Plain
  treat_or u None = u
  treat_or u (Some s) = treat form h s.1 t

  fields_told : (o : Treatment) (fs : List Field) → treat_fields form h (fields_of fs) o n t ≡ treat_or (o n t) (under n fs)
  fields_told o = told_by_name n (treat_or (o n t)) (λ fs. treat_fields form h (fields_of fs) o n t) refl (λ f fs. refl)

  abbrev treat_case : Option (List Field) → Plain
  treat_case None = t
  treat_case (Some ds) = treat_fields form h (fields_of ds) (λ m u. u) n t

  cases_told : (tag s : List ℕ) (es : Entries) → under tag es ≡ Some (plain.text s) → (cs : List template.Case) → treat_cases form h tag (cases_of cs) es n t ≡ treat_case (under s cs)
  cases_told tag s es is =
      told_by_name s treat_case (λ cs. treat_cases form h tag (cases_of cs) es n t) refl
      (λ c cs. ap (λ b. if b then treat_fields form h (fields_of c.1) (λ m u. u) n t else treat_cases form h tag (cases_of cs) es n t) (tag_is tag s es is c.0))

  case_is : (C : Option (List Field)) → treat_case C ≡ treat_at form h (under n (unwrap_or C [])) t
  case_is None = refl
  case_is (Some ds) = fields_told (λ m u. u) ds ∙ by (under n ds)
    where
      by : (F : Option FieldType) → treat_or t F ≡ treat_at form h F t
      by None = refl
      by (Some s) = refl

  pub treated_by : (p : RecordParts) (s : List ℕ) (es : Entries) → HasTag p.choice s es → treat_choice form h (choice_of p.choice)
      (treat_fields form h (fields_of p.fields)) es n t ≡ treat_at form h (place p s n) t
  treated_by p s es k = by p.choice k
    where
      joined : (F D : Option FieldType) → treat_or (treat_at form h D t) F ≡ treat_at form h (first F D) t
      joined None D = refl
      joined (Some f) D = refl

      tag_first : (b : Bool) (D : Option FieldType) → (if b then t else treat_at form h D t) ≡ treat_at form h (first (if_so b (Must, leaf K.Text)) D) t
      tag_first true D = refl
      tag_first false D = refl

      by : (c : Option template.Cases) → HasTag c s es → treat_choice form h (choice_of c) (treat_fields form h (fields_of p.fields)) es n t ≡ treat_at form h
          (first (tag_place c n) (first (under n p.fields) (under n (case_of c (tagged s))))) t
      by None k = fields_told (λ m u. u) p.fields ∙ joined (under n p.fields) None
      by (Some c) k =
          ap (λ u. if same_name n c.0 then t else u)
          (fields_told (treat_cases form h c.0 (cases_of c.1) es) p.fields ∙
          (ap (λ u. treat_or u (under n p.fields)) (cases_told c.0 s es k c.1 ∙ case_is (under s c.1)) ∙ joined (under n p.fields) (under n (case_of (Some c) (tagged s)))))
          ∙ tag_first (same_name n c.0) (first (under n p.fields) (under n (case_of (Some c) (tagged s))))

-- the map of a record, treated
abbrev pub treated : Form → Treatment → RecordParts → Entries → Entries
treated form h p es = each_entry (treat_choice form h (choice_of p.choice) (treat_fields form h (fields_of p.fields)) es) es

pub under_treated : (form : Form) (h : Treatment) (p : RecordParts) (s : List ℕ) (es : Entries) → HasTag p.choice s es → (n : List ℕ)
    → under n (treated form h p es) ≡ option_map (treat_at form h (place p s n)) (under n es)
under_treated form h p s es k n = found_each (treat_choice form h (choice_of p.choice) (treat_fields form h (fields_of p.fields)) es) n es ∙ by (under n es)
  where
    by : (o : Option Plain) → option_map (treat_choice form h (choice_of p.choice) (treat_fields form h (fields_of p.fields)) es n) o ≡ option_map (treat_at form h (place p s n)) o
    by None = refl
    by (Some t) = ap Some (treated_by form h n t p s es k)

-- ---- what fits
module _ (form : Form) (P : List ℕ → Plain → Type 0) (n : List ℕ) (t : Plain) where
  abbrev Held : Type 0 → Option FieldType → Type 0
  Held X None = X
  Held X (Some s) = Fits form P s.1 t

  fields_held : (O : List ℕ → Plain → Type 0) (fs : List Field) → FieldsFit form P (fields_of fs) O n t ≡ Held (O n t) (under n fs)
  fields_held O [] = refl
  fields_held O (f ∷ fs) = ap (λ (X : Type 0). MatchBool (same_name n f.0) (Fits form P f.1.1 t) X) (fields_held O fs) ∙ either (Held (O n t)) (same_name n f.0) (Some f.1) (under n fs)

  module _ (r : Rest) where
    abbrev CaseHeld : Option (List Field) → Type 0
    CaseHeld None = Unit {0}
    CaseHeld (Some ds) = FieldsFit form P (fields_of ds) (Unknown r) n t

    cases_held : (tag s : List ℕ) (es : Entries) → under tag es ≡ Some (plain.text s) → (cs : List template.Case) → CasesFit form P tag (cases_of cs) r es n t ≡ CaseHeld (under s cs)
    cases_held tag s es is [] = refl
    cases_held tag s es is (c ∷ cs) =
        (λ i. MatchBool (tag_is tag s es is c.0 i) (FieldsFit form P (fields_of c.1) (Unknown r) n t) (cases_held tag s es is cs i)) ∙ either CaseHeld (same_name s c.0) (Some c.1) (under s cs)

    -- what is asked at a case's fields and behind them, both ways
    abbrev Behind : Option (List Field) → Type 0
    Behind C = Held ((is_open r || not (is_some C)) ≡ true) (under n (unwrap_or C []))

    weaker : (X Y : Type 0) → (X → Y) → (F : Option FieldType) → Held X F → Held Y F
    weaker X Y f None x = f x
    weaker X Y f (Some s) x = x

    case_behind : (C : Option (List Field)) → CaseHeld C → Behind C
    case_behind None x = right_or (is_open r) true refl
    case_behind (Some ds) x = weaker (is_open r ≡ true) ((is_open r || false) ≡ true) (left_or (is_open r) false) (under n ds) (subst (λ (X : Type 0). X) (fields_held (Unknown r) ds) x)

    behind_case : (C : Option (List Field)) → Behind C → CaseHeld C
    behind_case None x = tt
    behind_case (Some ds) x = subst (λ (X : Type 0). X) (sym (fields_held (Unknown r) ds)) (weaker ((is_open r || false) ≡ true) (is_open r ≡ true) (λ e. grind (arith, e)) (under n ds) x)

  held_stands : (o : Bool) (F D : Option FieldType) → Held (Held (o ≡ true) D) F → Stands form P o (first F D) (Some t)
  held_stands o None None x = x
  held_stands o None (Some d) x = x
  held_stands o (Some f) D x = x

  stands_held : (o : Bool) (F D : Option FieldType) → Stands form P o (first F D) (Some t) → Held (Held (o ≡ true) D) F
  stands_held o None None x = x
  stands_held o None (Some d) x = x
  stands_held o (Some f) D x = x

  outside : (F : Option FieldType) (X Y : Type 0) → (X → Y) → Held X F → Held Y F
  outside None X Y f x = f x
  outside (Some s) X Y f x = x

  module _ (fs : List Field) (r : Rest) (s : List ℕ) (es : Entries) where
    abbrev At : Option template.Cases → Type 0
    At c = ChoiceFits form P (choice_of c) (FieldsFit form P (fields_of fs)) r es n t

    abbrev parts : Option template.Cases → RecordParts
    parts c = record { fields = fs; choice = c; rest = r }

    abbrev Standing_at : Option template.Cases → Type 0
    Standing_at c = Stands form P (opened (parts c) s) (place (parts c) s n) (Some t)

    -- an entry as the record has it, and as it stands there
    pub entry_stands : (c : Option template.Cases) → HasTag c s es → under n es ≡ Some t → At c → Standing_at c
    entry_stands None k e x = held_stands (is_open r || false) (under n fs) None
        (outside (under n fs) (is_open r ≡ true) ((is_open r || false) ≡ true) (left_or (is_open r) false) (subst (λ (X : Type 0). X) (fields_held (Unknown r) fs) x))
    entry_stands (Some c) k e x = by (same_name n c.0) refl x
      where
        by : (b : Bool) → same_name n c.0 ≡ b → MatchBool b (Unit {0}) (FieldsFit form P (fields_of fs) (CasesFit form P c.0 (cases_of c.1) r es) n t)
            → Stands form P (opened (parts (Some c)) s) (first (if_so b (Must, leaf K.Text)) (first (under n fs) (under n (case_of (Some c) (tagged s))))) (Some t)
        by true m y = ap kind_of (text_is (sym e ∙ (ap (λ m. under m es) (same_name_is n c.0 m) ∙ k)))
          where
            text_is : Some t ≡ Some (plain.text s) → t ≡ plain.text s
            text_is q = cc
        by false m y =
            held_stands (opened (parts (Some c)) s) (under n fs) (under n (case_of (Some c) (tagged s)))
            (outside (under n fs) (CasesFit form P c.0 (cases_of c.1) r es n t) (Behind r (under s c.1))
            (λ z. case_behind r (under s c.1) (subst (λ (X : Type 0). X) (cases_held r c.0 s es k c.1) z))
            (subst (λ (X : Type 0). X) (fields_held (CasesFit form P c.0 (cases_of c.1) r es) fs) y))

    pub stands_entry : (c : Option template.Cases) → HasTag c s es → Standing_at c → At c
    stands_entry None k x = subst (λ (X : Type 0). X) (sym (fields_held (Unknown r) fs))
        (outside (under n fs) ((is_open r || false) ≡ true) (is_open r ≡ true) (λ e. grind (arith, e)) (stands_held (is_open r || false) (under n fs) None x))
    stands_entry (Some c) k x = by (same_name n c.0) x
      where
        by : (b : Bool) → Stands form P (opened (parts (Some c)) s) (first (if_so b (Must, leaf K.Text)) (first (under n fs) (under n (case_of (Some c) (tagged s))))) (Some t)
            → MatchBool b (Unit {0}) (FieldsFit form P (fields_of fs) (CasesFit form P c.0 (cases_of c.1) r es) n t)
        by true y = tt
        by false y =
            subst (λ (X : Type 0). X) (sym (fields_held (CasesFit form P c.0 (cases_of c.1) r es) fs))
            (outside (under n fs) (Behind r (under s c.1)) (CasesFit form P c.0 (cases_of c.1) r es n t)
            (λ z. subst (λ (X : Type 0). X) (sym (cases_held r c.0 s es k c.1)) (behind_case r (under s c.1) z))
            (stands_held (opened (parts (Some c)) s) (under n fs) (under n (case_of (Some c) (tagged s))) y))

-- ---- a whole record
module _ (form : Form) (P : List ℕ → Plain → Type 0) (p : RecordParts) (es : Entries) where
  abbrev pub Whole : Type 0
  Whole = RecordFits form P (fields_of p.fields) (choice_of p.choice) p.rest es

  pub fits_stand : Whole → (s : List ℕ) × Standing form P p s es
  fits_stand w = by p.choice w.0 w.1
    where
      Now : Option template.Cases → Type 0
      Now c = (s : List ℕ) × Standing form P (record p { choice = c }) s es

      lacking : (o : Bool) (F D : Option FieldType) → ((f : FieldType) → F ≡ Some f → is_must f.0 ≡ false) → ((f : FieldType) → D ≡ Some f → is_must f.0 ≡ false) → Stands form P o (first F D) None
      lacking o None None f d = tt
      lacking o (Some x) D f d = f x refl
      lacking o None (Some x) f d = d x refl

      may : (fs : List Field) → has_musts (fields_of fs) es ≡ true → (n : List ℕ) → under n es ≡ None → (f : FieldType) → under n fs ≡ Some f → is_must f.0 ≡ false
      may fs h n none f e = let m = musts_all fs es h n f e in grind (arith, m, none)

      by : (c : Option template.Cases) → is_complete (fields_of p.fields) (choice_of c) es ≡ true → EachEntry (ChoiceFits form P (choice_of c) (FieldsFit form P (fields_of p.fields)) p.rest es) es
          → Now c
      by None m x = ([], record { tag = tt; literal = tt; at = λ n. at n (under n es) refl })
        where
          at : (n : List ℕ) (o : Option Plain) → under n es ≡ o → Stands form P (opened (record p { choice = None }) []) (place (record p { choice = None }) [] n) o
          at n None e = lacking (opened (record p { choice = None }) []) (under n p.fields) None (may p.fields m n e) (λ f k. cc)
          at n (Some t) e = entry_stands form P n t p.fields p.rest [] es None tt e (each_under (ChoiceFits form P (choice_of None) (FieldsFit form P (fields_of p.fields)) p.rest es) es x n t e)
      by (Some c) m x =
          let both = split_and (has_musts (fields_of p.fields) es) (has_case c.0 (cases_of c.1) c.2 es) m in
          let text = tag_text c.0 (cases_of c.1) c.2 es both.1 in
          let told = sym (case_told c.0 text.0 c.2 es text.1 c.1) ∙ both.1 in
          (text.0, record { tag = text.1; literal = literal text.0 (under text.0 c.1) told; at = λ n. at text.0 text.1 told both.0 n (under n es) refl })
        where
          literal : (s : List ℕ) (C : Option (List Field)) → case_musts c.2 es C ≡ true → (is_some C || c.2) ≡ true
          literal s None k = k
          literal s (Some ds) k = refl

          cased : (C : Option (List Field)) → case_musts c.2 es C ≡ true → has_musts (fields_of (unwrap_or C [])) es ≡ true
          cased None k = refl
          cased (Some ds) k = k

          at : (s : List ℕ) → under c.0 es ≡ Some (plain.text s) → case_musts c.2 es (under s c.1) ≡ true → has_musts (fields_of p.fields) es ≡ true → (n : List ℕ) (o : Option Plain)
              → under n es ≡ o
              → Stands form P (opened (record p { choice = Some c }) s) (place (record p { choice = Some c }) s n) o
          at s is told musts n (Some t) e = entry_stands form P n t p.fields p.rest s es (Some c) is e
              (each_under (ChoiceFits form P (choice_of (Some c)) (FieldsFit form P (fields_of p.fields)) p.rest es) es x n t e)
          at s is told musts n None e = no_tag (same_name n c.0) refl
            where
              no_tag : (b : Bool) → same_name n c.0 ≡ b → Stands form P (opened (record p { choice = Some c }) s)
                  (first (if_so b (Must, leaf K.Text)) (first (under n p.fields) (under n (case_of (Some c) (tagged s))))) None
              no_tag true k = absurd (let same = same_name_is n c.0 k in cc)
              no_tag false k =
                  lacking (opened (record p { choice = Some c }) s) (under n p.fields) (under n (case_of (Some c) (tagged s))) (may p.fields musts n e)
                  (may (case_of (Some c) (tagged s)) (cased (under s c.1) told) n e)

  pub stand_fits : (s : List ℕ) → Distinct p (tagged s) → Ascends es → Standing form P p s es → Whole
  stand_fits s d a h = (
    complete,
    under_each (ChoiceFits form P (choice_of p.choice) (FieldsFit form P (fields_of p.fields)) p.rest es) es a
        (λ n t e. stands_entry form P n t p.fields p.rest s es p.choice h.tag (subst (Stands form P (opened p s) (place p s n)) e (h.at n))),
  )
    where
      no_tag : (n : List ℕ) (c : Option template.Cases) → is_tag n c ≡ false → tag_place c n ≡ None
      no_tag n None k = refl
      no_tag n (Some c) k = ap (λ b. if_so b (Must, leaf K.Text)) k

      there : (n : List ℕ) (f : FieldType) → place p s n ≡ Some f → is_must f.0 ≡ true → is_some (under n es) ≡ true
      there n f e m = by (under n es) (subst (λ F. Stands form P (opened p s) F (under n es)) e (h.at n))
        where
          by : (o : Option Plain) → Stands form P (opened p s) (Some f) o → is_some o ≡ true
          by None k = sym k ∙ m
          by (Some t) k = refl

      common_place : (n : List ℕ) (f : FieldType) → under n p.fields ≡ Some f → place p s n ≡ Some f
      common_place n f e =
          let apart = split_or (is_tag n p.choice) (has n (case_of p.choice (tagged s))) (d.fields n (ap is_some e)) in
          λ i. first (no_tag n p.choice apart.0 i) (first (e i) (under n (case_of p.choice (tagged s))))

      case_place : (n : List ℕ) (f : FieldType) → under n (case_of p.choice (tagged s)) ≡ Some f → place p s n ≡ Some f
      case_place n f e =
          let apart = d.cased n (ap is_some e) in
          let none = d.fields n in
          let absent : under n p.fields ≡ None = none-there (under n p.fields) (grind (arith, none, e)) in
          λ i. first (no_tag n p.choice apart i) (first (absent i) (e i))

      commons : has_musts (fields_of p.fields) es ≡ true
      commons = all_musts p.fields es d.fields_ascend (λ n f e m. there n f (common_place n f e) m)

      cased : has_musts (fields_of (case_of p.choice (tagged s))) es ≡ true
      cased = all_musts (case_of p.choice (tagged s)) es d.cased_ascend (λ n f e m. there n f (case_place n f e) m)

      complete : is_complete (fields_of p.fields) (choice_of p.choice) es ≡ true
      complete = by p.choice h.tag h.literal cased
        where
          by : (c : Option template.Cases) → HasTag c s es → IsTag c s → has_musts (fields_of (case_of c (tagged s))) es ≡ true → is_complete (fields_of p.fields) (choice_of c) es ≡ true
          by None k l m = commons
          by (Some c) k l m = both_true (has_musts (fields_of p.fields) es) (has_case c.0 (cases_of c.1) c.2 es) commons (case_told c.0 s c.2 es k c.1 ∙ literal (under s c.1) l m)
            where
              literal : (C : Option (List Field)) → (is_some C || c.2) ≡ true → has_musts (fields_of (unwrap_or C [])) es ≡ true → case_musts c.2 es C ≡ true
              literal None l m = l
              literal (Some ds) l m = m
