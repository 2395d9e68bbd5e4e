-- A whole record: its common fields, or the fields of the tag's case, are a scope of it.
use Rattle.std.proofs.Common.{◌≡◌, ℕ, List, [], ◌∷◌, Bool, true, false, true≢false, Option, Some, None, refl, sym, ap, subst, ◌∙◌, IsTrue, arith}
use Rattle.std.specs.Prelude.{not, ◌||◌, is_some, option_map, unwrap_or, if◌then◌else◌}
use Rattle.mig_model.specs.declared.presence.Presence.{Presence}
use Rattle.mig_model.specs.declared.rest.Rest.{Rest}
use Rattle.mig_model.specs.Plain as plain
use Rattle.mig_model.specs.Plain.{Plain}
use Rattle.mig_model.specs.Names.{Ascends, same_name, under, has, put}
use Rattle.mig_model.specs.Template.{Template, Field, cases_of, is_open}
use Rattle.mig_model.specs.Fields.{is_in_choice, is_case_field}
use Rattle.mig_model.specs.Inhabits.{Entries}
use Rattle.mig_model.specs.Record as template
use Rattle.mig_model.specs.Record.{IsRecord, choice_of, found_case}
use Rattle.mig_model.specs.TemplateKept as template_kept
use Rattle.mig_value.specs.Typed.{Typed, Slot, Tag, out, tag_pair}
use Rattle.mig_value.specs.Parts as value
use Rattle.mig_value.specs.Fit.{TagFits, has_literal, has_unknown_tag}
use Rattle.mig_value.specs.Kept as value_kept
use Rattle.mig_field.specs.FieldFn.{FieldOp}
use Rattle.mig_field.specs.NewRecord.{Scoped, is_tag, new_fields}
use Rattle.mig_field.specs.Act.{edit}
use Rattle.mig_action.specs.Moves.{Moving, move, with_moving, with_moving_case}
use Rattle.mig_model.proofs.Edits.{first, same_under, under-put}
use Rattle.mig_model.proofs.Options.{none-there}
use Rattle.mig_action.proofs.Stands.{Stands, IsRest, none_stands, stands_there, RecordStands, opened, case_of, has_either, field_is, literal_is}
use Rattle.mig_action.proofs.Settings.{Setting, Mapped}
use Rattle.mig_action.proofs.Orders.{pairs_of_record, under_record, ascends-in_order, pairs_by_list}
use Rattle.mig_action.proofs.Distinct.{Distinct, common_apart, case_apart, case_ascends, distinct_of}
use Rattle.mig_action.proofs.Ops.{op_settled}
use Rattle.mig_model.proofs.Bools.{both_false, split_or}
use Rattle.std.proofs.lemmas.Bool.{false_from_ne_true}
use Rattle.mig_model.proofs.SameNames.{same_name_itself}

-- a record and a value of it, and what both keep
pub record Suits (U : Typed → Type 0) (P : List ℕ → Typed → Type 0) (p : template.RecordParts) (v : value.RecordParts) : Type 0 where
  pub is_record : IsRecord p.fields p.choice
  pub stand : RecordStands U P p v
  pub fields_ascend : Ascends v.fields
  pub cased_ascend : Ascends v.cased
  pub rest_ascend : Ascends v.rest
  pub templates : (x : List ℕ) (f : Presence × Template) → under x p.fields ≡ Some f → template_kept.TemplateKept f.1
  pub case_templates : (l : List ℕ) (ds : List Field) → found_case l p.choice ≡ Some ds → (x : List ℕ) (f : Presence × Template) → under x ds ≡ Some f → template_kept.TemplateKept f.1
  pub values : (x : List ℕ) (w : Typed) → under x v.fields ≡ Some w → value_kept.ValueKept w × U w
  pub case_values : (x : List ℕ) (w : Typed) → under x v.cased ≡ Some w → value_kept.ValueKept w × U w

-- the value of the new record, and its map
pub record Becomes (U : Typed → Type 0) (P : List ℕ → Typed → Type 0) (r : template.RecordParts) (w : value.RecordParts) (es : Entries) : Type 0 where
  pub stand : RecordStands U P r w
  pub distinct : Distinct r w.tag
  pub fields_ascend : Ascends w.fields
  pub cased_ascend : Ascends w.cased
  pub rest_ascend : Ascends w.rest
  pub map : pairs_of_record w ≡ es

first-assoc : {A : Type 0} (a b c : Option A) → first (first a b) c ≡ first a (first b c)
first-assoc a b c = grind arith

case_field : (n l : List ℕ) (cs : List template.Case) → has n (unwrap_or (under l cs) []) ≡ true → is_case_field n (cases_of cs) ≡ true
case_field n l [] h = h
case_field n l (c ∷ cs) h = grind (arith, field_is n c.1, case_field n l cs)

-- a name elsewhere in the value is one of the choice's
pub either_taken : (n : List ℕ) (c : Option template.Cases) (tag : Option Tag) → has_either n c tag ≡ true → is_in_choice n (choice_of c) ≡ true
either_taken n None None h = h
either_taken n None (Some t) h = h
either_taken n (Some c) None h = grind arith
either_taken n (Some c) (Some t) h = grind (arith, case_field n t.1 c.1)

-- what stands under the tag's name
pub tag_under : (n : List ℕ) (c : Option template.Cases) (tag : Option Tag) → TagFits (choice_of c) tag → is_tag n c ≡ false → under n (tag_pair tag) ≡ None
tag_under n c None h k = refl
tag_under n None (Some t) h k = absurd h
tag_under n (Some c) (Some t) h k = ap (λ b. if b then Some (plain.text t.1) else None) (ap (same_name n) h.0 ∙ k)

module _ (U : Typed → Type 0) (P : List ℕ → Typed → Type 0) where
  -- ---- the common fields
  module _ (p : template.RecordParts) (v : value.RecordParts) (q : Suits U P p v) where
    abbrev common_scope : Scoped
    common_scope = record { fields = p.fields; taken = λ n. is_in_choice n (choice_of p.choice) }

    abbrev common_moving : Moving
    common_moving = record { slots = v.fields; rest = v.rest }

    abbrev away : List ℕ → Bool
    away n = has_either n p.choice v.tag

    abbrev elsewhere : List ℕ → Option Plain
    elsewhere n = first (under n (tag_pair v.tag)) (option_map out (under n v.cased))

    common_setting : Setting U P (opened p v.tag) away common_scope common_moving
    common_setting = record {
      fields_ascend = q.is_record.fields;
      slots_ascend = q.fields_ascend;
      rest_ascend = q.rest_ascend;
      stand = q.stand.fields;
      rests = q.stand.rest;
      apart = common_apart p q.is_record;
      within = λ n h. either_taken n p.choice v.tag h;
    }

    common_map : Mapped away elsewhere common_moving (pairs_of_record v)
    common_map = record {
      ascend = ascends-in_order (pairs_by_list v);
      away_alone = λ n h.
          let s = split_or (is_tag n p.choice) (has n (case_of p.choice v.tag)) h in
          (λ i. first (tag_under n p.choice v.tag q.stand.tag s.0 i) (option_map out (none_stands U P (under n (case_of p.choice v.tag)) (under n v.cased) (q.stand.cased n) s.1 i)));
      at = λ n. under_record v n ∙ ap (first (option_map out (under n v.fields))) (sym (first-assoc (under n (tag_pair v.tag)) (option_map out (under n v.cased)) (option_map out (under n v.rest))));
    }

    pub common_becomes : (op : FieldOp) (gs : List Field) → new_fields op p.rest common_scope ≡ Some gs
        → Becomes U P (record p { fields = gs }) (with_moving v (move op p.fields common_moving)) (edit op p.fields (pairs_of_record v))
    common_becomes op gs h =
        let r = op_settled U P (opened p v.tag) away elsewhere common_scope common_moving (pairs_of_record v) common_setting common_map p.rest (ap (λ b. b || has_unknown_tag (choice_of p.choice) v.tag))
        (record { templates = q.templates; values = λ x w e. (q.values x w e).0; any = λ x w e. (q.values x w e).1 }) op gs h in
        let w = with_moving v (move op p.fields common_moving) in
        let d = distinct_of p q.is_record v.tag in
        record {
          stand = record { tag = q.stand.tag; fields = r.setting.stand; cased = q.stand.cased; rest = r.setting.rests };
          distinct = record { fields = λ n k. false_from_ne_true (has_either n p.choice v.tag) (λ e. true≢false (sym (either_taken n p.choice v.tag e) ∙ r.setting.apart n k)); cased = d.cased; fields_ascend = r.setting.fields_ascend; cased_ascend = d.cased_ascend };
          fields_ascend = r.setting.slots_ascend;
          cased_ascend = q.cased_ascend;
          rest_ascend = r.setting.rest_ascend;
          map = same_under (pairs_of_record w) (edit op p.fields (pairs_of_record v)) (ascends-in_order (pairs_by_list w)) r.map.ascend
              (λ n. under_record w n ∙ (ap (first (option_map out (under n w.fields))) (sym (first-assoc (under n (tag_pair v.tag)) (option_map out (under n v.cased)) (option_map out (under n w.rest)))) ∙ sym (r.map.at n)));
        }

  -- ---- the fields of the tag's case
  module _ (fs : List Field) (c : template.Cases) (r : Rest) (vf : List Slot) (t : Tag) (vc vr : List Slot) where
    abbrev case_record : template.RecordParts
    case_record = record { fields = fs; choice = Some c; rest = r }

    abbrev case_opened : Bool
    case_opened = opened case_record (Some t)

    abbrev case_value : value.RecordParts
    case_value = record { fields = vf; tag = Some t; cased = vc; rest = vr }

    module _ (q : Suits U P case_record case_value) (ds : List Field) (e : under t.1 c.1 ≡ Some ds) where
      abbrev case_scope : Scoped
      case_scope = record { fields = ds; taken = λ n. has n fs || same_name n c.0 }

      abbrev case_moving : Moving
      case_moving = record { slots = vc; rest = vr }

      abbrev case_away : List ℕ → Bool
      case_away n = has n fs || same_name n c.0

      abbrev case_elsewhere : List ℕ → Option Plain
      case_elsewhere n = first (option_map out (under n vf)) (under n (tag_pair (Some t)))

      case_is : case_of (Some c) (Some t) ≡ ds
      case_is = ap (λ (F : Option (List Field)). unwrap_or F []) e

      case_stand : (n : List ℕ) → Stands U P (under n ds) (under n vc)
      case_stand n = subst (λ l. Stands U P (under n l) (under n vc)) case_is (q.stand.cased n)

      case_rests : (n : List ℕ) → IsRest U (under n ds) (case_away n) case_opened (under n vr)
      case_rests n = by (under n vr) (q.stand.rest n)
        where
          by : (R : Option Typed) → IsRest U (under n fs) (has_either n (Some c) (Some t)) case_opened R → IsRest U (under n ds) (case_away n) case_opened R
          by None h = tt
          by (Some w) h =
              let s = split_or (same_name n c.0) (has n (case_of (Some c) (Some t))) h.1 in
              (none-there (under n ds) (sym (ap (has n) case_is) ∙ s.1), both_false (has n fs) (same_name n c.0) (ap is_some h.0) s.0, h.2, h.3)

      case_setting : Setting U P case_opened case_away case_scope case_moving
      case_setting = record {
        fields_ascend = case_ascends case_record q.is_record t.1 ds e;
        slots_ascend = q.cased_ascend;
        rest_ascend = q.rest_ascend;
        stand = case_stand;
        rests = case_rests;
        apart = λ n h. case_apart case_record q.is_record t.1 ds e n h;
        within = λ n h. h;
      }

      no_field : (n : List ℕ) → has n fs ≡ false → under n vf ≡ None
      no_field n h = none_stands U P (under n fs) (under n vf) (q.stand.fields n) h

      no_tag : (n : List ℕ) → same_name n c.0 ≡ false → under n (tag_pair (Some t)) ≡ None
      no_tag n h = tag_under n (Some c) (Some t) q.stand.tag h

      -- slots of the case may be looked up before all others
      case_first : (gs : List Field) (m : Moving) → Setting U P case_opened case_away (record case_scope { fields = gs }) m → (k : List ℕ)
          → first (option_map out (under k vf)) (first (under k (tag_pair (Some t))) (first (option_map out (under k m.slots)) (option_map out (under k m.rest)))) ≡ first (option_map out (under k m.slots)) (first (case_elsewhere k) (option_map out (under k m.rest)))
      case_first gs m a k =
          let there = stands_there U P (under k gs) (under k m.slots) (a.stand k) in
          let apart = a.apart k in
          grind (arith, there, apart, no_field k, no_tag k)

      case_map : Mapped case_away case_elsewhere case_moving (pairs_of_record case_value)
      case_map = record {
        ascend = ascends-in_order (pairs_by_list case_value);
        away_alone = λ n h. let s = split_or (has n fs) (same_name n c.0) h in (λ i. first (option_map out (no_field n s.0 i)) (no_tag n s.1 i));
        at = λ n. under_record case_value n ∙ case_first ds case_moving case_setting n;
      }

      -- the record with other fields in that case
      abbrev with_case : List Field → template.RecordParts
      with_case gs = record { fields = fs; choice = Some (c.0, put t.1 gs c.1, c.2); rest = r }

      case_now : (gs : List Field) → under t.1 (put t.1 gs c.1) ≡ Some gs
      case_now gs = under-put t.1 gs c.1 t.1 ∙ ap (λ b. if b then Some gs else under t.1 c.1) (same_name_itself t.1)

      -- the tag is a literal before and after
      case_opened_still : (gs : List Field) → case_opened ≡ opened (with_case gs) (Some t)
      case_opened_still gs = ap (λ b. is_open r || not b) (literal_is t.1 c.1 ∙ ap is_some e ∙ sym (literal_is t.1 (put t.1 gs c.1) ∙ ap is_some (case_now gs)))

      pub case_becomes : (op : FieldOp) (gs : List Field) → new_fields op r case_scope ≡ Some gs
          → Becomes U P (with_case gs) (with_moving_case case_value (move op ds case_moving)) (edit op ds (pairs_of_record case_value))
      case_becomes op gs h =
          let n = op_settled U P case_opened case_away case_elsewhere case_scope case_moving (pairs_of_record case_value) case_setting case_map r (ap (λ b. b || has_unknown_tag (choice_of (Some c)) (Some t)))
          (record { templates = q.case_templates t.1 ds e; values = λ x w k. (q.case_values x w k).0; any = λ x w k. (q.case_values x w k).1 }) op gs h in
          let w = with_moving_case case_value (move op ds case_moving) in
          let d = distinct_of case_record q.is_record (Some t) in
          let is : case_of (with_case gs).choice (Some t) ≡ gs = ap (λ (F : Option (List Field)). unwrap_or F []) (case_now gs) in
          record {
            stand = record {
              tag = (q.stand.tag.0, ap (λ b. b || c.2) (literal_is t.1 (put t.1 gs c.1) ∙ ap is_some (case_now gs)));
              fields = q.stand.fields;
              cased = λ k. subst (λ l. Stands U P (under k l) (under k w.cased)) (sym is) (n.setting.stand k);
              rest = λ k. rests gs (move op ds case_moving) is k (under k w.rest) (n.setting.rests k);
            };
            distinct = record {
              fields = λ k l. fields gs is (λ x y. n.setting.apart x y) k l;
              cased = λ k l. (split_or (has k fs) (same_name k c.0) (n.setting.apart k (sym (ap (has k) is) ∙ l))).1;
              fields_ascend = d.fields_ascend;
              cased_ascend = subst Ascends (sym is) n.setting.fields_ascend;
            };
            fields_ascend = q.fields_ascend;
            cased_ascend = n.setting.slots_ascend;
            rest_ascend = n.setting.rest_ascend;
            map = same_under (pairs_of_record w) (edit op ds (pairs_of_record case_value)) (ascends-in_order (pairs_by_list w)) n.map.ascend
                (λ k. under_record w k ∙ (case_first gs (move op ds case_moving) n.setting k ∙ sym (n.map.at k)));
          }
        where
          rests : (gs : List Field) (m : Moving) → case_of (Some (c.0, put t.1 gs c.1, c.2)) (Some t) ≡ gs → (k : List ℕ) (R : Option Typed) → IsRest U (under k gs) (case_away k) case_opened R
              → IsRest U (under k fs) (has_either k (Some (c.0, put t.1 gs c.1, c.2)) (Some t)) (opened (with_case gs) (Some t)) R
          rests gs m is k None h = tt
          rests gs m is k (Some x) h =
              let s = split_or (has k fs) (same_name k c.0) h.1 in
              (none-there (under k fs) s.0, both_false (same_name k c.0) (has k (case_of (Some (c.0, put t.1 gs c.1, c.2)) (Some t))) s.1 (ap (has k) is ∙ ap is_some h.0), subst IsTrue (case_opened_still gs) h.2, h.3)

          fields : (gs : List Field) → case_of (Some (c.0, put t.1 gs c.1, c.2)) (Some t) ≡ gs → ((x : List ℕ) → has x gs ≡ true → case_away x ≡ false) → (k : List ℕ) → has k fs ≡ true
              → has_either k (Some (c.0, put t.1 gs c.1, c.2)) (Some t) ≡ false
          fields gs is a k h =
              let d = (distinct_of case_record q.is_record (Some t)).fields k h in
              let b = a k in
              grind (arith, d, b, ap (has k) is)

    -- ---- another choice in which the tag's case is the same
    module _ (q : Suits U P case_record case_value) (cs : List template.Case) (l : List ℕ) (now : under l cs ≡ under t.1 c.1) where
      abbrev with_cases : template.RecordParts
      with_cases = record { fields = fs; choice = Some (c.0, cs, c.2); rest = r }

      abbrev with_literal : value.RecordParts
      with_literal = record { fields = vf; tag = Some (t.0, l); cased = vc; rest = vr }

      same : unwrap_or (under l cs) [] ≡ case_of (Some c) (Some t)
      same = ap (λ (F : Option (List Field)). unwrap_or F []) now

      either_same : (k : List ℕ) → has_either k (Some c) (Some t) ≡ has_either k (Some (c.0, cs, c.2)) (Some (t.0, l))
      either_same k = ap (λ ds. same_name k c.0 || has k ds) (sym same)

      literal_same : has_literal l (cases_of cs) ≡ has_literal t.1 (cases_of c.1)
      literal_same = literal_is l cs ∙ ap is_some now ∙ sym (literal_is t.1 c.1)

      opened_same : case_opened ≡ opened with_cases (Some (t.0, l))
      opened_same = ap (λ b. is_open r || not b) (sym literal_same)

      pub choice_becomes : (es : Entries) → pairs_of_record with_literal ≡ es → Becomes U P with_cases with_literal es
      choice_becomes es m =
          let d = distinct_of case_record q.is_record (Some t) in
          record {
            stand = record {
              tag = (q.stand.tag.0, ap (λ b. b || c.2) literal_same ∙ q.stand.tag.1);
              fields = q.stand.fields;
              cased = λ k. subst (λ ds. Stands U P (under k ds) (under k vc)) (sym same) (q.stand.cased k);
              rest = λ k. subst (λ b. IsRest U (under k fs) (has_either k (Some (c.0, cs, c.2)) (Some (t.0, l))) b (under k vr)) opened_same (subst (λ b. IsRest U (under k fs) b case_opened (under k vr)) (either_same k) (q.stand.rest k));
            };
            distinct = record {
              fields = λ k h. sym (either_same k) ∙ d.fields k h;
              cased = λ k h. d.cased k (sym (ap (has k) same) ∙ h);
              fields_ascend = d.fields_ascend;
              cased_ascend = subst Ascends (sym same) d.cased_ascend;
            };
            fields_ascend = q.fields_ascend;
            cased_ascend = q.cased_ascend;
            rest_ascend = q.rest_ascend;
            map = m;
          }
