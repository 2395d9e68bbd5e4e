-- A deep fix leads the trees of the body that its path begins at to trees of it again.
use Rattle.std.proofs.Common.{◌≡◌, ℕ, List, [], ◌∷◌, ◌++◌, Bool, true, false, Option, Some, None, refl, sym, ap, ap₂, subst, ◌∙◌, arith}
use Rattle.std.proofs.lemmas.Option.{same_Some}
use Rattle.std.specs.Prelude.{◌||◌, is_some, unwrap_or, option_map, option_and_then, if◌then◌else◌}
use Rattle.std.specs.Option.{option_or}
use Rattle.mig_model.specs.declared.form.Form.{Form}
use Rattle.mig_model.specs.declared.kind.Kind.{Kind}
use Rattle.mig_model.specs.declared.kind.Kind.TheVariants as K
use Rattle.mig_model.specs.declared.presence.Presence.TheVariants.{Must}
use Rattle.mig_model.specs.declared.rest.Rest.{Rest}
use Rattle.mig_model.specs.Plain.{Plain}
use Rattle.mig_model.specs.Kinds.{kind_of}
use Rattle.mig_model.specs.Names.{under, has, same_name}
use Rattle.mig_model.specs.Template as template
use Rattle.mig_model.specs.Template.{Template, Field, Fields, fields_of, field_list, Choice, no_choice, choice, Cases, no_case, case, case_list}
use Rattle.mig_model.specs.Record as record_parts
use Rattle.mig_model.specs.Record.{RecordParts, IsRecord, choice_of, record_of, found_case}
use Rattle.mig_model.specs.Fields.{if_so, is_in_choice}
use Rattle.mig_model.specs.Inhabits.{Fits, Inhabits}
use Rattle.mig_model.specs.Family.{Family, body, IsFormed}
use Rattle.mig_model.proofs.Bools.{split_or}
use Rattle.mig_model.proofs.Edits.{first, found_in}
use Rattle.mig_model.proofs.Options.{none-there}
use Rattle.mig_model.proofs.SameNames.{same_name_itself}
use Rattle.mig_model.specs.Leaf.{LeafFn, leaf_out, leaf_value}
use Rattle.mig_model.specs.Family.{is_wrong_leaf}
use Rattle.mig_model.proofs.SameNames.{same_kind_is}
use Rattle.mig_leaf.proofs.KindOut.{value_has_kind}
use Rattle.mig_field_laws.proofs.Forms.{leaf_formed}
use Rattle.mig_rule.specs.Fix.{root_spot, keeps_kind}
use Rattle.mig_rule_laws.proofs.Ascending.{leaf_ascends}
use Rattle.mig_laws.proofs.Reading.{fields_of_list}
use Rattle.mig_laws.proofs.Formed.{body_guarded}
use Rattle.mig_laws.proofs.Inhabitants.{inhabits_unfold}
use Rattle.mig_action.proofs.Distinct.{common_apart, case_apart}
use Rattle.mig_action.proofs.Stands.{case_of}
use Rattle.mig_action.proofs.Values.{mapped, then_some}
use Rattle.mig_field.specs.NewRecord.{FieldType, is_tag}
use Rattle.mig_field_laws.proofs.Places.{tagged, tag_place, place, IsTag}
use Rattle.mig_rule.specs.Rule.{PathStep, named, each, left, right, in_case}
use Rattle.mig_rule.specs.Path.{Spot, whole, crossed, step_to, step_from, leaf_kind, end_kind, is_tagged, at_step, at_end}
use Rattle.mig_rule.specs.Spot.{alone}
use Rattle.mig_rule.proofs.Paths.{at_field, named_alone}
use Rattle.mig_rule_laws.specs.Premises.{IsTidy, IsSound}
use Rattle.mig_rule_laws.specs.Fixes.{FamilyKept}
use Rattle.mig_rule_laws.proofs.Children.{FieldsHave, CasesHave, SoundAt, Itself, children_sound}
use Rattle.mig_rule_laws.proofs.Rules.{parts, parts_back}
use Rattle.mig_rule_laws.proofs.RuleFixes.{body_sound}
use Rattle.mig_rule_laws.proofs.Treated.{Good}
use Rattle.mig_rule_laws.proofs.Paths.{Led, Leads, list_led, left_led, right_led, named_led, parts_record, with_all, with_one, one_record, one_sound, case_led}

-- a record with one case alone
pub record IsAlone (V : Template) : Type 0 where
  fields : List Field
  tag : List ℕ
  literal : List ℕ
  cased : List Field
  rest : Rest
  is : V ≡ record_of (record { fields = fields; choice = Some (tag, (literal, cased) ∷ [], false); rest = rest })

-- where a case was chosen, it stands alone
abbrev IsChosen : Bool → Template → Type 0
IsChosen false V = Unit {0}
IsChosen true V = IsAlone V

no_tag_place : (x : List ℕ) (c : Option record_parts.Cases) → is_tag x c ≡ false → tag_place c x ≡ None
no_tag_place x None k = refl
no_tag_place x (Some c) k = ap (λ b. if_so b (Must, template.leaf K.Text)) k

no_tag_of : (x : List ℕ) (c : Option record_parts.Cases) → is_in_choice x (choice_of c) ≡ false → is_tag x c ≡ false
no_tag_of x None e = refl
no_tag_of x (Some c) e = (split_or (same_name x c.0) _ e).0

one_is : (b : Bool) (gs : List Field) → (is_some (if b then Some gs else None) || false) ≡ true → (if b then Some gs else None) ≡ Some gs
one_is true gs e = refl
one_is false gs e = cc

module _ (form : Form) (P : List ℕ → Plain → Type 0) where
  -- ---- fields
  field_sound : (fs : List Field) → FieldsHave (SoundAt form (Itself form)) (fields_of fs) → (x : List ℕ) (g : FieldType) → under x fs ≡ Some g → IsSound form g.1
  field_sound fs k x g e = found_in (λ (l : List Field). FieldsHave (SoundAt form (Itself form)) (fields_of l)) (λ n (h : FieldType). IsSound form h.1) (λ e es h. h) fs k x g e

  common_led : (p : RecordParts) → IsRecord p.fields p.choice → (x : List ℕ) (g : FieldType) → under x p.fields ≡ Some g → (G : Plain → Plain) → Leads form P g.1 G
      → Leads form P (record_of p) (at_step form (named x) (record_of p) G)
  common_led p i x g e G l =
      let no_tag = no_tag_of x p.choice (common_apart p i x (ap is_some e)) in
      named_led form P p i x g no_tag (λ s k. λ j. first (no_tag_place x p.choice no_tag j) (first (e j) (under x (case_of p.choice (tagged s))))) G l

  cased_led : (fs : List Field) (tag l : List ℕ) (gs : List Field) (r : Rest) → IsRecord fs (Some (tag, (l, gs) ∷ [], false)) → (x : List ℕ) (g : FieldType) → under x gs ≡ Some g
      → (G : Plain → Plain) → Leads form P g.1 G
      → Leads form P (record_of (record { fields = fs; choice = Some (tag, (l, gs) ∷ [], false); rest = r })) (λ t. at_step form (named x) (template.leaf K.Null) G t)
  cased_led fs tag l gs r i x g e G k =
      named_led form P p i x g apart.1 (λ s j. λ m. first (no_tag_place x p.choice apart.1 m) (first (absent m) (stands s j m))) G k
    where
      p : RecordParts
      p = record { fields = fs; choice = Some (tag, (l, gs) ∷ [], false); rest = r }

      here : found_case l p.choice ≡ Some gs
      here = ap (λ (b : Bool). if b then Some gs else None) (same_name_itself l)

      apart : (has x fs ≡ false) × (same_name x tag ≡ false)
      apart = split_or (has x fs) (same_name x tag) (case_apart p i l gs here x (ap is_some e))

      absent : under x fs ≡ None
      absent = none-there (under x fs) apart.0

      stands : (s : List ℕ) → IsTag p.choice s → under x (case_of p.choice (tagged s)) ≡ Some g
      stands s j = ap (λ (F : Option (List Field)). under x (unwrap_or F [])) (one_is (same_name s l) gs j) ∙ e

  -- what stands behind a step
  abbrev Behind : (Plain → Plain) → Spot → Type 0
  Behind G s = IsSound form s.template → IsChosen s.chosen s.template → Leads form P s.template G

  named_step : (x : List ℕ) (ch : Bool) (V : Template) (s : Spot) → step_to (named x) ch V ≡ Some s → IsSound form V → IsChosen ch V → (G : Plain → Plain) → Behind G s
      → Leads form P V (at_step form (named x) V G)
  named_step x false (template.rec fs c r) s e k d G h =
      let m = mapped (λ (f : FieldType). whole f.1) (under x (field_list fs)) s e in
      let kids = children_sound form (template.rec fs c r) k in
      let sound = field_sound (field_list fs) (subst (FieldsHave (SoundAt form (Itself form))) (sym (fields_of_list fs)) kids.0) x m.0 m.1 in
      subst (λ W. Leads form P W (at_step form (named x) (template.rec fs c r) G)) (parts_back fs c r)
      (common_led (parts fs c r) k.kept.0 x m.0 m.1 G (subst (Behind G) (sym m.2) h sound tt))
  named_step x true V s e k d G h = subst (λ W. Leads form P W (λ t. at_step form (named x) (template.leaf K.Null) G t)) (sym d.is) (by (under x d.fields) (under x d.cased) refl refl split)
    where
      p : RecordParts
      p = record { fields = d.fields; choice = Some (d.tag, (d.literal, d.cased) ∷ [], false); rest = d.rest }

      sound : IsSound form (record_of p)
      sound = subst (IsSound form) d.is k

      i : IsRecord d.fields (Some (d.tag, (d.literal, d.cased) ∷ [], false))
      i = parts_record p sound.kept

      kids : FieldsHave (SoundAt form (Itself form)) (fields_of d.fields) × (FieldsHave (SoundAt form (Itself form)) (fields_of d.cased) × Unit {0})
      kids = children_sound form (record_of p) sound

      split : option_or (option_map at_field (under x d.fields)) (option_map at_field (under x d.cased)) ≡ Some s
      split = sym (named_alone x p d.tag d.literal d.cased) ∙ (sym (ap (step_to (named x) true) d.is) ∙ e)

      by : (A B : Option FieldType) → under x d.fields ≡ A → under x d.cased ≡ B → option_or (option_map at_field A) (option_map at_field B) ≡ Some s
          → Leads form P (record_of p) (λ t. at_step form (named x) (template.leaf K.Null) G t)
      by (Some g) B a b q = common_led p i x g a G (subst (Behind G) (sym (same_Some (whole g.1) s q)) h (field_sound d.fields kids.0 x g a) tt)
      by None (Some g) a b q = cased_led d.fields d.tag d.literal d.cased d.rest i x g b G (subst (Behind G) (sym (same_Some (whole g.1) s q)) h (field_sound d.cased kids.1.0 x g b) tt)
      by None None a b q = cc
  named_step x false V s e k d G h = cc

  each_step : (ch : Bool) (V : Template) (s : Spot) → step_to each ch V ≡ Some s → IsSound form V → (G : Plain → Plain) → Behind G s → Leads form P V (at_step form each V G)
  each_step ch (template.list V) s e k G h = list_led form P V G (subst (Behind G) (sym (same_Some (whole V) s e)) h (children_sound form (template.list V) k) tt)
  each_step ch V s e k G h = cc

  left_step : (ch : Bool) (V : Template) (s : Spot) → step_to left ch V ≡ Some s → IsSound form V → (G : Plain → Plain) → Behind G s → Leads form P V (at_step form left V G)
  left_step ch (template.sum V W) s e k G h = left_led form P V W G k (subst (Behind G) (sym (same_Some (whole V) s e)) h (children_sound form (template.sum V W) k).0 tt)
  left_step ch V s e k G h = cc

  right_step : (ch : Bool) (V : Template) (s : Spot) → step_to right ch V ≡ Some s → IsSound form V → (G : Plain → Plain) → Behind G s → Leads form P V (at_step form right V G)
  right_step ch (template.sum V W) s e k G h = right_led form P V W G k (subst (Behind G) (sym (same_Some (whole W) s e)) h (children_sound form (template.sum V W) k).1 tt)
  right_step ch V s e k G h = cc

  case_step : (l : List ℕ) (ch : Bool) (V : Template) (s : Spot) → step_to (in_case l) ch V ≡ Some s → IsSound form V → (G : Plain → Plain) → Behind G s → Leads form P V (at_step form (in_case l) V G)
  case_step l ch (template.rec fs (choice tag cs kept) r) s e k G h =
      let m = mapped (λ (gs : List Field). record { template = template.rec fs (choice tag (case l (fields_of gs) no_case) false) r; chosen = true }) (found_case l (Some (tag, case_list cs, kept))) s e in
      let back = parts_back fs (choice tag cs kept) r in
      let one : record_of (with_one (field_list fs) (tag, case_list cs, kept) r l m.0 m.1) ≡ template.rec fs (choice tag (case l (fields_of m.0) no_case) false) r =
      ap (λ gs. template.rec gs (choice tag (case l (fields_of m.0) no_case) false) r) (fields_of_list fs) in
      let sound = one_sound (field_list fs) (tag, case_list cs, kept) r l m.0 m.1 form (subst (IsSound form) (sym back) k) in
      let behind = subst (Behind G) (sym m.2) h (subst (IsSound form) one sound)
      (record { fields = field_list fs; tag = tag; literal = l; cased = m.0; rest = r; is = sym one }) in
      subst (λ W. Leads form P W (λ t. if is_tagged tag l t then G t else t)) back
      (case_led (field_list fs) (tag, case_list cs, kept) r l m.0 m.1 form P k.kept.0 G (subst (λ W. Leads form P W G) (sym one) behind))
  case_step l ch (template.rec fs no_choice r) s e k G h = cc
  case_step l ch V s e k G h = cc

  pub step_leads : (step : PathStep) (ch : Bool) (V : Template) (s : Spot) → step_to step ch V ≡ Some s → IsSound form V → IsChosen ch V → (G : Plain → Plain) → Behind G s
      → Leads form P V (at_step form step V G)
  step_leads (named x) ch V s e k d G h = named_step x ch V s e k d G h
  step_leads each ch V s e k d G h = each_step ch V s e k G h
  step_leads left ch V s e k d G h = left_step ch V s e k G h
  step_leads right ch V s e k d G h = right_step ch V s e k G h
  step_leads (in_case l) ch V s e k d G h = case_step l ch V s e k G h

-- ---- whole paths
-- a leaf function that fits the kind and gives it again
kept_kind : (g : LeafFn) (o : Option Kind) → keeps_kind g o ≡ true → (k : Kind) × (o ≡ Some k) × (leaf_out g k ≡ Some k)
kept_kind g None e = cc
kept_kind g (Some k) e = (k, refl, by (leaf_out g k) refl)
  where
    by : (q : Option Kind) → leaf_out g k ≡ q → q ≡ Some k
    by None d = absurd (grind (arith, e, d))
    by (Some j) d = ap Some (same_kind_is j k (grind (arith, e, d)))

leaf_good : (form : Form) (g : LeafFn) (k : Kind) → leaf_out g k ≡ Some k → is_wrong_leaf form (template.leaf k) ≡ false → (t : Plain) → kind_of t ≡ k → Good form t (leaf_value g t)
leaf_good form g k o w t e =
    let out = ap (leaf_out g) e ∙ o in
    let value = value_has_kind g t (ap is_some out) in
    let same : kind_of (leaf_value g t) ≡ k = same_Some (kind_of (leaf_value g t)) k (sym value ∙ out) in
    (record { ascend = leaf_ascends g t; formed = leaf_formed form k (leaf_value g t) w same }, same ∙ sym e)

module _ (f : Family) (e : IsFormed f) (kept : FamilyKept f) (g : LeafFn) where
  abbrev Asked : List ℕ → Plain → Type 0
  Asked = Inhabits f.form (body f)

  -- a point is crossed to its body
  cross_leads : (V : Template) (ch : Bool) (A : Plain → Plain) → IsSound f.form V → IsChosen ch V
      → (IsSound f.form (crossed f (record { template = V; chosen = ch })).template → IsChosen (crossed f (record { template = V; chosen = ch })).chosen (crossed f (record { template = V; chosen = ch })).template
      → Leads f.form Asked (crossed f (record { template = V; chosen = ch })).template A) → Leads f.form Asked V A
  cross_leads (template.point n) ch A k d h = λ t b s.
      let led = h (body_sound f e kept n) tt t b ((inhabits_unfold f.form (body f) (body_guarded f e) n t).0 s) in
      (led.0, (inhabits_unfold f.form (body f) (body_guarded f e) n (A t)).1 led.1)
  cross_leads V ch A k d h = h k d

  end_is : (step : PathStep) (steps : List PathStep) (s next : Spot) (t : Plain) → step_from f step s ≡ Some next
      → at_end f.form f (step ∷ steps) (leaf_value g) s t ≡ at_step f.form step (crossed f s).template (at_end f.form f steps (leaf_value g) next) t
  end_is step steps s next t q = rw q refl

  end_leads : (V : Template) (k : Kind) → leaf_kind V ≡ Some k → leaf_out g k ≡ Some k → IsSound f.form V → Leads f.form Asked V (leaf_value g)
  end_leads (template.leaf j) k q o s = λ t b w.
      let same : j ≡ k = same_Some j k q in
      let out : leaf_out g j ≡ Some j = subst (λ i. leaf_out g i ≡ Some i) (sym same) o in
      let good = leaf_good f.form g j out s.right t w in
      (good, good.1 ∙ w)
  end_leads V k q o s = cc

  pub path_leads : (k : Kind) → leaf_out g k ≡ Some k → (steps : List PathStep) (s : Spot) → end_kind f steps s ≡ Some k → IsSound f.form s.template → IsChosen s.chosen s.template
      → Leads f.form Asked s.template (at_end f.form f steps (leaf_value g) s)
  path_leads k o [] s q z d = end_leads s.template k q o z
  path_leads k o (step ∷ steps) s q z d = λ t b w.
      let m = then_some (end_kind f steps) (step_from f step s) k q in
      let go = cross_leads s.template s.chosen (at_step f.form step (crossed f s).template (at_end f.form f steps (leaf_value g) m.0)) z d
      (λ y c. step_leads f.form Asked step (crossed f s).chosen (crossed f s).template m.0 m.1 y c (at_end f.form f steps (leaf_value g) m.0) (path_leads k o steps m.0 m.2)) in
      subst (Led f.form Asked s.template t) (sym (end_is step steps s m.0 t m.1)) (go t b w)

  pub deep_made : (steps : List PathStep) → keeps_kind g (end_kind f steps (root_spot f)) ≡ true → (t : Plain) → IsTidy f.form t → Inhabits f.form (body f) f.root t
      → IsTidy f.form (at_end f.form f steps (leaf_value g) (root_spot f) t) × Inhabits f.form (body f) f.root (at_end f.form f steps (leaf_value g) (root_spot f) t)
  deep_made steps q t b s =
      let k = kept_kind g (end_kind f steps (root_spot f)) q in
      let led = path_leads k.0 k.2 steps (root_spot f) k.1 (body_sound f e kept f.root) tt t b ((inhabits_unfold f.form (body f) (body_guarded f e) f.root t).0 s) in
      (led.0.0, (inhabits_unfold f.form (body f) (body_guarded f e) f.root (at_end f.form f steps (leaf_value g) (root_spot f) t)).1 led.1)
