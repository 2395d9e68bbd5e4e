-- In the new record the sides of sums are told apart, and leaves are of leaf kinds of the form, where it is so in the old one and in what the function brings.
use Rattle.std.proofs.Common.{◌≡◌, ℕ, List, [], ◌∷◌, Bool, true, false, true≢false, Option, Some, None, refl, sym, ap, ap₂, subst, ◌∙◌, arith}
use Rattle.std.specs.Prelude.{not, ◌||◌, ◌&&◌, ◌++◌, option_map, option_and_then, is_some, if◌then◌else◌}
use Rattle.std.specs.Bool.{then_some as if_true}
use Rattle.std.specs.List.{list_all, list_any, AllByRecursion}
use Rattle.mig_model.specs.declared.form.Form.{Form}
use Rattle.mig_model.specs.declared.form.Form.TheVariants as F
use Rattle.mig_model.specs.declared.kind.Kind.{Kind}
use Rattle.mig_model.specs.declared.kind.Kind.TheVariants as K
use Rattle.mig_model.specs.declared.presence.Presence.{Presence}
use Rattle.mig_model.specs.declared.presence.Presence.TheVariants.{Must, May}
use Rattle.mig_model.specs.declared.rest.Rest.{Rest}
use Rattle.mig_model.specs.declared.rest.Rest.TheVariants.{Open}
use Rattle.mig_model.specs.Const as const
use Rattle.mig_model.specs.Const.{Const, const_kind}
use Rattle.mig_model.specs.Fields.{is_in_choice, if_so}
use Rattle.mig_model.specs.Family.{any_inside, any_in_fields, any_in_choice, any_in_cases, is_wrong_leaf, is_point, has_point_side, sides_overlap, kinds}
use Rattle.mig_model.specs.Names.{Ascends, same_name, is_among, under, has, without, put, bring, put_all, moved, those}
use Rattle.mig_model.specs.Template.{Template, leaf, any, list, point, sum, rec, Field, Fields, no_field, field, fields_of, field_list, Cases, no_case, case, cases_of, Choice, no_choice, choice, is_must, is_leaf, is_of_form, has_kind, same_kind}
use Rattle.mig_model.specs.Leaf as fn
use Rattle.mig_model.specs.Leaf.{LeafFn, leaf_out, is_whole_number, is_in}
use Rattle.mig_model.specs.Leaf.{is_text as is_text_kind}
use Rattle.std.specs.Prelude.{int_le}
use Rattle.mig_model.specs.Record as template
use Rattle.mig_model.specs.Record.{RecordParts, IsRecord, choice_of, record_of}
use Rattle.mig_model.proofs.Bools.{split_or, both_true, both_false, split_and}
use Rattle.mig_laws.specs.Sides.{is_side, AreSides, SumsApart, FieldsApart, ChoiceApart, CasesApart}
use Rattle.mig_laws.proofs.Formed.{each_kind}
use Rattle.mig_laws.proofs.Reading.{fields_of_list}
use Rattle.mig_field.specs.FieldFn.{FieldOp, Scope, common, in_case, Fill, fill_template, rename, drop, add, learn, forget, default, maybe, map_leaf, nest, unnest, wrap, unify, retag, add_case, FieldFn}
use Rattle.mig_field.specs.NewRecord.{Scoped, FieldType, is_unclear, is_clear, can_be_learned, scoped, with_fields, filled, lessened, learned, leaf_after, leaf_of_both, common_kind, with_template, at_field, inner_fields, unnest_slot, new_fields, with_cases, can_be_settled, can_be_case, fields_of_case, retagged, with_case, new_by, new_record}
use Rattle.mig_field.specs.SameTemplate.{same_template}
use Rattle.mig_model.proofs.Edits.{found_in, under-itself, under_past, ascends-tail, under-those, ascends-those}
use Rattle.mig_model.proofs.Options.{some-there}
use Rattle.mig_action.proofs.Ops.{is-free, at-field}
use Rattle.mig_action.proofs.Distinct.{common_apart, case_apart, case_ascends}
use Rattle.mig_action.proofs.Values.{so, mapped, then_some, none_then}
use Rattle.mig_field_laws.proofs.Scopes.{InOrder, Refield, field_put, field_without, field_moved}
use Rattle.mig_field_laws.proofs.Nests.{field_nest, field_unnest}
use Rattle.mig_field_laws.proofs.NewRecords.{fields_in_order, new_record_is}
use Rattle.mig_rule.specs.Spelled.{leaf_fn_kinds, kind_list}
use Rattle.mig_rule_laws.specs.Premises.{IsOfForm, OpSound}

if_true_is : {A : Type 0} (b : Bool) (a c : A) → if_true b a ≡ Some c → (b ≡ true) × (a ≡ c)
if_true_is true a c e = (refl, cc)
if_true_is false a c e = cc

is_not : (b : Bool) → not b ≡ true → b ≡ false
is_not true e = cc
is_not false e = refl

const_leaf : (c : Const) → is_leaf (const_kind c) ≡ true
const_leaf (const.byte z) = refl
const_leaf c = refl

whole_leaf : (k : Kind) → is_whole_number k ≡ true → is_leaf k ≡ true
whole_leaf K.List e = cc
whole_leaf K.Map e = cc
whole_leaf k e = refl

common_left : (i j : Option Kind) (k : Kind) → common_kind i j ≡ Some k → i ≡ Some k
common_left (Some a) (Some b) k e = ap Some (so (same_kind a b) a k e).1
common_left None j k e = cc
common_left i None k e = cc

-- ---- a template that a function may bring has its sums apart
abbrev is_any : Template → Bool
is_any any = true
is_any V = false

unclear_sides : (V W : Template) → is_unclear (sum V W) ≡ false → (is_any V ≡ false) × (is_any W ≡ false) × ((has_point_side (sum V W) || sides_overlap F.Nbt (sum V W)) ≡ false)
unclear_sides any W e = cc
unclear_sides V any e = cc
unclear_sides V W e = (refl, refl, e)

second_of : (a b : Bool) → (a && b) ≡ false → a ≡ true → b ≡ false
second_of true b e h = e
second_of false b e h = absurd (true≢false (sym h))

module _ (form : Form) where
  abbrev OfForm : List Kind → Type 0
  OfForm ks = AllByRecursion (IsOfForm form) ks

  first_of_form : (js ks : List Kind) → AllByRecursion (IsOfForm form) (js ++ ks) → AllByRecursion (IsOfForm form) js
  first_of_form [] ks o = tt
  first_of_form (j ∷ js) ks o = (o.0, first_of_form js ks o.1)

  side_kinds : (V : Template) → is_side V ≡ true → (k : Kind) → has_kind form V k ≡ has_kind F.Nbt V k
  side_kinds any s k = cc
  side_kinds (sum V W) s k = let both = split_and (is_side V) (is_side W) s in ap₂ ◌||◌ (side_kinds V both.0 k) (side_kinds W both.1 k)
  side_kinds V s k = refl

  clear_side : (V : Template) → is_any V ≡ false → is_point V ≡ false → SumsApart form V → is_side V ≡ true
  clear_side any a p s = cc
  clear_side (point n) a p s = cc
  clear_side (sum V W) a p s = both_true (is_side V) (is_side W) s.0.left s.0.right
  clear_side V a p s = refl

  clear_sum : (V W : Template) → is_unclear (sum V W) ≡ false → SumsApart form V → SumsApart form W → AreSides form V W
  clear_sum V W e v w =
      let top = unclear_sides V W e in
      let test = split_or (has_point_side (sum V W)) (sides_overlap F.Nbt (sum V W)) top.2 in
      let points = split_or (is_point V) (is_point W) test.0 in
      let left = clear_side V top.0 points.0 v in
      let right = clear_side W top.1 points.1 w in
      record {
        left = left;
        right = right;
        apart = λ k h. side_kinds W right k ∙ second_of (has_kind F.Nbt V k) (has_kind F.Nbt W k) (each_kind (λ j. has_kind F.Nbt V j && has_kind F.Nbt W j) test.1 k) (sym (side_kinds V left k) ∙ h);
      }

  mutual
    clear_apart : (V : Template) → any_inside is_unclear V ≡ false → SumsApart form V
    clear_apart (leaf k) e = tt
    clear_apart any e = tt
    clear_apart (list V) e = clear_apart V e
    clear_apart (point n) e = tt
    clear_apart (rec fs c r) e = let both = split_or (any_in_fields is_unclear fs) (any_in_choice is_unclear c) e in (fields_clear fs both.0, choice_clear c both.1)
    clear_apart (sum V W) e =
        let here = split_or (is_unclear (sum V W)) (any_inside is_unclear V || any_inside is_unclear W) e in
        let both = split_or (any_inside is_unclear V) (any_inside is_unclear W) here.1 in
        let v = clear_apart V both.0 in
        let w = clear_apart W both.1 in
        (clear_sum V W here.0 v w, v, w)

    fields_clear : (fs : Fields) → any_in_fields is_unclear fs ≡ false → FieldsApart form fs
    fields_clear no_field e = tt
    fields_clear (field x p V fs) e = let both = split_or (any_inside is_unclear V) (any_in_fields is_unclear fs) e in (clear_apart V both.0, fields_clear fs both.1)

    choice_clear : (c : Choice) → any_in_choice is_unclear c ≡ false → ChoiceApart form c
    choice_clear no_choice e = tt
    choice_clear (choice tag cs kept) e = cases_clear cs e

    cases_clear : (cs : Cases) → any_in_cases is_unclear cs ≡ false → CasesApart form cs
    cases_clear no_case e = tt
    cases_clear (case l fs cs) e = let both = split_or (any_in_fields is_unclear fs) (any_in_cases is_unclear cs) e in (fields_clear fs both.0, cases_clear cs both.1)

  -- ---- the templates of a record
  abbrev pub TemplateRight : Template → Type 0
  TemplateRight V = SumsApart form V × (any_inside (is_wrong_leaf form) V ≡ false)

  abbrev pub FieldsRight : Fields → Type 0
  FieldsRight no_field = Unit {0}
  FieldsRight (field x p V fs) = TemplateRight V × FieldsRight fs

  abbrev pub CasesRight : Cases → Type 0
  CasesRight no_case = Unit {0}
  CasesRight (case l fs cs) = FieldsRight fs × CasesRight cs

  abbrev pub ChoiceRight : Choice → Type 0
  ChoiceRight no_choice = Unit {0}
  ChoiceRight (choice tag cs kept) = CasesRight cs

  fields_in_parts : (fs : Fields) → FieldsApart form fs → any_in_fields (is_wrong_leaf form) fs ≡ false → FieldsRight fs
  fields_in_parts no_field a e = tt
  fields_in_parts (field x p V fs) a e = let both = split_or (any_inside (is_wrong_leaf form) V) (any_in_fields (is_wrong_leaf form) fs) e in ((a.0, both.0), fields_in_parts fs a.1 both.1)

  fields_of_parts : (fs : Fields) → FieldsRight fs → FieldsApart form fs × (any_in_fields (is_wrong_leaf form) fs ≡ false)
  fields_of_parts no_field k = (tt, refl)
  fields_of_parts (field x p V fs) k =
      let rest = fields_of_parts fs k.1 in
      ((k.0.0, rest.0), both_false (any_inside (is_wrong_leaf form) V) (any_in_fields (is_wrong_leaf form) fs) k.0.1 rest.1)

  cases_in_parts : (cs : Cases) → CasesApart form cs → any_in_cases (is_wrong_leaf form) cs ≡ false → CasesRight cs
  cases_in_parts no_case a e = tt
  cases_in_parts (case l fs cs) a e =
      let both = split_or (any_in_fields (is_wrong_leaf form) fs) (any_in_cases (is_wrong_leaf form) cs) e in
      (fields_in_parts fs a.0 both.0, cases_in_parts cs a.1 both.1)

  cases_of_parts : (cs : Cases) → CasesRight cs → CasesApart form cs × (any_in_cases (is_wrong_leaf form) cs ≡ false)
  cases_of_parts no_case k = (tt, refl)
  cases_of_parts (case l fs cs) k =
      let here = fields_of_parts fs k.0 in
      let rest = cases_of_parts cs k.1 in
      ((here.0, rest.0), both_false (any_in_fields (is_wrong_leaf form) fs) (any_in_cases (is_wrong_leaf form) cs) here.1 rest.1)

  parts_in : (fs : Fields) (c : Choice) (r : Rest) → TemplateRight (rec fs c r) → FieldsRight fs × ChoiceRight c
  parts_in fs no_choice r k = (fields_in_parts fs k.0.0 (split_or (any_in_fields (is_wrong_leaf form) fs) false k.1).0, tt)
  parts_in fs (choice tag cs kept) r k =
      let both = split_or (any_in_fields (is_wrong_leaf form) fs) (any_in_cases (is_wrong_leaf form) cs) k.1 in
      (fields_in_parts fs k.0.0 both.0, cases_in_parts cs k.0.1 both.1)

  of_parts : (fs : Fields) (c : Choice) (r : Rest) → FieldsRight fs → ChoiceRight c → TemplateRight (rec fs c r)
  of_parts fs no_choice r k l = let f = fields_of_parts fs k in ((f.0, tt), both_false (any_in_fields (is_wrong_leaf form) fs) false f.1 refl)
  of_parts fs (choice tag cs kept) r k l =
      let f = fields_of_parts fs k in
      let g = cases_of_parts cs l in
      ((f.0, g.0), both_false (any_in_fields (is_wrong_leaf form) fs) (any_in_cases (is_wrong_leaf form) cs) f.1 g.1)

  of_fields : (fs : List Field) (r : Rest) → FieldsRight (fields_of fs) → TemplateRight (rec (fields_of fs) no_choice r)
  of_fields fs r k = of_parts (fields_of fs) no_choice r k tt

  in_fields : (fs : Fields) (r : Rest) → TemplateRight (rec fs no_choice r) → FieldsRight fs
  in_fields fs r k = (parts_in fs no_choice r k).0

  clear_fields : (ds : List Field) → list_all (λ (f : Field). is_clear f.1.1) ds ≡ true → any_in_fields (is_wrong_leaf form) (fields_of ds) ≡ false → FieldsRight (fields_of ds)
  clear_fields [] c e = tt
  clear_fields (d ∷ ds) c e =
      let clear = split_and (is_clear d.1.1) (list_all (λ (f : Field). is_clear f.1.1) ds) c in
      let both = split_or (any_inside (is_wrong_leaf form) d.1.1) (any_in_fields (is_wrong_leaf form) (fields_of ds)) e in
      ((clear_apart d.1.1 (is_not (any_inside is_unclear d.1.1) clear.0), both.0), clear_fields ds clear.1 both.1)

  field_kept : (fs : List Field) → FieldsRight (fields_of fs) → (x : List ℕ) (f : FieldType) → under x fs ≡ Some f → TemplateRight f.1
  field_kept fs k x f e = found_in (λ l. FieldsRight (fields_of l)) (λ n (g : FieldType). TemplateRight g.1) (λ g l h. h) fs k x f e

  -- ---- leaves
  not_wrong : (k : Kind) → is_leaf k ≡ true → is_of_form form k ≡ true → is_wrong_leaf form (leaf k) ≡ false
  not_wrong k l o = ap not (both_true (is_leaf k) (is_of_form form k) l o)

  text_of_form : (f : Form) → is_of_form f K.Text ≡ true
  text_of_form F.Nbt = refl
  text_of_form F.Json = refl

  a_text : (b : Bool) (j : Kind) → if_true b K.Text ≡ Some j → is_wrong_leaf form (leaf j) ≡ false
  a_text b j e = subst (λ i. is_wrong_leaf form (leaf i) ≡ false) (if_true_is b K.Text j e).1 (not_wrong K.Text refl (text_of_form form))

  a_const : (c : Const) → OfForm (const_kind c ∷ []) → (b : Bool) (j : Kind) → if_true b (const_kind c) ≡ Some j → is_wrong_leaf form (leaf j) ≡ false
  a_const c o b j e = subst (λ i. is_wrong_leaf form (leaf i) ≡ false) (if_true_is b (const_kind c) j e).1 (not_wrong (const_kind c) (const_leaf c) o.0)

  the_same : (b : Bool) (k j : Kind) → if_true b k ≡ Some j → is_wrong_leaf form (leaf k) ≡ false → is_wrong_leaf form (leaf j) ≡ false
  the_same b k j e w = subst (λ i. is_wrong_leaf form (leaf i) ≡ false) (if_true_is b k j e).1 w

  out_right : (f : LeafFn) → OfForm (leaf_fn_kinds f) → (k j : Kind) → leaf_out f k ≡ Some j → is_wrong_leaf form (leaf k) ≡ false → is_wrong_leaf form (leaf j) ≡ false
  out_right (fn.constant c) o k j e w = a_const c o (is_leaf k) j e
  out_right (fn.plus n) o k j e w = the_same (is_whole_number k) k j e w
  out_right (fn.times n) o k j e w = the_same (is_whole_number k) k j e w
  out_right (fn.clamp_to low high) o k j e w = the_same (is_whole_number k && is_in k low && is_in k high && int_le low high) k j e w
  out_right (fn.to_kind i) o k j e w =
      let a = if_true_is (is_whole_number i && is_whole_number k) i j e in
      subst (λ i. is_wrong_leaf form (leaf i) ≡ false) a.1 (not_wrong i (whole_leaf i (split_and (is_whole_number i) (is_whole_number k) a.0).0) o.0)
  out_right fn.to_text o k j e w = a_text (is_whole_number k || same_kind K.Bool k || is_text_kind k) j e
  out_right (fn.of_text c) o k j e w = a_const c o (is_text_kind k && is_whole_number (const_kind c)) j e
  out_right (fn.table ps) o k j e w = a_text (is_text_kind k) j e
  out_right (fn.prefix p) o k j e w = a_text (is_text_kind k) j e
  out_right (fn.strip p) o k j e w = a_text (is_text_kind k) j e
  out_right fn.lower o k j e w = a_text (is_text_kind k) j e

  -- the template of each field is in order
  abbrev NamesRight : List Field → Type 0
  NamesRight fs = (x : List ℕ) (f : FieldType) → under x fs ≡ Some f → TemplateRight f.1

  from_names : (fs : List Field) → Ascends fs → NamesRight fs → FieldsRight (fields_of fs)
  from_names [] a k = tt
  from_names (f ∷ fs) a k = (k f.0 f.1 (under-itself f fs), from_names fs (ascends-tail f fs a) (λ x g e. k x g (under_past f fs x g a e)))

  -- ---- single fields
  filled_kept : (c : Fill) (old new : FieldType) → filled c old ≡ Some new → TemplateRight old.1 → TemplateRight new.1
  filled_kept c old new e k = let a = so (not (is_must old.0) && same_template old.1 (fill_template c)) (Must, old.1) new e in subst (λ (f : FieldType). TemplateRight f.1) a.1 k

  lessened_kept : (old new : FieldType) → lessened old ≡ Some new → TemplateRight old.1 → TemplateRight new.1
  lessened_kept old new e k = let a = so (is_must old.0) (May, old.1) new e in subst (λ (f : FieldType). TemplateRight f.1) a.1 k

  with_kept : (f : Template → Option Template) → ((V W : Template) → f V ≡ Some W → TemplateRight V → TemplateRight W) → (old new : FieldType) → with_template f old ≡ Some new → TemplateRight old.1
      → TemplateRight new.1
  with_kept f g old new e k = let a = mapped (λ (W : Template). (old.0, W)) (f old.1) new e in subst (λ (f : FieldType). TemplateRight f.1) a.2 (g old.1 a.0 a.1 k)

  leaf_kept : (f : LeafFn) → OfForm (leaf_fn_kinds f) → (V W : Template) → leaf_after f V ≡ Some W → TemplateRight V → TemplateRight W
  leaf_kept f o (leaf k) W e x = let a = mapped (λ j. leaf j) (leaf_out f k) W e in subst TemplateRight a.2 (tt, out_right f o k a.0 a.1 x.1)
  leaf_kept f o V W e x = cc

  both_kept : (f g : LeafFn) → OfForm (leaf_fn_kinds f) → (V W : Template) → leaf_of_both f g V ≡ Some W → TemplateRight V → TemplateRight W
  both_kept f g o (sum (leaf a) (leaf b)) W e x =
      let m = mapped (λ j. leaf j) (common_kind (leaf_out f a) (leaf_out g b)) W e in
      subst TemplateRight m.2 (tt, out_right f o a m.0 (common_left (leaf_out f a) (leaf_out g b) m.0 m.1) (split_or (is_wrong_leaf form (leaf a)) (is_wrong_leaf form (leaf b)) x.1).0)
  both_kept f g o V W e x = cc

  list_kept : (V W : Template) → ◌≡◌ {A = Option Template} (Some (list V)) (Some W) → TemplateRight V → TemplateRight W
  list_kept V W e x = let same : list V ≡ W = cc in subst TemplateRight same x

  learned_kept : (k : Option Kind) → OfForm (kind_list k) → can_be_learned k ≡ true → TemplateRight (learned k)
  learned_kept None o e = (tt, refl)
  learned_kept (Some k) o e = (tt, not_wrong k e o.0)

  -- ---- the fields of a scope
  module _ (s : Scoped) (i : InOrder s) (r : Rest) (old : NamesRight s.fields) where
    refield : (gs : List Field) (at : List ℕ → Bool) (F : List ℕ → Option FieldType) → Refield s gs at F → ((n : List ℕ) (f : FieldType) → F n ≡ Some f → TemplateRight f.1) → NamesRight gs
    refield gs at F e k n f there = by (at n) (sym (e.are n) ∙ there)
      where
        by : (b : Bool) → (if b then F n else under n s.fields) ≡ Some f → TemplateRight f.1
        by true q = k n f q
        by false q = old n f q

    put_kept : (x : List ℕ) (f : FieldType) → s.taken x ≡ false → TemplateRight f.1 → NamesRight (put x f s.fields)
    put_kept x f free k = refield (put x f s.fields) _ _ (field_put s i x f free) (λ n g e. let same : f ≡ g = cc in subst (λ (z : FieldType). TemplateRight z.1) same k)

    without_kept : (x : List ℕ) → has x s.fields ≡ true → NamesRight (without x s.fields)
    without_kept x there = refield (without x s.fields) _ _ (field_without s i x there) (λ n g e. cc)

    made : (b : Bool) (fs gs : List Field) → if_so b fs ≡ Some gs → (b ≡ true → NamesRight fs) → NamesRight gs
    made b fs gs e f = let a = so b fs gs e in subst NamesRight a.1 (f a.0)

    made_at : (x : List ℕ) (f : FieldType → Option FieldType) (gs : List Field) → at_field x f s.fields ≡ Some gs → ((o n : FieldType) → f o ≡ Some n → TemplateRight o.1 → TemplateRight n.1)
        → NamesRight gs
    made_at x f gs e k =
        let a = at-field x f s.fields gs e in
        subst NamesRight a.gives (put_kept x a.new (i.apart x (ap is_some a.there)) (k a.old a.new a.becomes (old x a.old a.there)))

    those_kept : (xs : List (List ℕ)) → NamesRight (those xs s.fields)
    those_kept xs n f e = by (is_among xs n) (sym (under-those xs s.fields n) ∙ e)
      where
        by : (b : Bool) → (if b then under n s.fields else None) ≡ Some f → TemplateRight f.1
        by true q = old n f q
        by false q = cc

    inner_kept : (xs : List (List ℕ)) → TemplateRight (rec (fields_of (those xs s.fields)) no_choice Open)
    inner_kept xs = of_fields (those xs s.fields) Open (from_names (those xs s.fields) (ascends-those xs s.fields i.ascend) (those_kept xs))

    pub fields_kept : (op : FieldOp) (gs : List Field) → new_fields op r s ≡ Some gs → OpSound form op → NamesRight gs
    fields_kept (rename x y) gs e k = made _ (moved x y s.fields) gs e
        (λ b. let f = is-free s y (grind (arith, b)) in refield (moved x y s.fields) _ _ (field_moved s i x y (grind (arith, b)) f.free) (λ n f q. by n f (same_name n y) q))
      where
        by : (n : List ℕ) (f : FieldType) (b : Bool) → (if b then under x s.fields else None) ≡ Some f → TemplateRight f.1
        by n f true q = old x f q
        by n f false q = cc
    fields_kept (drop x) gs e k = made _ (without x s.fields) gs e (without_kept x)
    fields_kept (add x g) gs e k = made _ _ gs e (λ b. let f = is-free s x (grind (arith, b)) in put_kept x (Must, fill_template g) f.free (clear_apart (fill_template g) (is_not (any_inside is_unclear (fill_template g)) (grind (arith, b))), k.1))
    fields_kept (learn x j) gs e k = made _ _ gs e (λ b. let f = is-free s x (grind (arith, b)) in put_kept x (May, learned j) f.free (learned_kept j k (grind (arith, b))))
    fields_kept (forget x) gs e k = made _ (without x s.fields) gs e (λ b. without_kept x (grind (arith, b)))
    fields_kept (default x g) gs e k = made_at x (filled g) gs e (filled_kept g)
    fields_kept (maybe x) gs e k = made_at x lessened gs e lessened_kept
    fields_kept (map_leaf x g) gs e k = made_at x (with_template (leaf_after g)) gs e (with_kept (leaf_after g) (leaf_kept g k))
    fields_kept (wrap x) gs e k = made_at x (with_template (λ V. Some (list V))) gs e (with_kept (λ V. Some (list V)) list_kept)
    fields_kept (unify x f g) gs e k = made_at x (with_template (leaf_of_both f g)) gs e (with_kept (leaf_of_both f g) (both_kept f g (first_of_form (leaf_fn_kinds f) (leaf_fn_kinds g) k)))
    fields_kept (nest xs y) gs e k = made _ _ gs e (λ b. refield _ _ _ (field_nest s i xs y b) (λ n f q. by n f (same_name n y) q))
      where
        by : (n : List ℕ) (f : FieldType) (b : Bool) → (if b then Some (Must, rec (fields_of (those xs s.fields)) no_choice Open) else None) ≡ Some f → TemplateRight f.1
        by n f true q = let same : ◌≡◌ {A = FieldType} (Must, rec (fields_of (those xs s.fields)) no_choice Open) f = cc in subst (λ (z : FieldType). TemplateRight z.1) same (inner_kept xs)
        by n f false q = cc
    fields_kept (unnest y) gs e k =
        let a = then_some (λ (f : FieldType). option_and_then (unnest_slot y s f.0) (inner_fields f.1)) (under y s.fields) gs e in
        by a.0.0 a.0.1 a.1 a.2
      where
        at : (q : Presence) (gf : Fields) (p : Rest) → under y s.fields ≡ Some (q, rec gf no_choice p) → unnest_slot y s q (field_list gf) ≡ Some gs → NamesRight gs
        at q gf p there z = made _ _ gs z (λ b. refield _ _ _ (field_unnest s i y q gf p there b) (λ n f e. inside n f e))
          where
            inside : (n : List ℕ) (f : FieldType) → option_map (λ (g : FieldType). ((if is_must q then g.0 else May), g.1)) (under n (field_list gf)) ≡ Some f → TemplateRight f.1
            inside n f e =
                let a = mapped (λ (g : FieldType). ((if is_must q then g.0 else May), g.1)) (under n (field_list gf)) f e in
                subst (λ (z : FieldType). TemplateRight z.1) a.2 (field_kept (field_list gf) (subst FieldsRight (sym (fields_of_list gf)) (in_fields gf p (old y (q, rec gf no_choice p) there))) n a.0 a.1)

        by : (q : Presence) (V : Template) → under y s.fields ≡ Some (q, V) → option_and_then (unnest_slot y s q) (inner_fields V) ≡ Some gs → NamesRight gs
        by q (rec gf no_choice p) there z = at q gf p there z
        by q V there z = cc
    fields_kept op gs e k = cc

  -- ---- cases
  case_there : (cs : List template.Case) → CasesRight (cases_of cs) → (l : List ℕ) (ds : List Field) → under l cs ≡ Some ds → FieldsRight (fields_of ds)
  case_there cs k l ds e = found_in (λ cs. CasesRight (cases_of cs)) (λ n ds. FieldsRight (fields_of ds)) (λ c cs h. h) cs k l ds e

  cases_put : (l : List ℕ) (gs : List Field) (cs : List template.Case) → CasesRight (cases_of cs) → FieldsRight (fields_of gs) → CasesRight (cases_of (put l gs cs))
  cases_put l gs [] k g = (g, tt)
  cases_put l gs (c ∷ cs) k g = grind (arith, k.0, k.1, g, cases_put l gs cs k.1 g)

  cases_without : (l : List ℕ) (cs : List template.Case) → CasesRight (cases_of cs) → CasesRight (cases_of (without l cs))
  cases_without l [] k = tt
  cases_without l (c ∷ cs) k = grind (arith, k.0, k.1, cases_without l cs k.1)

  fields_put : (x : List ℕ) (f : FieldType) (fs : List Field) → FieldsRight (fields_of fs) → TemplateRight f.1 → FieldsRight (fields_of (put x f fs))
  fields_put x f [] k g = (g, tt)
  fields_put x f (e ∷ fs) k g = grind (arith, k.0, k.1, g, fields_put x f fs k.1 g)

  fields_put_all : (gs fs : List Field) → FieldsRight (fields_of gs) → FieldsRight (fields_of fs) → FieldsRight (fields_of (put_all gs fs))
  fields_put_all [] fs k l = l
  fields_put_all (g ∷ gs) fs k l = fields_put g.0 g.1 (put_all gs fs) (fields_put_all gs fs k.1 l) k.0

  -- ---- every function
  -- what is in order in the fields and in the choice
  abbrev Deep : RecordParts → Type 0
  Deep p = FieldsRight (fields_of p.fields) × ChoiceRight (choice_of p.choice)

  common_deep : (op : FieldOp) (p r : RecordParts) → IsRecord p.fields p.choice → Deep p → OpSound form op
      → option_map (λ gs. with_fields common gs p) (new_fields op p.rest (record { fields = p.fields; taken = λ n. is_in_choice n (choice_of p.choice) })) ≡ Some r → Deep r
  common_deep op p r i d k e =
      let s : Scoped = record { fields = p.fields; taken = λ n. is_in_choice n (choice_of p.choice) } in
      let o : InOrder (record { fields = p.fields; taken = λ n. is_in_choice n (choice_of p.choice) }) = record { ascend = i.fields; apart = common_apart p i } in
      let a = mapped (λ gs. with_fields common gs p) (new_fields op p.rest s) r e in
      subst Deep a.2 (from_names a.0 (fields_in_order s o p.rest op a.0 a.1).ascend (fields_kept s o p.rest (field_kept p.fields d.0) op a.0 a.1 k), d.1)

  case_deep : (op : FieldOp) (l : List ℕ) (fs : List Field) (C : Option template.Cases) (rest : Rest) (r : RecordParts) → IsRecord fs C → Deep (record { fields = fs; choice = C; rest = rest })
      → OpSound form op
      → option_and_then (λ s. option_map (λ gs. with_fields (in_case l) gs (record { fields = fs; choice = C; rest = rest })) (new_fields op rest s))
      (scoped (in_case l) (record { fields = fs; choice = C; rest = rest })) ≡ Some r → Deep r
  case_deep op l fs None rest r i d k e = cc
  case_deep op l fs (Some c) rest r i d k e = by (under l c.1) refl e
    where
      by : (F : Option (List Field)) → under l c.1 ≡ F
          → option_and_then (λ s. option_map (λ gs. with_fields (in_case l) gs (record { fields = fs; choice = Some c; rest = rest })) (new_fields op rest s))
          (option_map (λ ds. record { fields = ds; taken = λ n. has n fs || same_name n c.0 }) F) ≡ Some r → Deep r
      by None there q = cc
      by (Some ds) there q =
          let s : Scoped = record { fields = ds; taken = λ n. has n fs || same_name n c.0 } in
          let p : RecordParts = record { fields = fs; choice = Some c; rest = rest } in
          let o : InOrder (record { fields = ds; taken = λ n. has n fs || same_name n c.0 }) = record { ascend = case_ascends p i l ds there; apart = case_apart p i l ds there } in
          let a = mapped (λ gs. with_fields (in_case l) gs (record { fields = fs; choice = Some c; rest = rest })) (new_fields op rest s) r q in
          subst Deep a.2
          (d.0, cases_put l a.0 c.1 d.1 (from_names a.0 (fields_in_order s o rest op a.0 a.1).ascend (fields_kept s o rest (field_kept ds (case_there c.1 d.1 l ds there)) op a.0 a.1 k)))

  retag_deep : (a b : List ℕ) (fs : List Field) (C : Option template.Cases) (rest : Rest) (r : RecordParts) → Deep (record { fields = fs; choice = C; rest = rest })
      → option_and_then (λ c. option_map (with_cases (record { fields = fs; choice = C; rest = rest })) (retagged a b c)) C ≡ Some r → Deep r
  retag_deep a b fs None rest r d e = cc
  retag_deep a b fs (Some c) rest r d e =
      let old : RecordParts = record { fields = fs; choice = Some c; rest = rest } in
      let m = mapped (with_cases old) (retagged a b c) r e in
      let s = so (has a c.1 && (not (has b c.1) && can_be_settled c.2 (fields_of_case a c))) (c.0, moved a b c.1, c.2) m.0 m.1 in
      let k = s.0 in
      let ds = some-there (under a c.1) (grind (arith, k)) in
      subst Deep (ap (with_cases old) s.1 ∙ m.2) (
        d.0,
        subst (λ (F : Option (List Field)). CasesRight (cases_of (bring b F (without b (without a c.1))))) (sym ds.1)
            (cases_put b ds.0 (without b (without a c.1)) (cases_without b (without a c.1) (cases_without a c.1 d.1)) (case_there c.1 d.1 a ds.0 ds.1)),
      )

  more_deep : (b : List ℕ) (ds fs : List Field) (C : Option template.Cases) (rest : Rest) (r : RecordParts) → Deep (record { fields = fs; choice = C; rest = rest })
      → any_in_fields (is_wrong_leaf form) (fields_of ds) ≡ false
      → option_and_then (λ c. option_map (with_cases (record { fields = fs; choice = C; rest = rest })) (with_case b ds fs c)) C ≡ Some r → Deep r
  more_deep b ds fs None rest r d k e = cc
  more_deep b ds fs (Some c) rest r d k e =
      let old : RecordParts = record { fields = fs; choice = Some c; rest = rest } in
      let m = mapped (with_cases old) (with_case b ds fs c) r e in
      let s = so (not (has b c.1) && (can_be_case ds fs c && can_be_settled c.2 ds)) (c.0, put b (put_all ds []) c.1, c.2) m.0 m.1 in
      let case_is = s.0 in
      let clear : list_all (λ (f : Field). is_clear f.1.1) ds ≡ true = grind (arith, case_is) in
      subst Deep (ap (with_cases old) s.1 ∙ m.2) (d.0, cases_put b (put_all ds []) c.1 d.1 (fields_put_all ds [] (clear_fields ds clear k) tt))

  deep : (op : FieldOp) (scope : Scope) (p r : RecordParts) → IsRecord p.fields p.choice → Deep p → OpSound form op → new_by op scope p ≡ Some r → Deep r
  deep (retag a b) common p r i d k e = retag_deep a b p.fields p.choice p.rest r d e
  deep (retag a b) (in_case l) p r i d k e = absurd (none_then (scoped (in_case l) p) r e)
  deep (add_case b gs) common p r i d k e = more_deep b gs p.fields p.choice p.rest r d k.1 e
  deep (add_case b gs) (in_case l) p r i d k e = absurd (none_then (scoped (in_case l) p) r e)
  deep op common p r i d k e = common_deep op p r i d k e
  deep op (in_case l) p r i d k e = case_deep op l p.fields p.choice p.rest r i d k e

  pub right_record : (f : FieldFn) (p r : RecordParts) → new_record f p ≡ Some r → IsRecord p.fields p.choice → OpSound form f.op → TemplateRight (record_of p) → TemplateRight (record_of r)
  right_record f p r e i o k =
      let d = deep f.op f.scope p r i (parts_in (fields_of p.fields) (choice_of p.choice) p.rest k) o e in
      of_parts (fields_of r.fields) (choice_of r.choice) r.rest d.0 d.1
