-- No function on the fields of a scope leads out of the form.
use Rattle.std.proofs.Common.{◌≡◌, ℕ, List, [], ◌∷◌, Bool, true, false, Option, Some, None, refl, sym, ap, subst, ◌∙◌}
use Rattle.std.specs.Prelude.{not, ◌&&◌, ◌||◌, option_map, option_and_then, unwrap_or, if◌then◌else◌}
use Rattle.std.specs.Map.{keys_of}
use Rattle.mig_model.specs.declared.form.Form.{Form}
use Rattle.mig_model.specs.declared.form.Form.TheVariants as F
use Rattle.mig_model.specs.declared.kind.Kind.{Kind}
use Rattle.mig_model.specs.declared.kind.Kind.TheVariants as K
use Rattle.mig_model.specs.declared.presence.Presence.{Presence}
use Rattle.mig_model.specs.declared.presence.Presence.TheVariants.{Must, May}
use Rattle.mig_model.specs.declared.rest.Rest.{Rest}
use Rattle.mig_model.specs.Plain as plain
use Rattle.mig_model.specs.Plain.{Plain, no_tree, tree, Pairs, no_pair, pair, pairs_of, entries}
use Rattle.mig_model.specs.Kinds.{kind_of}
use Rattle.mig_model.specs.Names.{Ascends, same_name, is_among, under, has, without, put, those, moved}
use Rattle.mig_model.specs.Const.{const_tree, const_kind}
use Rattle.mig_model.specs.Fields.{if_so}
use Rattle.mig_model.specs.Leaf.{LeafFn, leaf_out, leaf_value}
use Rattle.mig_model.specs.Template.{Template, leaf, any, sum, rec, Field, fields_of, field_list, cases_of, no_choice, is_leaf, is_of_form, is_must}
use Rattle.mig_model.specs.Family.{any_inside, any_in_fields, any_in_choice, any_in_cases, is_wrong_leaf}
use Rattle.mig_model.specs.Inhabits.{Entries, Fits, EachEntry, is_in_form, entries_in_form}
use Rattle.mig_model.proofs.Bools.{split_and, split_or, both_true}
use Rattle.mig_model.proofs.SameNames.{same_name_itself}
use Rattle.mig_leaf.proofs.KindOut.{const_has_kind}
use Rattle.mig_model.specs.Record as template
use Rattle.mig_model.specs.Record.{RecordParts, choice_of, record_of}
use Rattle.mig_fold.proofs.Treats.{Treatment}
use Rattle.mig_field.specs.FieldFn.{Fill, constant, empty_list, fill_template, fill_tree, FieldOp, rename, drop, add, learn, forget, default, maybe, map_leaf, nest, unnest, wrap, unify}
use Rattle.mig_field.specs.NewRecord.{Scoped, FieldType, filled, learned, leaf_after, leaf_of_both, common_kind, with_template, at_field, inner_fields, unnest_slot, new_fields}
use Rattle.mig_field.specs.SameTemplate.{same_template}
use Rattle.mig_field.specs.Act.{edit, is_learned, left_kind, unified, pairs_in, inner_names}
use Rattle.mig_model.proofs.Edits.{first, found_in, under-put, under-those, ascends-those}
use Rattle.mig_action.proofs.Stands.{case_of}
use Rattle.mig_field.proofs.Same.{same_is}
use Rattle.mig_action.proofs.Ops.{FieldAt, at-field}
use Rattle.mig_action.proofs.Values.{so, mapped, then_some}
use Rattle.mig_field_laws.proofs.Places.{Stands, tagged, tag_place, place, each_under, under_each}
use Rattle.mig_field_laws.proofs.Scopes.{Scene, Step, stepped, EditAt, OneEdit, dropping, putting, changing, defaulting, learning, moving}
use Rattle.mig_field_laws.proofs.Nests.{nesting, unnesting}

-- each tree of the map is of the form
abbrev pub Formed : Form → Entries → Type 0
Formed form es = (n : List ℕ) (t : Plain) → under n es ≡ Some t → is_in_form form t ≡ true

formed_each : (form : Form) (ps : Pairs) → entries_in_form form ps ≡ true → EachEntry (λ n t. is_in_form form t ≡ true) (entries ps)
formed_each form no_pair e = tt
formed_each form (pair n t ps) e = let both = split_and (is_in_form form t) (entries_in_form form ps) e in (both.0, formed_each form ps both.1)

pub formed : (form : Form) (ps : Pairs) → entries_in_form form ps ≡ true → Formed form (entries ps)
formed form ps e = each_under (λ n t. is_in_form form t ≡ true) (entries ps) (formed_each form ps e)

each_formed : (form : Form) (es : Entries) → EachEntry (λ n t. is_in_form form t ≡ true) es → entries_in_form form (pairs_of es) ≡ true
each_formed form [] k = refl
each_formed form (e ∷ es) k = both_true (is_in_form form e.1) (entries_in_form form (pairs_of es)) k.0 (each_formed form es k.1)

pub all_formed : (form : Form) (es : Entries) → Ascends es → Formed form es → entries_in_form form (pairs_of es) ≡ true
all_formed form es a m = each_formed form es (under_each (λ n t. is_in_form form t ≡ true) es a m)

-- ---- single trees
-- a tree of a leaf kind of the form
pub leaf_formed : (form : Form) (k : Kind) (t : Plain) → is_wrong_leaf form (leaf k) ≡ false → kind_of t ≡ k → is_in_form form t ≡ true
leaf_formed form k t r e = by t (subst (λ j. (is_leaf j && is_of_form form j) ≡ true) (sym e) (right (is_leaf k && is_of_form form k) r))
  where
    right : (b : Bool) → not b ≡ false → b ≡ true
    right true q = refl
    right false q = cc

    by : (t : Plain) → (is_leaf (kind_of t) && is_of_form form (kind_of t)) ≡ true → is_in_form form t ≡ true
    by (plain.list ts) q = cc
    by (plain.map ps) q = cc
    by t q = q

fill_formed : (form : Form) (c : Fill) → is_wrong_leaf form (fill_template c) ≡ false → is_in_form form (fill_tree c) ≡ true
fill_formed form (constant c) r = leaf_formed form (const_kind c) (const_tree c) r (const_has_kind c)
fill_formed F.Nbt (empty_list V) r = refl
fill_formed F.Json (empty_list V) r = refl

wrapped_formed : (form : Form) (t : Plain) → is_in_form form t ≡ true → is_in_form form (plain.list (tree t no_tree)) ≡ true
wrapped_formed F.Nbt t k = both_true (is_in_form F.Nbt t) true k refl
wrapped_formed F.Json t k = both_true (is_in_form F.Json t) true k refl

-- what fits such a template is of the form, where the template isn't wrong
abbrev IsLeafy : Template → Type 0
IsLeafy (leaf k) = Unit {0}
IsLeafy any = Unit {0}
IsLeafy V = ⊥

leafy_formed : (form : Form) (P : List ℕ → Plain → Type 0) (V : Template) → IsLeafy V → is_wrong_leaf form V ≡ false → (t : Plain) → Fits form P V t → is_in_form form t ≡ true
leafy_formed form P (leaf k) l r t s = leaf_formed form k t r s
leafy_formed form P any l r t s = s
leafy_formed form P V l r t s = absurd l

learned_leafy : (k : Option Kind) → IsLeafy (learned k)
learned_leafy None = tt
learned_leafy (Some k) = tt

leaf_leafy : (f : LeafFn) (V W : Template) → leaf_after f V ≡ Some W → IsLeafy W
leaf_leafy f (leaf k) W e = let a = mapped (λ j. leaf j) (leaf_out f k) W e in subst IsLeafy a.2 tt
leaf_leafy f V W e = cc

both_leafy : (f g : LeafFn) (V W : Template) → leaf_of_both f g V ≡ Some W → IsLeafy W
both_leafy f g (sum (leaf a) (leaf b)) W e = let m = mapped (λ j. leaf j) (common_kind (leaf_out f a) (leaf_out g b)) W e in subst IsLeafy m.2 tt
both_leafy f g V W e = cc

-- ---- a record without wrong leaves
module _ (form : Form) where
  root_right : (V : Template) → any_inside (is_wrong_leaf form) V ≡ false → is_wrong_leaf form V ≡ false
  root_right (leaf k) e = e
  root_right V e = refl

  fields_right : (fs : List Field) → any_in_fields (is_wrong_leaf form) (fields_of fs) ≡ false → (n : List ℕ) (f : FieldType) → under n fs ≡ Some f → is_wrong_leaf form f.1 ≡ false
  fields_right fs e =
      found_in (λ (l : List Field). any_in_fields (is_wrong_leaf form) (fields_of l) ≡ false) (λ n (f : FieldType). is_wrong_leaf form f.1 ≡ false)
      (λ f l k. let both = split_or (any_inside (is_wrong_leaf form) f.1.1) (any_in_fields (is_wrong_leaf form) (fields_of l)) k in (root_right f.1.1 both.0, both.1)) fs e

  case_right : (cs : List template.Case) → any_in_cases (is_wrong_leaf form) (cases_of cs) ≡ false → (s : List ℕ) (ds : List Field) → under s cs ≡ Some ds
      → any_in_fields (is_wrong_leaf form) (fields_of ds) ≡ false
  case_right cs e =
      found_in (λ (l : List template.Case). any_in_cases (is_wrong_leaf form) (cases_of l) ≡ false) (λ s (ds : List Field). any_in_fields (is_wrong_leaf form) (fields_of ds) ≡ false)
      (λ c l k. split_or (any_in_fields (is_wrong_leaf form) (fields_of c.1)) (any_in_cases (is_wrong_leaf form) (cases_of l)) k) cs e

  text_right : (form : Form) → is_wrong_leaf form (leaf K.Text) ≡ false
  text_right F.Nbt = refl
  text_right F.Json = refl

  -- what a record has under a name is no wrong leaf
  abbrev pub RightPlaces : RecordParts → List ℕ → Type 0
  RightPlaces p s = (n : List ℕ) (f : FieldType) → place p s n ≡ Some f → is_wrong_leaf form f.1 ≡ false

  pub places_right : (p : RecordParts) → any_inside (is_wrong_leaf form) (record_of p) ≡ false → (s : List ℕ) → RightPlaces p s
  places_right p e s n f k = by p.choice parts.1 k
    where
      parts : (any_in_fields (is_wrong_leaf form) (fields_of p.fields) ≡ false) × (any_in_choice (is_wrong_leaf form) (choice_of p.choice) ≡ false)
      parts = split_or (any_in_fields (is_wrong_leaf form) (fields_of p.fields)) (any_in_choice (is_wrong_leaf form) (choice_of p.choice)) e

      behind : (F D : Option FieldType) → under n p.fields ≡ F → (D ≡ Some f → is_wrong_leaf form f.1 ≡ false) → first F D ≡ Some f → is_wrong_leaf form f.1 ≡ false
      behind None D q d x = d x
      behind (Some g) D q d x = fields_right p.fields parts.0 n f (q ∙ x)

      by : (c : Option template.Cases) → any_in_choice (is_wrong_leaf form) (choice_of c) ≡ false → first (tag_place c n) (first (under n p.fields) (under n (case_of c (tagged s)))) ≡ Some f
          → is_wrong_leaf form f.1 ≡ false
      by None q x = behind (under n p.fields) None refl (λ d. cc) x
      by (Some c) q x = one (same_name n c.0) x
        where
          cased : (C : Option (List Field)) → under s c.1 ≡ C → under n (unwrap_or C []) ≡ Some f → is_wrong_leaf form f.1 ≡ false
          cased None y z = cc
          cased (Some ds) y z = fields_right ds (case_right c.1 q s ds y) n f z

          one : (b : Bool) → first (if_so b (Must, leaf K.Text)) (first (under n p.fields) (under n (case_of (Some c) (tagged s)))) ≡ Some f → is_wrong_leaf form f.1 ≡ false
          one true z = let same : ◌≡◌ {A = FieldType} (Must, leaf K.Text) f = cc in subst (λ (g : FieldType). is_wrong_leaf form g.1 ≡ false) same (text_right form)
          one false z = behind (under n p.fields) (under n (case_of (Some c) (tagged s))) refl (cased (under s c.1) refl) z

pub text_formed : (form : Form) (l : List ℕ) → is_in_form form (plain.text l) ≡ true
text_formed F.Nbt l = refl
text_formed F.Json l = refl

-- ---- the functions
module _ (form : Form) (P : List ℕ → Plain → Type 0) (w : Bool) (h : Treatment) (o : Bool) (other : List ℕ → Option FieldType) (s : Scoped) (es ts : Entries) (c : Scene form P w h o other s es ts)
    (y : w ≡ true) (old : Formed form es) where
  -- no leaf of the fields is wrong
  abbrev pub Right : List Field → Type 0
  Right gs = (n : List ℕ) (f : FieldType) → under n gs ≡ Some f → is_wrong_leaf form f.1 ≡ false

  abbrev Is : FieldOp → List Field → Type 0
  Is op gs = Step form P w h o other s es ts c (edit op s.fields) gs → Right gs → Formed form (edit op s.fields es)

  edited : (at : List ℕ → Bool) (E : Entries → Entries) (T : List ℕ → Entries → Option Plain) → EditAt at E T → ((n : List ℕ) (t : Plain) → T n es ≡ Some t → is_in_form form t ≡ true)
      → Formed form (E es)
  edited at E T d k n t e = by (at n) (sym (d.is es c.ascend n) ∙ e)
    where
      by : (b : Bool) → (if b then T n es else under n es) ≡ Some t → is_in_form form t ≡ true
      by true q = k n t q
      by false q = old n t q

  made : (b : Bool) (fs gs : List Field) (op : FieldOp) → if_so b fs ≡ Some gs → (b ≡ true → Is op fs) → Is op gs
  made b fs gs op e f = let a = so b fs gs e in subst (Is op) a.1 (f a.0)

  made_at : (x : List ℕ) (f : FieldType → Option FieldType) (gs : List Field) (op : FieldOp) → at_field x f s.fields ≡ Some gs → ((a : FieldAt x f s.fields gs) → Is op (put x a.new s.fields))
      → Is op gs
  made_at x f gs op e g = let a = at-field x f s.fields gs e in subst (Is op) a.gives (g a)

  there : (x : List ℕ) (f : FieldType) → under x (put x f s.fields) ≡ Some f
  there x f = under-put x f s.fields x ∙ ap (λ b. if b then Some f else under x s.fields) (same_name_itself x)

  -- a leaf, or any tree, is put in one field
  leafy : (x : List ℕ) (f : FieldType) (op : FieldOp) (T : Option Plain → Option Plain) → OneEdit x (edit op s.fields) T → IsLeafy f.1 → Is op (put x f s.fields)
  leafy x f op T d l step r = edited (λ n. same_name n x) (edit op s.fields) (λ n es. T (under x es)) d (λ n t e. at t e)
    where
      at : (t : Plain) → T (under x es) ≡ Some t → is_in_form form t ≡ true
      at t e =
          let now : under x (edit op s.fields es) ≡ Some t = d.is es c.ascend x ∙ (ap (λ b. if b then T (under x es) else under x es) (same_name_itself x) ∙ e) in
          let stands = (stepped form P w h o other s es ts c (edit op s.fields) (put x f s.fields) step x).0 y in
          leafy_formed form P f.1 l (r x f (there x f)) t
          (subst (λ (u : Option Plain). Stands form P o (Some f) u) now (subst (λ (G : Option FieldType). Stands form P o (first G (other x)) (under x (edit op s.fields es))) (there x f) stands))

  pub op_formed : (r : Rest) (op : FieldOp) (gs : List Field) → new_fields op r s ≡ Some gs → Is op gs
  op_formed r (rename x z) gs e step right = edited (λ n. same_name n z || same_name n x) (moved x z) (λ n es. if same_name n z then under x es else None) (moving x z)
      (λ n t q. by (same_name n z) t q)
    where
      by : (b : Bool) (t : Plain) → (if b then under x es else None) ≡ Some t → is_in_form form t ≡ true
      by true t q = old x t q
      by false t q = cc
  op_formed r (drop x) gs e step right = edited (λ n. same_name n x) (without x) (λ n es. None) (dropping x) (λ n t q. cc)
  op_formed r (add x g) gs e step right = made _ _ gs (add x g) e (λ b step right. edited (λ n. same_name n x) (edit (add x g) s.fields) (λ n es. Some (fill_tree g)) (putting x (fill_tree g))
      (λ n t q. let same : fill_tree g ≡ t = cc in subst (λ u. is_in_form form u ≡ true) same (fill_formed form g (right x (Must, fill_template g) (there x (Must, fill_template g)))))) step right
  op_formed r (learn x k) gs e step right = made _ _ gs (learn x k) e
      (λ b. leafy x (May, learned k) (learn x k) (λ u. if is_learned k u then u else None) (learning x k) (learned_leafy k)) step right
  op_formed r (forget x) gs e step right = old
  op_formed r (default x g) gs e step right = made_at x (filled g) gs (default x g) e
      (λ f step right. edited (λ n. same_name n x) (edit (default x g) s.fields) (λ n es. first (under x es) (Some (fill_tree g))) (defaulting x (fill_tree g))
      (λ n t q. by (under x es) refl t q (fill_formed form g (right_fill f.old f.new f.becomes (right x f.new (there x f.new)))))) step right
    where
      right_fill : (o n : FieldType) → filled g o ≡ Some n → is_wrong_leaf form n.1 ≡ false → is_wrong_leaf form (fill_template g) ≡ false
      right_fill o n k q =
          let a = so (not (is_must o.0) && same_template o.1 (fill_template g)) (Must, o.1) n k in
          let b = split_and (not (is_must o.0)) (same_template o.1 (fill_template g)) a.0 in
          subst (λ V. is_wrong_leaf form V ≡ false) (same_is o.1 (fill_template g) b.1) (subst (λ (z : FieldType). is_wrong_leaf form z.1 ≡ false) (sym a.1) q)

      by : (u : Option Plain) → under x es ≡ u → (t : Plain) → first u (Some (fill_tree g)) ≡ Some t → is_in_form form (fill_tree g) ≡ true → is_in_form form t ≡ true
      by None k t q i = let same : fill_tree g ≡ t = cc in subst (λ u. is_in_form form u ≡ true) same i
      by (Some z) k t q i = old x t (k ∙ q)
  op_formed r (maybe x) gs e step right = old
  op_formed r (map_leaf x g) gs e step right = made_at x (with_template (leaf_after g)) gs (map_leaf x g) e
      (λ f. let a = mapped (λ (W : Template). (f.old.0, W)) (leaf_after g f.old.1) f.new f.becomes in
      leafy x f.new (map_leaf x g) (option_map (leaf_value g)) (changing x (leaf_value g)) (subst (λ (z : FieldType). IsLeafy z.1) a.2 (leaf_leafy g f.old.1 a.0 a.1))) step right
  op_formed r (wrap x) gs e step right = edited (λ n. same_name n x) (edit (wrap x) s.fields) (λ n es. option_map (λ t. plain.list (tree t no_tree)) (under x es))
      (changing x (λ t. plain.list (tree t no_tree)))
      (λ n t q. let a = mapped (λ t. plain.list (tree t no_tree)) (under x es) t q in subst (λ u. is_in_form form u ≡ true) a.2 (wrapped_formed form a.0 (old x a.0 a.1)))
  op_formed r (unify x f g) gs e step right = made_at x (with_template (leaf_of_both f g)) gs (unify x f g) e
      (λ k. let a = mapped (λ (W : Template). (k.old.0, W)) (leaf_of_both f g k.old.1) k.new k.becomes in
      leafy x k.new (unify x f g) (option_map (unified f g (left_kind (under x s.fields)))) (changing x (unified f g (left_kind (under x s.fields))))
      (subst (λ (z : FieldType). IsLeafy z.1) a.2 (both_leafy f g k.old.1 a.0 a.1))) step right
  op_formed r (nest xs z) gs e step right = edited (λ n. same_name n z || is_among xs n) (edit (nest xs z) s.fields)
      (λ n es. if same_name n z then Some (plain.map (pairs_of (those xs es))) else None) (nesting xs z) (λ n t q. by (same_name n z) t q)
    where
      some : Formed form (those xs es)
      some n t q = one (is_among xs n) (sym (under-those xs es n) ∙ q)
        where
          one : (b : Bool) → (if b then under n es else None) ≡ Some t → is_in_form form t ≡ true
          one true k = old n t k
          one false k = cc

      by : (b : Bool) (t : Plain) → (if b then Some (plain.map (pairs_of (those xs es))) else None) ≡ Some t → is_in_form form t ≡ true
      by true t q = let same : plain.map (pairs_of (those xs es)) ≡ t = cc in subst (λ u. is_in_form form u ≡ true) same (all_formed form (those xs es) (ascends-those xs es c.ascend) some)
      by false t q = cc
  op_formed r (unnest z) gs e step right =
      let a = then_some (λ (f : FieldType). option_and_then (unnest_slot z s f.0) (inner_fields f.1)) (under z s.fields) gs e in
      by a.0.0 a.0.1 a.1 a.2
    where
      inside : (n : List ℕ) (t : Plain) (u : Option Plain) → under z es ≡ u → under n (pairs_in u) ≡ Some t → is_in_form form t ≡ true
      inside n t (Some (plain.map ps)) k q = formed form ps (old z (plain.map ps) k) n t q
      inside n t u k q = cc

      at : (gf : List Field) → inner_names (under z s.fields) ≡ keys_of gf → Formed form (edit (unnest z) s.fields es)
      at gf names = edited (λ n. same_name n z || has n gf) (edit (unnest z) s.fields) (λ n es. if has n gf then under n (pairs_in (under z es)) else None) (unnesting z s.fields gf names)
          (λ n t q. some n t (has n gf) q)
        where
          some : (n : List ℕ) (t : Plain) (b : Bool) → (if b then under n (pairs_in (under z es)) else None) ≡ Some t → is_in_form form t ≡ true
          some n t true q = inside n t (under z es) refl q
          some n t false q = cc

      by : (q : Presence) (V : Template) → under z s.fields ≡ Some (q, V) → option_and_then (unnest_slot z s q) (inner_fields V) ≡ Some gs → Formed form (edit (unnest z) s.fields es)
      by q (rec gf no_choice p) k m = at (field_list gf) (ap inner_names k)
      by q V k m = cc
  op_formed r op gs e step right = cc
