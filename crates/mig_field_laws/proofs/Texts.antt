-- No function makes a name or a text that doesn't pass, where those that it is made of do.
use Rattle.std.proofs.Common.{◌≡◌, ℕ, ℤ, List, [], ◌∷◌, Bool, true, false, cond, Option, Some, None, ◌⊎◌, inl, inr, refl, sym, ap, subst, ◌∙◌, pos, arith}
use Rattle.std.specs.Prelude.{not, ◌&&◌, ◌+ℤ◌, ◌*ℤ◌, FitsSigned, option_map, unwrap_or, find, bytes_eq, if◌then◌else◌}
use Rattle.std.specs.Bool.{then_some}
use Rattle.std.specs.List.{list_all, filter}
use Rattle.std.specs.Int.{w64}
use Rattle.std.specs.Fmt.{signed_decimal}
use Rattle.std.specs.Str.Parse.{signed_digits_value}
use Rattle.std.specs.Map.{keys_of}
use Rattle.std.proofs.lemmas.Int.{ints, clamps}
use Rattle.std.proofs.lemmas.Option.{same_Some}
use Rattle.std.proofs.lemmas.Slice.Eq.{bytes_eq-Decides}
use Rattle.mig_model.specs.declared.kind.Kind.{Kind}
use Rattle.mig_model.specs.declared.kind.Kind.TheVariants as K
use Rattle.mig_model.specs.Plain as plain
use Rattle.mig_model.specs.Plain.{Plain, no_tree, tree, Pairs, no_pair, pair, pairs_of, entries}
use Rattle.mig_model.specs.Kinds.{kind_of}
use Rattle.mig_model.specs.Const.{Const, const_tree, const_kind}
use Rattle.mig_model.specs.Leaf as fn
use Rattle.mig_model.specs.Leaf.{LeafFn, is_in, least, greatest, clamp, clamped, number_tree, number_of, text_of, shown, spells, spelled, read_or, looked_up, leaf_value}
use Rattle.mig_model.specs.Names.{Ascends, same_name, is_among, under, has, without, put, bring, put_all, moved, those, others, changed}
use Rattle.mig_model.specs.Inhabits.{Entries, EachEntry, is_text, has_tag}
use Rattle.mig_model.specs.Fields.{if_so}
use Rattle.mig_model.specs.Template.{leaf, Field, same_kind, is_must, is_open}
use Rattle.mig_model.specs.Record.{RecordParts, Cases, found_case}
use Rattle.mig_field.specs.FieldFn.{Scope, common, in_case, fill_tree, zero, FieldOp, rename, drop, add, learn, forget, default, maybe, map_leaf, nest, unnest, wrap, unify, retag, add_case}
use Rattle.mig_field.specs.NewRecord.{FieldType, fields_of_case}
use Rattle.mig_field.specs.Act.{edit, is_learned, pairs_in, inner_names, left_kind, unified, settled_tree, by_field, where_closed, settle, with_tag, with_new_case, edit_case, act_by, act}
use Rattle.mig_model.proofs.Bools.{split_and, both_true}
use Rattle.mig_model.proofs.Edits.{first, under-put, under-without, under-filter, under-put_all, under-changed, under-moved, ascends-those, ascends-others}
use Rattle.mig_model.proofs.SameNames.{same_name_is}
use Rattle.mig_field_laws.proofs.Places.{each_under, under_each}
use Rattle.mig_field_laws.specs.Texts.{TextTest, texts_pass, entry_texts_pass, IsClosed, LeafPasses, OpPasses, CaseNamesPass, TextsStay}
use Rattle.mig_field_laws.proofs.Ascending.{act_ascends}

module _ (q : TextTest) (closed : IsClosed q) where
  -- ---- numbers
  number_passes : (k : Kind) (z : ℤ) → q (signed_decimal z) ≡ true → texts_pass q (number_tree k z) ≡ true
  number_passes K.Byte z e = e
  number_passes K.Short z e = e
  number_passes K.Int z e = e
  number_passes K.Long z e = e
  number_passes k z e = e

  clamped_fits : (k : Kind) (z : ℤ) → FitsSigned w64 (clamp (least k) (greatest k) z)
  clamped_fits K.Byte z = record { sfits = grind (arith, ints, clamps) }
  clamped_fits K.Short z = record { sfits = grind (arith, ints, clamps) }
  clamped_fits K.Int z = record { sfits = grind (arith, ints, clamps) }
  clamped_fits k z = record { sfits = grind (arith, ints, clamps) }

  clamped_passes : (k : Kind) (z : ℤ) → texts_pass q (clamped k z) ≡ true
  clamped_passes k z = number_passes k (clamp (least k) (greatest k) z) (closed.number (clamp (least k) (greatest k) z) (clamped_fits k z))

  no_number : q (signed_decimal (pos 0)) ≡ true
  no_number = closed.number (pos 0) (record { sfits = omega arith })

  -- ---- what a tree shows
  number_shown : (t : Plain) → texts_pass q t ≡ true → q (signed_decimal (number_of t)) ≡ true
  number_shown (plain.byte z) e = e
  number_shown (plain.short z) e = e
  number_shown (plain.int z) e = e
  number_shown (plain.long z) e = e
  number_shown (plain.whole z) e = e
  number_shown t e = no_number

  text_shown : (t : Plain) → texts_pass q t ≡ true → q (text_of t) ≡ true
  text_shown (plain.text s) e = e
  text_shown t e = closed.empty

  shown_passes : (t : Plain) → texts_pass q t ≡ true → q (shown t) ≡ true
  shown_passes (plain.list ts) e = no_number
  shown_passes (plain.map ps) e = no_number
  shown_passes t e = e

  -- ---- leaf functions
  found_passes : (ps : List (List ℕ × List ℕ)) (s : List ℕ) → list_all (λ p. q p.1) ps ≡ true → q s ≡ true → q (unwrap_or (looked_up ps s) s) ≡ true
  found_passes [] s k e = e
  found_passes (p ∷ ps) s k e = let both = split_and (q p.1) (list_all (λ r. q r.1) ps) k in by both.0 (found_passes ps s both.1 e) (bytes_eq p.0 s)
    where
      by : q p.1 ≡ true → q (unwrap_or (looked_up ps s) s) ≡ true → (b : Bool) → q (unwrap_or (option_map (λ (r : List ℕ × List ℕ). r.1) (cond b (Some p) (find (λ r. bytes_eq r.0 s) ps))) s) ≡ true
      by here behind true = here
      by here behind false = behind

  read_passes : (c : Const) (s : List ℕ) → texts_pass q (const_tree c) ≡ true → q s ≡ true → texts_pass q (read_or c s) ≡ true
  read_passes c s k e = by (spells (const_kind c) s z) refl
    where
      z : ℤ
      z = signed_digits_value 10 s

      by : (b : Bool) → spells (const_kind c) s z ≡ b → texts_pass q (unwrap_or (option_map (number_tree (const_kind c)) (then_some b z)) (const_tree c)) ≡ true
      by true h =
          let same : s ≡ signed_decimal z = (bytes_eq-Decides s (signed_decimal z)).0 (split_and (bytes_eq s (signed_decimal z)) (is_in (const_kind c) z) h).0 in
          number_passes (const_kind c) z (subst (λ l. q l ≡ true) same e)
      by false h = k

  clamp_is : (low high z : ℤ) → (clamp low high z ≡ low) ⊎ ((clamp low high z ≡ high) ⊎ (clamp low high z ≡ z))
  clamp_is low high z = grind (arith, ints, clamps)

  between_passes : (low high z : ℤ) → q (signed_decimal low) ≡ true → q (signed_decimal high) ≡ true → q (signed_decimal z) ≡ true → q (signed_decimal (clamp low high z)) ≡ true
  between_passes low high z a b e = by (clamp_is low high z)
    where
      by : (clamp low high z ≡ low) ⊎ ((clamp low high z ≡ high) ⊎ (clamp low high z ≡ z)) → q (signed_decimal (clamp low high z)) ≡ true
      by (inl h) = ap (λ y. q (signed_decimal y)) h ∙ a
      by (inr (inl h)) = ap (λ y. q (signed_decimal y)) h ∙ b
      by (inr (inr h)) = ap (λ y. q (signed_decimal y)) h ∙ e

  leaf_passes : (f : LeafFn) → LeafPasses q f → (t : Plain) → texts_pass q t ≡ true → texts_pass q (leaf_value f t) ≡ true
  leaf_passes (fn.constant c) k t e = k
  leaf_passes (fn.plus n) k t e = clamped_passes (kind_of t) (number_of t +ℤ n)
  leaf_passes (fn.times n) k t e = clamped_passes (kind_of t) (number_of t *ℤ n)
  leaf_passes (fn.clamp_to low high) k t e = number_passes (kind_of t) (clamp low high (number_of t)) (between_passes low high (number_of t) k.0 k.1 (number_shown t e))
  leaf_passes (fn.to_kind j) k t e = clamped_passes j (number_of t)
  leaf_passes fn.to_text k t e = shown_passes t e
  leaf_passes (fn.of_text c) k t e = read_passes c (text_of t) k (text_shown t e)
  leaf_passes (fn.table ps) k t e = found_passes ps (text_of t) k (text_shown t e)
  leaf_passes (fn.prefix p) k t e = closed.prefix p (text_of t) k (text_shown t e)
  leaf_passes (fn.strip p) k t e = closed.strip p (text_of t) k (text_shown t e)
  leaf_passes fn.lower k t e = closed.lower (text_of t) (text_shown t e)

  -- ---- the pairs of a map
  abbrev Passing : List ℕ → Plain → Type 0
  Passing n t = (q n ≡ true) × (texts_pass q t ≡ true)

  -- each name and each tree passes
  abbrev AllPass : Entries → Type 0
  AllPass es = (n : List ℕ) (t : Plain) → under n es ≡ Some t → Passing n t

  each_passes : (ps : Pairs) → entry_texts_pass q ps ≡ true → EachEntry Passing (entries ps)
  each_passes no_pair e = tt
  each_passes (pair n t ps) e =
      let name = split_and (q n) (texts_pass q t && entry_texts_pass q ps) e in
      let rest = split_and (texts_pass q t) (entry_texts_pass q ps) name.1 in
      ((name.0, rest.0), each_passes ps rest.1)

  all_pass : (ps : Pairs) → entry_texts_pass q ps ≡ true → AllPass (entries ps)
  all_pass ps e = each_under Passing (entries ps) (each_passes ps e)

  passes_each : (es : Entries) → EachEntry Passing es → entry_texts_pass q (pairs_of es) ≡ true
  passes_each [] k = refl
  passes_each (e ∷ es) k = both_true (q e.0) (texts_pass q e.1 && entry_texts_pass q (pairs_of es)) k.0.0 (both_true (texts_pass q e.1) (entry_texts_pass q (pairs_of es)) k.0.1 (passes_each es k.1))

  map_passes : (es : Entries) → Ascends es → AllPass es → texts_pass q (plain.map (pairs_of es)) ≡ true
  map_passes es a k = passes_each es (under_each Passing es a k)

  put_passes : (x : List ℕ) (a : Plain) (es : Entries) → q x ≡ true → texts_pass q a ≡ true → AllPass es → AllPass (put x a es)
  put_passes x a es e d k n t h = let here = under-put x a es n in let more = k n t in grind (arith, here, more, same_name_is n x)

  without_passes : (x : List ℕ) (es : Entries) → Ascends es → AllPass es → AllPass (without x es)
  without_passes x es a k n t h = let here = under-without x es n a in let more = k n t in grind (arith, here, more)

  filter_passes : (p : List ℕ → Bool) (es : Entries) → AllPass es → AllPass (filter (λ e. p e.0) es)
  filter_passes p es k n t h = let here = under-filter p es n in let more = k n t in grind (arith, here, more)

  put_all_passes : (ns es : Entries) → AllPass ns → AllPass es → AllPass (put_all ns es)
  put_all_passes ns es j k n t h = by (under n ns) refl (sym (under-put_all ns es n) ∙ h)
    where
      by : (o : Option Plain) → under n ns ≡ o → first o (under n es) ≡ Some t → Passing n t
      by None e f = k n t f
      by (Some u) e f = j n t (e ∙ f)

  bring_passes : (x : List ℕ) (o : Option Plain) (es : Entries) → q x ≡ true → ((t : Plain) → o ≡ Some t → texts_pass q t ≡ true) → AllPass es → AllPass (bring x o es)
  bring_passes x None es e d k = k
  bring_passes x (Some a) es e d k = put_passes x a es e (d a refl) k

  changed_passes : (x : List ℕ) (f : Plain → Plain) (es : Entries) → ((t : Plain) → texts_pass q t ≡ true → texts_pass q (f t) ≡ true) → AllPass es → AllPass (changed x f es)
  changed_passes x f es d k n t h = by (under n es) refl (sym (under-changed x f es n) ∙ h)
    where
      tree_of : (u : Plain) → texts_pass q u ≡ true → (b : Bool) → (if b then Some (f u) else Some u) ≡ Some t → texts_pass q t ≡ true
      tree_of u e true g = ap (texts_pass q) (sym (same_Some (f u) t g)) ∙ d u e
      tree_of u e false g = ap (texts_pass q) (sym (same_Some u t g)) ∙ e

      by : (o : Option Plain) → under n es ≡ o → (if same_name n x then option_map f o else o) ≡ Some t → Passing n t
      by None e g = absurd (grind (arith, g))
      by (Some u) e g = let here = k n u e in (here.0, tree_of u here.1 (same_name n x) g)

  moved_passes : (x y : List ℕ) (es : Entries) → Ascends es → q y ≡ true → AllPass es → AllPass (moved x y es)
  moved_passes x y es a e k n t h =
      let here = under-moved x y es n a in
      let other = k n t in
      let there = k x t in
      grind (arith, here, other, there, e, same_name_is n y)

  -- ---- the fields of a scope
  if_passes : (b : Bool) (xs ys : Entries) → AllPass xs → AllPass ys → AllPass (if b then xs else ys)
  if_passes true xs ys j k = j
  if_passes false xs ys j k = k

  inner_pass : (y : List ℕ) (es : Entries) → AllPass es → AllPass (pairs_in (under y es))
  inner_pass y es k = by (under y es) (λ t. k y t)
    where
      by : (o : Option Plain) → ((t : Plain) → o ≡ Some t → Passing y t) → AllPass (pairs_in o)
      by None d n t h = absurd (grind (arith, h))
      by (Some (plain.map ps)) d n t h = all_pass ps (d (plain.map ps) refl).1 n t h
      by (Some u) d n t h = absurd (grind (arith, h))

  unified_passes : (f g : LeafFn) → LeafPasses q f → LeafPasses q g → (a : Kind) (t : Plain) → texts_pass q t ≡ true → texts_pass q (unified f g a t) ≡ true
  unified_passes f g j k a t e = by (same_kind (kind_of t) a)
    where
      by : (b : Bool) → texts_pass q (if b then leaf_value f t else leaf_value g t) ≡ true
      by true = leaf_passes f j t e
      by false = leaf_passes g k t e

  edit_passes : (op : FieldOp) (fs : List Field) → OpPasses q op → (es : Entries) → Ascends es → AllPass es → AllPass (edit op fs es)
  edit_passes (rename x y) fs o es a k = moved_passes x y es a o k
  edit_passes (drop x) fs o es a k = without_passes x es a k
  edit_passes (add x c) fs o es a k = put_passes x (fill_tree c) (without x es) o.0 o.1 (without_passes x es a k)
  edit_passes (learn x j) fs o es a k = if_passes (is_learned j (under x es)) es (without x es) k (without_passes x es a k)
  edit_passes (forget x) fs o es a k = k
  edit_passes (default x c) fs o es a k = if_passes (has x es) es (put x (fill_tree c) es) k (put_passes x (fill_tree c) es o.0 o.1 k)
  edit_passes (maybe x) fs o es a k = k
  edit_passes (map_leaf x f) fs o es a k = changed_passes x (leaf_value f) es (leaf_passes f o) k
  edit_passes (nest xs y) fs o es a k =
      put_passes y (plain.map (pairs_of (those xs es))) (without y (others xs es)) o (map_passes (those xs es) (ascends-those xs es a) (filter_passes (is_among xs) es k))
      (without_passes y (others xs es) (ascends-others xs es a) (filter_passes (λ n. not (is_among xs n)) es k))
  edit_passes (unnest y) fs o es a k =
      let ns = inner_names (under y fs) in
      put_all_passes (those ns (pairs_in (under y es))) (others ns (without y es)) (filter_passes (is_among ns) (pairs_in (under y es)) (inner_pass y es k))
      (filter_passes (λ n. not (is_among ns n)) (without y es) (without_passes y es a k))
  edit_passes (wrap x) fs o es a k = changed_passes x (λ t. plain.list (tree t no_tree)) es (λ t e. both_true (texts_pass q t) true e refl) k
  edit_passes (unify x f g) fs o es a k = changed_passes x (unified f g (left_kind (under x fs))) es (unified_passes f g o.0 o.1 (left_kind (under x fs))) k
  edit_passes (retag a b) fs o es r k = k
  edit_passes (add_case b gs) fs o es a k = k

  -- ---- a map that is settled
  zero_passes : (k : Kind) → texts_pass q (const_tree (zero k)) ≡ true
  zero_passes K.Text = closed.empty
  zero_passes K.Bool = closed.truth false
  zero_passes k = no_number

  settled_passes : (f : FieldType) (o : Option Plain) → ((t : Plain) → o ≡ Some t → texts_pass q t ≡ true) → (t : Plain) → settled_tree f o ≡ Some t → texts_pass q t ≡ true
  settled_passes (p, leaf k) o d t h = by (is_learned (Some k) o) (is_must p) h
    where
      by : (b m : Bool) → (if b then o else if_so m (const_tree (zero k))) ≡ Some t → texts_pass q t ≡ true
      by true m e = d t e
      by false true e = ap (texts_pass q) (sym (same_Some (const_tree (zero k)) t e)) ∙ zero_passes k
      by false false e = absurd (let no : None ≡ Some t = e in cc)
  settled_passes f o d t h = d t h

  fields_pass : (fs : List Field) → list_all q (keys_of fs) ≡ true → (es : Entries) → AllPass es → AllPass (by_field settled_tree fs es)
  fields_pass [] e es k n t h = absurd (grind (arith, h))
  fields_pass (f ∷ fs) e es k n t h =
      let both = split_and (q f.0) (list_all q (keys_of fs)) e in
      bring_passes f.0 (settled_tree f.1 (under f.0 es)) (by_field settled_tree fs es) both.0 (settled_passes f.1 (under f.0 es) (λ u g. (k f.0 u g).1)) (fields_pass fs both.1 es k) n t h

  settle_passes : (fs : List Field) → list_all q (keys_of fs) ≡ true → (p : RecordParts) (tag : List ℕ) (es : Entries) → AllPass es → AllPass (settle fs p tag es)
  settle_passes fs e p tag es k =
      let names = tag ∷ keys_of p.fields in
      let beside = others (keys_of fs) es in
      let kept = filter_passes (λ n. not (is_among (keys_of fs) n)) es k in
      put_all_passes (by_field settled_tree fs es) (where_closed p.rest names beside) (fields_pass fs e es k) (if_passes (is_open p.rest) beside (those names beside) kept (filter_passes (is_among names) beside kept))

  -- ---- whole records
  tag_name_passes : (tag l : List ℕ) (es : Entries) → AllPass es → has_tag tag l es ≡ true → q tag ≡ true
  tag_name_passes tag l es k h = by (under tag es) refl h
    where
      by : (o : Option Plain) → under tag es ≡ o → is_text l o ≡ true → q tag ≡ true
      by (Some t) e g = (k tag t e).0
      by None e g = cc

  tag_passes : (a b : List ℕ) → q b ≡ true → (p : RecordParts) (c : Option Cases) → ((d : Cases) (l : List ℕ) → c ≡ Some d → list_all q (keys_of (fields_of_case l d)) ≡ true)
      → (es : Entries) → AllPass es → AllPass (with_tag a b p c es)
  tag_passes a b o p None m es k = k
  tag_passes a b o p (Some c) m es k = by (has_tag c.0 a es) refl
    where
      by : (x : Bool) → has_tag c.0 a es ≡ x → AllPass (if x then put c.0 (plain.text b) es else (if has_tag c.0 b es then settle (fields_of_case a c) p c.0 es else es))
      by true e = put_passes c.0 (plain.text b) es (tag_name_passes c.0 a es k e) o k
      by false e = if_passes (has_tag c.0 b es) (settle (fields_of_case a c) p c.0 es) es (settle_passes (fields_of_case a c) (m c a refl) p c.0 es k) k

  new_case_passes : (b : List ℕ) (fs : List Field) → list_all q (keys_of fs) ≡ true → (p : RecordParts) (c : Option Cases) (es : Entries) → AllPass es → AllPass (with_new_case b fs p c es)
  new_case_passes b fs o p None es k = k
  new_case_passes b fs o p (Some c) es k = if_passes (has_tag c.0 b es) (settle fs p c.0 es) es (settle_passes fs o p c.0 es k) k

  case_passes : (op : FieldOp) → OpPasses q op → (l : List ℕ) (p : RecordParts) (c : Option Cases) (es : Entries) → Ascends es → AllPass es → AllPass (edit_case op l p c es)
  case_passes op o l p None es a k = k
  case_passes op o l p (Some c) es a k =
      let fs = unwrap_or (found_case l (Some c)) [] in
      if_passes (has_tag c.0 l es) (edit op fs es) es (edit_passes op fs o es a k) k

  by_passes : (op : FieldOp) → OpPasses q op → (scope : Scope) (p : RecordParts) → CaseNamesPass q p → (es : Entries) → Ascends es → AllPass es → AllPass (act_by op scope p es)
  by_passes (retag a b) o scope p m es r k = tag_passes a b o p p.choice m es k
  by_passes (add_case b fs) o scope p m es a k = new_case_passes b fs o p p.choice es k
  by_passes op o common p m es a k = edit_passes op p.fields o es a k
  by_passes op o (in_case l) p m es a k = case_passes op o l p p.choice es a k

pub texts_stay : TextsStay
texts_stay q closed f p o m (plain.map ps) a e =
    let es : Entries = entries ps in
    map_passes q closed (act f p es) (act_ascends f p es a) (by_passes q closed f.op o f.scope p m es a (all_pass q closed ps e))
texts_stay q closed f p o m t a e = absurd a
