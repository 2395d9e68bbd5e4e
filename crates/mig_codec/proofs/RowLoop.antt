-- The pairs of a map, read one after another.
use Rattle.std.proofs.Common.{◌≡◌, ℕ, List, [], ◌∷◌, ◌++◌, Bool, true, false, Option, Some, None, IsTrue, MatchBool, refl, sym, ap, ◌∙◌, subst, ◌+◌, append-nil, arith}
use Rattle.std.specs.Prelude.{if◌then◌else◌}
use Rattle.std.specs.List.{AllByRecursion}
use Rattle.std.specs.Map.{keys_of}
use Rattle.std.specs.declared.cmp.Ordering.TheVariants.{Less}
use Rattle.std.proofs.lemmas.Map.Keys.{sorted_head, sorted_tail}
use Rattle.mig_model.specs.Names.{by_bytes, Ascends, under, same_name}
use Rattle.std.proofs.lemmas.List.Elements.{filter-append}
use Rattle.mig_model.specs.declared.presence.Presence.{Presence}
use Rattle.mig_model.specs.Plain as plain
use Rattle.mig_model.specs.Plain.{Plain}
use Rattle.mig_model.specs.Inhabits.{Entries}
use Rattle.mig_model.specs.Template.{Template, Field, fields_of, is_open}
use Rattle.mig_model.specs.Family.{Family, body}
use Rattle.mig_model.specs.Place.{Place, Wrong, at_name, unless, wrong_entry, place}
use Rattle.mig_value.specs.Typed.{Typed, Slot, slots_of, out, out_slots, tag_pair}
use Rattle.mig_value.specs.Nodes.{Test, nodes, sum_entries}
use Rattle.mig_value.specs.Parts.{RecordParts}
use Rattle.mig_value.specs.Fit.{EachSlot, ValueFits, FieldsFit, FitAsRead, IsAtomOf}
use Rattle.mig_value.specs.View.{typed_of, slot_of}
use Rattle.mig_codec.specs.declared.pieces.Placed.{Placed}
use Rattle.mig_codec.specs.declared.pieces.Placed.TheVariants as P
use Rattle.mig_write.specs.Lists.{slot_nodes, record_nodes}
use Rattle.mig_codec.specs.Parted.{IsPlaced, added, wrong_pair, nodes_as, pair_nodes, is_tagged}
use Rattle.mig_row.specs.Row.{Row, Belongs, common, tagged, cased, unknown, belongs, is_tag, wrong_as}
use Rattle.mig_row.proofs.Belonging.{common_found, cased_found, tagged_found}
use Rattle.mig_codec.proofs.Gathered.{Gathered, those, is_common, is_cased, is_unknown}
use Rattle.mig_model.proofs.SameNames.{same_name_is}
use Rattle.mig_model.proofs.OneOrder.{not_itself}

abbrev found_if : Bool → Presence × Template → Option (Presence × Template) → Option (Presence × Template)
found_if b s o = if b then Some s else o

-- a value of a field's template is one of the fields
pub field_fits : (U : Typed → Type 0) (P : List ℕ → Typed → Type 0) (n : List ℕ) (fs : List Field) (q : Presence) (V : Template) (v : Typed) → under n fs ≡ Some (q, V) → ValueFits U P V v → FieldsFit U P (fields_of fs) n v
field_fits U P n [] q V v e s = absurd cc
field_fits U P n (g ∷ fs) q V v e s = by (same_name n g.0) e (λ e'. field_fits U P n fs q V v e' s)
  where
    by : (b : Bool) → found_if b g.1 (under n fs) ≡ Some (q, V) → (under n fs ≡ Some (q, V) → FieldsFit U P (fields_of fs) n v) → MatchBool b (ValueFits U P g.1.1 v) (FieldsFit U P (fields_of fs) n v)
    by true e' rest = let is : g.1 ≡ (q, V) = cc in subst (λ (r : Presence × Template). ValueFits U P r.1 v) (sym is) s
    by false e' rest = rest e'

-- slots, and one more
slots_more : (ss : List Slot) (s : Slot) → out_slots (slots_of (ss ++ s ∷ [])) ≡ out_slots (slots_of ss) ++ (s.0, out s.1) ∷ []
slots_more [] s = refl
slots_more (r ∷ ss) s = ap (λ l. (r.0, out r.1) ∷ l) (slots_more ss s)

each_more : (Q : List ℕ → Typed → Type 0) (ss : List Slot) (s : Slot) → EachSlot Q (slots_of ss) → Q s.0 s.1 → EachSlot Q (slots_of (ss ++ s ∷ []))
each_more Q [] s e q = (q, tt)
each_more Q (r ∷ ss) s e q = (e.0, each_more Q ss s e.1 q)

-- counted nodes, and one more
slot_nodes_more : (q : Test) (ss : List Slot) (s : Slot) → slot_nodes q (ss ++ s ∷ []) ≡ slot_nodes q ss + nodes q s.1
slot_nodes_more q [] s = omega arith
slot_nodes_more q (r ∷ ss) s = omega (arith, slot_nodes_more q ss s)

pub sum_append : (h : List ℕ → Plain → ℕ) (es ds : Entries) → sum_entries h (es ++ ds) ≡ sum_entries h es + sum_entries h ds
sum_append h [] ds = omega arith
sum_append h (e ∷ es) ds = omega (arith, sum_append h es ds)

-- pairs that are right, and one more
pub right_more : (w : List ℕ → Plain → Option Place) (es rest : Entries) (n : List ℕ) (t : Plain) → wrong_entry w es ≡ None → wrong_entry w (es ++ (n, t) ∷ rest) ≡ at_name n (w n t) (wrong_entry w rest)
right_more w [] rest n t h = refl
right_more w (e ∷ es) rest n t h = let both = parts (w e.0 e.1) (wrong_entry w es) h in (λ i. at_name e.0 (both.0 i) (wrong_entry w (es ++ (n, t) ∷ rest))) ∙ right_more w es rest n t both.1
  where
    parts : (a : Option Place) (b : Wrong) → at_name e.0 a b ≡ None → (a ≡ None) × (b ≡ None)
    parts None b e' = (refl, e')
    parts (Some p) b e' = absurd cc

-- a tag stands once
pub less_than : (es rest : Entries) (x n : List ℕ) (t : Plain) → AllByRecursion (λ y. by_bytes x y ≡ Less) (keys_of (es ++ (n, t) ∷ rest)) → by_bytes x n ≡ Less
less_than [] rest x n t h = h.0
less_than (e ∷ es) rest x n t h = less_than es rest x n t h.1

both_tags : (row : Row) (m n : List ℕ) → is_tag row.tag m ≡ true → is_tag row.tag n ≡ true → m ≡ n
both_tags row m n = by row.tag
  where
    by : (o : Option (List ℕ)) → is_tag o m ≡ true → is_tag o n ≡ true → m ≡ n
    by None a b = absurd cc
    by (Some tag) a b = same_name_is m tag a ∙ sym (same_name_is n tag b)

pub no_tag_before : (row : Row) (es rest : Entries) (n : List ℕ) (t : Plain) → Ascends (es ++ (n, t) ∷ rest) → belongs row n ≡ tagged → those is_tagged row es ≡ []
no_tag_before row [] rest n t s h = refl
no_tag_before row (e ∷ es) rest n t s h = by (belongs row e.0) refl (no_tag_before row es rest n t (sorted_tail by_bytes e.0 (keys_of (es ++ (n, t) ∷ rest)) s) h)
  where
    less : by_bytes e.0 n ≡ Less
    less = less_than es rest e.0 n t (sorted_head by_bytes e.0 (keys_of (es ++ (n, t) ∷ rest)) s)

    never : belongs row e.0 ≡ tagged → ⊥
    never is = not_itself n (subst (λ m. by_bytes m n ≡ Less) (both_tags row e.0 n (tagged_found row e.0 is) (tagged_found row n h)) less)

    by : (b : Belongs) → belongs row e.0 ≡ b → those is_tagged row es ≡ [] → (if is_tagged b then e ∷ those is_tagged row es else those is_tagged row es) ≡ []
    by (common V) is rest' = rest'
    by tagged is rest' = absurd (never is)
    by (cased V) is rest' = rest'
    by unknown is rest' = rest'

abbrev single : Bool → List ℕ × Plain → Entries
single b e = if b then e ∷ [] else []

module _ (f : Family) (row : Row) (es : Entries) (p : RecordParts) (g : Gathered f row es p) (n : List ℕ) (t : Plain) where
  abbrev more : Entries
  more = es ++ (n, t) ∷ []

  -- the pairs that belong so, and one more
  takes : (q : Belongs → Bool) (b : Belongs) → belongs row n ≡ b → q b ≡ true → (l : Entries) → l ≡ those q row es → l ++ (n, t) ∷ [] ≡ those q row more
  takes q b is so l e = (λ i. e i ++ single (sym (ap q is ∙ so) i) (n, t)) ∙ sym (filter-append (λ e. q (belongs row e.0)) es ((n, t) ∷ []))

  skips : (q : Belongs → Bool) (b : Belongs) → belongs row n ≡ b → q b ≡ false → (l : Entries) → l ≡ those q row es → l ≡ those q row more
  skips q b is other l e = e ∙ sym (append-nil (those q row es)) ∙ (λ i. those q row es ++ single (sym (ap q is ∙ other) i) (n, t)) ∙ sym (filter-append (λ e. q (belongs row e.0)) es ((n, t) ∷ []))

  right : (b : Belongs) → belongs row n ≡ b → wrong_as f.form (place f) row.rest b t ≡ None → wrong_entry (wrong_pair f row) more ≡ None
  right b is none = right_more (wrong_pair f row) es [] n t g.right ∙ ap (λ o. at_name n o None) (ap (λ c. wrong_as f.form (place f) row.rest c t) is ∙ none)

  slot_pair : (m : List ℕ) (v : Typed) → m ≡ n → out v ≡ t → ◌≡◌ {A = List ℕ × Plain} (m, out v) (n, t)
  slot_pair m v e h = λ i. (e i, h i)

  -- the slots of a list, with the pair behind
  slots_then : (ss : List Slot) (m : List ℕ) (v : Typed) → m ≡ n → out v ≡ t → out_slots (slots_of (ss ++ (m, v) ∷ [])) ≡ out_slots (slots_of ss) ++ (n, t) ∷ []
  slots_then ss m v e h = slots_more ss (m, v) ∙ ap (λ x. out_slots (slots_of ss) ++ x ∷ []) (slot_pair m v e h)

  -- what was counted before, and the nodes of one more value
  count_more : (q : Test) (b : Belongs) → belongs row n ≡ b → (k : ℕ) → k ≡ nodes_as f q b t → (all : ℕ) → all ≡ record_nodes q p + k → all ≡ sum_entries (pair_nodes f q row) more
  count_more q b is k e all h = omega (arith, h, g.counted q, e ∙ ap (λ c. nodes_as f q c t) (sym is), sum_append (pair_nodes f q row) es ((n, t) ∷ []))

  abbrev FieldsHere : List Field → (List ℕ → Typed → Type 0)
  FieldsHere fs = FieldsFit (IsAtomOf f.form) (FitAsRead f.form (body f)) (fields_of fs)

  -- one more pair that was read, where its name belongs
  pub one_more_pair : (rest : Entries) → Ascends (es ++ (n, t) ∷ rest) → (placed : Placed) → IsPlaced f row n t placed → Gathered f row more (added p placed)
  one_more_pair rest named (P.Field s) (V, is, name, read) =
      let found = common_found row n V is in
      record {
        right = right (common V) is read.right;
        fields = slots_then p.fields s.name (typed_of s.value) name read.tree ∙ takes is_common (common V) is refl (out_slots (slots_of p.fields)) g.fields;
        tag = skips is_tagged (common V) is refl (tag_pair p.tag) g.tag;
        cases = skips is_cased (common V) is refl (out_slots (slots_of p.cased)) g.cases;
        others = skips is_unknown (common V) is refl (out_slots (slots_of p.rest)) g.others;
        fields_fit = each_more (FieldsHere row.fields) p.fields (slot_of s) g.fields_fit (subst (λ m. FieldsHere row.fields m (typed_of s.value)) (sym name) (field_fits (IsAtomOf f.form) (FitAsRead f.form (body f)) n row.fields found.0 V (typed_of s.value) found.1 read.typed));
        cases_fit = g.cases_fit;
        others_fit = g.others_fit;
        counted = λ q. count_more q (common V) is (nodes q (typed_of s.value)) (read.counted q) (record_nodes q (added p (P.Field s))) (omega (arith, slot_nodes_more q p.fields (slot_of s)));
      }
  one_more_pair rest named (P.Tag m l) (is, name, text) =
      let none : those is_tagged row es ≡ [] = no_tag_before row es rest n t named is in
      let pair : ◌≡◌ {A = List ℕ × Plain} (m, plain.text l) (n, t) = λ i. (name i, sym text i) in
      record {
        right = right tagged is refl;
        fields = skips is_common tagged is refl (out_slots (slots_of p.fields)) g.fields;
        tag = ap (λ x. x ∷ []) pair ∙ takes is_tagged tagged is refl [] (sym none);
        cases = skips is_cased tagged is refl (out_slots (slots_of p.cased)) g.cases;
        others = skips is_unknown tagged is refl (out_slots (slots_of p.rest)) g.others;
        fields_fit = g.fields_fit;
        cases_fit = g.cases_fit;
        others_fit = g.others_fit;
        counted = λ q. count_more q tagged is 0 refl (record_nodes q p) (omega arith);
      }
  one_more_pair rest named (P.Cased s) (V, is, name, read) =
      let found = cased_found row n V is in
      record {
        right = right (cased V) is read.right;
        fields = skips is_common (cased V) is refl (out_slots (slots_of p.fields)) g.fields;
        tag = skips is_tagged (cased V) is refl (tag_pair p.tag) g.tag;
        cases = slots_then p.cased s.name (typed_of s.value) name read.tree ∙ takes is_cased (cased V) is refl (out_slots (slots_of p.cased)) g.cases;
        others = skips is_unknown (cased V) is refl (out_slots (slots_of p.rest)) g.others;
        fields_fit = g.fields_fit;
        cases_fit = each_more (FieldsHere row.cased) p.cased (slot_of s) g.cases_fit (subst (λ m. FieldsHere row.cased m (typed_of s.value)) (sym name) (field_fits (IsAtomOf f.form) (FitAsRead f.form (body f)) n row.cased found.0 V (typed_of s.value) found.1 read.typed));
        others_fit = g.others_fit;
        counted = λ q. count_more q (cased V) is (nodes q (typed_of s.value)) (read.counted q) (record_nodes q (added p (P.Cased s))) (omega (arith, slot_nodes_more q p.cased (slot_of s)));
      }
  one_more_pair rest named (P.Unknown s) (is, open', name, value, form) =
      record {
        right = right unknown is (none_wrong (is_open row.rest) open');
        fields = skips is_common unknown is refl (out_slots (slots_of p.fields)) g.fields;
        tag = skips is_tagged unknown is refl (tag_pair p.tag) g.tag;
        cases = skips is_cased unknown is refl (out_slots (slots_of p.cased)) g.cases;
        others = slots_then p.rest s.name (typed_of s.value) name (ap out value) ∙ takes is_unknown unknown is refl (out_slots (slots_of p.rest)) g.others;
        fields_fit = g.fields_fit;
        cases_fit = g.cases_fit;
        others_fit = each_more (λ m v. (belongs row m ≡ unknown) × IsTrue (is_open row.rest) × IsAtomOf f.form v) p.rest (slot_of s) g.others_fit (
          ap (belongs row) name ∙ is,
          open',
          subst (IsAtomOf f.form) (sym value) form,
        );
        counted = λ q. count_more q unknown is (nodes q (typed_of s.value)) (ap (nodes q) value) (record_nodes q (added p (P.Unknown s))) (omega (arith, slot_nodes_more q p.rest (slot_of s)));
      }
    where
      none_wrong : (b : Bool) → IsTrue b → unless b ≡ None
      none_wrong true h = refl
      none_wrong false h = absurd cc
