-- What was read of the parts, seen from the whole.
use Rattle.std.proofs.Common.{◌≡◌, ℕ, ◌+◌, List, [], ◌∷◌, ◌++◌, Bool, true, false, true≢false, Option, Some, None, refl, sym, ap, ◌∙◌, subst}
use Rattle.std.specs.Prelude.{unwrap_or, if◌then◌else◌}
use Rattle.std.specs.Ordering.{is_lt}
use Rattle.std.specs.Map.{keys_of}
use Rattle.std.specs.declared.cmp.Ordering.TheVariants.{Less}
use Rattle.std.proofs.lemmas.Map.Keys.{sorted_head, sorted_tail}
use Rattle.mig_model.specs.Plain as plain
use Rattle.mig_model.specs.Plain.{Plain, trees_of, pairs_of}
use Rattle.mig_model.specs.Kinds.{kind_of, items_of_trees}
use Rattle.mig_model.specs.Names.{by_bytes, Ascends, under, same_name}
use Rattle.mig_model.specs.Inhabits.{Entries}
use Rattle.mig_model.specs.Template.{Template, list, point, sum, any, has_kind}
use Rattle.mig_model.specs.Family.{Family, find_type, body, IsFormed}
use Rattle.mig_model.specs.Place.{Place, Wrong, named, sooner, place_under, at_name, wrong_item, wrong_entry, place}
use Rattle.mig_laws.proofs.Laws.{place_unfolds}
use Rattle.mig_laws.proofs.Reading.{wrong_left, wrong_right}
use Rattle.mig_model.specs.Record as parts
use Rattle.mig_value.specs.Typed as typed
use Rattle.mig_value.specs.Typed.{Typed, items_of}
use Rattle.mig_value.specs.Parts as values
use Rattle.mig_value.specs.Fit.{IsAtomOf}
use Rattle.mig_value.specs.Nodes.{count, sum_items}
use Rattle.mig_value.proofs.Fits.{fit_unfolds}
use Rattle.mig_codec.specs.Parted.{HasTag, TagAt, IsRowRead, wrong_pair, wrong_row, below_name}
use Rattle.mig_codec.specs.Reading.{AreRead, IsRead, IsNodeRead, IsTyped, wrong_part, part_nodes}
use Rattle.mig_row.specs.Row.{Row, tagged, belongs, is_tag, missing_in}
use Rattle.mig_row.specs.RowView.{earlier, or_first}
use Rattle.mig_row.proofs.Belonging.{tagged_found}
use Rattle.mig_codec.proofs.RowLoop.{right_more, less_than}
use Rattle.mig_codec.proofs.RowOf.{RowCase, wrong_as_row}
use Rattle.mig_codec.proofs.RowNodes.{row_nodes}
use Rattle.mig_codec.proofs.RowTyped.{row_typed}
use Rattle.mig_codec.proofs.Tally.{body_nodes}
use Rattle.mig_model.proofs.SameNames.{same_name_is, same_name_itself}
use Rattle.mig_model.proofs.OneOrder.{not_itself}

-- a list
pub list_stops : (f : Family) (V : Template) (ts : List Plain) → wrong_item (wrong_part f V) 0 ts ≡ wrong_part f (list V) (plain.list (trees_of ts))
list_stops f V ts = ap (wrong_item (wrong_part f V) 0) (sym (items_of_trees ts))

pub list_read : (f : Family) (V : Template) (ts : List Plain) (vs : List Typed) → AreRead f V ts vs → IsRead f (list V) (plain.list (trees_of ts)) (typed.list (items_of vs))
list_read f V ts vs r = record { right = sym (list_stops f V ts) ∙ r.right; typed = r.typed; tree = ap plain.list r.trees; counted = λ q. r.counted q ∙ ap (sum_items (part_nodes f q V)) (sym (items_of_trees ts)) }

-- a node
pub node_stops : (f : Family) → IsFormed f → (n : List ℕ) (V : Template) → find_type n f.types ≡ Some V → (t : Plain) → wrong_part f V t ≡ wrong_part f (point n) t
node_stops f formed n V e t = ap (λ o. wrong_part f (unwrap_or o any) t) (sym e) ∙ sym (place_unfolds f formed n t)

pub node_read : (f : Family) → IsFormed f → (n : List ℕ) (V : Template) → find_type n f.types ≡ Some V → (t : Plain) (v : Typed) → IsRead f V t v → IsNodeRead f n t (n, v)
node_read f formed n V e t v r = record {
  right = sym (node_stops f formed n V e t) ∙ r.right;
  name = refl;
  typed = (fit_unfolds (IsAtomOf f.form) (body f) n v).1 (subst (λ o. IsTyped f (unwrap_or o any) v) (sym e) r.typed);
  tree = r.tree;
  counted = λ q. r.counted q ∙ ap (λ o. part_nodes f q (unwrap_or o any) t) (sym e) ∙ sym (body_nodes f formed q n t);
}

pub point_read : (f : Family) (n : List ℕ) (t : Plain) (v : values.NodeParts) → IsNodeRead f n t v → IsRead f (point n) t (typed.point v.0 v.1)
point_read f n t v r = record { right = r.right; typed = (r.name, r.typed); tree = r.tree; counted = λ q i. count (q (r.name i)) + r.counted q i }

-- a sum
pub left_read : (f : Family) (V W : Template) (t : Plain) (v : Typed) → has_kind f.form V (kind_of t) ≡ true → IsRead f V t v → IsRead f (sum V W) t (typed.left v)
left_read f V W t v e r = record {
  right = wrong_left f.form (place f) V W t e ∙ r.right;
  typed = r.typed;
  tree = r.tree;
  counted = λ q. r.counted q ∙ (λ i. if sym e i then part_nodes f q V t else (if has_kind f.form W (kind_of t) then part_nodes f q W t else 0));
}

pub right_read : (f : Family) (V W : Template) (t : Plain) (v : Typed) → has_kind f.form V (kind_of t) ≡ false → has_kind f.form W (kind_of t) ≡ true → IsRead f W t v → IsRead f (sum V W) t (typed.right v)
right_read f V W t v e h r = record {
  right = wrong_right f.form (place f) V W t e h ∙ r.right;
  typed = r.typed;
  tree = r.tree;
  counted = λ q. r.counted q ∙ (λ i. if sym e i then part_nodes f q V t else (if sym h i then part_nodes f q W t else 0));
}

-- a record
pub record_read : (f : Family) (p : parts.RecordParts) (es : Entries) (row : Row) (r : values.RecordParts) → RowCase p es row → IsRowRead f row es r → IsRead f (parts.record_of p) (plain.map (pairs_of es)) (values.record_of r)
record_read f p es row r c read = record {
  right = wrong_as_row f p es row c ∙ read.right;
  typed = row_typed f p es r row c read;
  tree = ap (λ ps. plain.map (pairs_of ps)) read.pairs;
  counted = λ q. read.counted q ∙ sym (row_nodes f q p es row c);
}

-- the pair of a name in a map
pub found_here : (ys rest : Entries) (n : List ℕ) (t : Plain) → Ascends (ys ++ (n, t) ∷ rest) → under n (ys ++ (n, t) ∷ rest) ≡ Some t
found_here [] rest n t s = (λ i. if same_name_itself n i then Some t else under n rest)
found_here (y ∷ ys) rest n t s = by (same_name n y.0) refl (found_here ys rest n t (sorted_tail by_bytes y.0 (keys_of (ys ++ (n, t) ∷ rest)) s))
  where
    less : by_bytes y.0 n ≡ Less
    less = less_than ys rest y.0 n t (sorted_head by_bytes y.0 (keys_of (ys ++ (n, t) ∷ rest)) s)

    by : (b : Bool) → same_name n y.0 ≡ b → under n (ys ++ (n, t) ∷ rest) ≡ Some t → (if b then Some y.1 else under n (ys ++ (n, t) ∷ rest)) ≡ Some t
    by true e r = absurd (not_itself n (subst (λ m. by_bytes m n ≡ Less) (sym (same_name_is n y.0 e)) less))
    by false e r = r

pub tag_at : (row : Row) (ys rest : Entries) (n : List ℕ) (t : Plain) → HasTag row.tag (ys ++ (n, t) ∷ rest) → Ascends (ys ++ (n, t) ∷ rest) → belongs row n ≡ tagged → TagAt t
tag_at row ys rest n t has sorted is = by row.tag has (tagged_found row n is)
  where
    text : (u : Plain) (l : List ℕ) → u ≡ plain.text l → TagAt u
    text u l e = subst TagAt (sym e) tt

    by : (o : Option (List ℕ)) → HasTag o (ys ++ (n, t) ∷ rest) → is_tag o n ≡ true → TagAt t
    by None h e = absurd (true≢false (sym e))
    by (Some tag) h e =
        let here : under tag (ys ++ (n, t) ∷ rest) ≡ Some t = ap (λ m. under m (ys ++ (n, t) ∷ rest)) (sym (same_name_is n tag e)) ∙ found_here ys rest n t sorted in
        let same : Some t ≡ Some (plain.text h.0) = sym here ∙ h.1 in
        text t h.0 (let is' : t ≡ plain.text h.0 = cc in is')

-- the first wrong name of a map
first_wrong : (n : List ℕ) (q : Place) (m : Wrong) → or_first (earlier n m) (Some (named n ∷ q)) ≡ place_under (sooner (Some (n, q)) m)
first_wrong n q None = refl
first_wrong n q (Some m) = by (is_lt (by_bytes m.0 n))
  where
    by : (b : Bool) → or_first (if b then Some m else None) (Some (named n ∷ q)) ≡ place_under (if b then Some m else Some (n, q))
    by true = refl
    by false = refl

pub pair_stops : (f : Family) (row : Row) (ys rest : Entries) (n : List ℕ) (t : Plain) (m : Wrong) → wrong_entry (wrong_pair f row) ys ≡ None → m ≡ earlier n (missing_in row (ys ++ (n, t) ∷ rest)) → (p : Place)
    → place_under (below_name n (wrong_pair f row n t)) ≡ Some p → or_first m (place_under (below_name n (wrong_pair f row n t))) ≡ wrong_row f row (ys ++ (n, t) ∷ rest)
pair_stops f row ys rest n t m before is p e = by (wrong_pair f row n t) refl e
  where
    by : (o : Option Place) → wrong_pair f row n t ≡ o → place_under (below_name n o) ≡ Some p → or_first m (place_under (below_name n (wrong_pair f row n t))) ≡ wrong_row f row (ys ++ (n, t) ∷ rest)
    by None h k = absurd cc
    by (Some q) h k =
        (λ i. or_first (is i) (place_under (below_name n (h i)))) ∙ first_wrong n q (missing_in row (ys ++ (n, t) ∷ rest))
        ∙ (λ i. place_under (sooner (at_name n (sym h i) (wrong_entry (wrong_pair f row) rest)) (missing_in row (ys ++ (n, t) ∷ rest))))
        ∙ (λ i. place_under (sooner (sym (right_more (wrong_pair f row) ys rest n t before) i) (missing_in row (ys ++ (n, t) ∷ rest))))
