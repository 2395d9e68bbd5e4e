-- The names of all maps of a tree ascend after a function, where they did before.
use Rattle.std.proofs.Common.{◌≡◌, ℕ, ℤ, List, [], ◌∷◌, Bool, true, false, Option, Some, None, refl, sym, ap, subst, ◌∙◌, arith}
use Rattle.std.specs.Prelude.{not, option_map, unwrap_or, if◌then◌else◌}
use Rattle.std.specs.Map.{keys_of}
use Rattle.std.proofs.lemmas.Option.{same_Some}
use Rattle.mig_model.specs.declared.kind.Kind.{Kind}
use Rattle.mig_model.specs.declared.kind.Kind.TheVariants as K
use Rattle.mig_model.specs.Plain as plain
use Rattle.mig_model.specs.Plain.{Plain, no_tree, tree, Pairs, no_pair, pair, pairs_of, entries, on_entries}
use Rattle.mig_model.specs.Kinds.{kind_of, entries_of_pairs}
use Rattle.mig_model.specs.Const as const
use Rattle.mig_model.specs.Const.{Const, const_tree, const_kind}
use Rattle.mig_model.specs.Leaf as fn
use Rattle.mig_model.specs.Leaf.{LeafFn, clamp, least, greatest, number_tree, number_of, text_of, spelled, read_or, leaf_value}
use Rattle.mig_model.specs.Names.{Ascends, same_name, is_among, under, has, without, put, bring, put_all, moved, those, others, changed}
use Rattle.mig_model.specs.Inhabits.{Entries, EachEntry, has_tag}
use Rattle.mig_model.specs.Fields.{if_so}
use Rattle.mig_model.specs.Template.{leaf, Field, same_kind, is_must, is_open}
use Rattle.mig_model.specs.Record.{RecordParts, Cases, found_case}
use Rattle.std.specs.List.{filter}
use Rattle.mig_field.specs.FieldFn.{Scope, common, in_case, Fill, constant, empty_list, fill_tree, zero, FieldOp, rename, drop, add, learn, forget, default, maybe, map_leaf, nest, unnest, wrap, unify, retag, add_case, FieldFn}
use Rattle.mig_field.specs.NewRecord.{FieldType, fields_of_case}
use Rattle.mig_field.specs.Act.{edit, is_learned, pairs_in, inner_names, left_kind, unified, settled_tree, by_field, where_closed, settle, with_tag, with_new_case, edit_case, act_by, act}
use Rattle.mig_model.proofs.Edits.{first, under-put, under-without, under-filter, under-put_all, under-changed, under-moved, ascends-those, ascends-others}
use Rattle.mig_field_laws.proofs.Places.{each_under, under_each}
use Rattle.mig_field_laws.proofs.Ascending.{act_ascends}
use Rattle.mig_rule_laws.specs.Premises.{AllAscend, TreesAscend}

-- ---- single trees
number_ascends : (k : Kind) (z : ℤ) → AllAscend (number_tree k z)
number_ascends K.Byte z = tt
number_ascends K.Short z = tt
number_ascends K.Int z = tt
number_ascends K.Long z = tt
number_ascends k z = tt

const_ascends : (c : Const) → AllAscend (const_tree c)
const_ascends (const.byte z) = tt
const_ascends c = tt

fill_ascends : (c : Fill) → AllAscend (fill_tree c)
fill_ascends (constant c) = const_ascends c
fill_ascends (empty_list V) = tt

read_ascends : (c : Const) (o : Option ℤ) → AllAscend (unwrap_or (option_map (number_tree (const_kind c)) o) (const_tree c))
read_ascends c None = const_ascends c
read_ascends c (Some z) = number_ascends (const_kind c) z

pub leaf_ascends : (f : LeafFn) (t : Plain) → AllAscend (leaf_value f t)
leaf_ascends (fn.constant c) t = const_ascends c
leaf_ascends (fn.plus n) t = number_ascends (kind_of t) _
leaf_ascends (fn.times n) t = number_ascends (kind_of t) _
leaf_ascends (fn.clamp_to low high) t = number_ascends (kind_of t) _
leaf_ascends (fn.to_kind j) t = number_ascends j _
leaf_ascends fn.to_text t = tt
leaf_ascends (fn.of_text c) t = read_ascends c (spelled (const_kind c) (text_of t))
leaf_ascends (fn.table ps) t = tt
leaf_ascends (fn.prefix p) t = tt
leaf_ascends (fn.strip p) t = tt
leaf_ascends fn.lower t = tt

-- ---- the pairs of a map
abbrev InTree : List ℕ → Plain → Type 0
InTree n t = AllAscend t

-- so it is of each tree
abbrev Deep : Entries → Type 0
Deep es = (n : List ℕ) (t : Plain) → under n es ≡ Some t → AllAscend t

pub each_ascends : (ps : Pairs) → TreesAscend ps → EachEntry InTree (entries ps)
each_ascends no_pair e = tt
each_ascends (pair n t ps) e = (e.0, each_ascends ps e.1)

pub ascends_each : (es : Entries) → EachEntry InTree es → TreesAscend (pairs_of es)
ascends_each [] k = tt
ascends_each (e ∷ es) k = (k.0, ascends_each es k.1)

all_deep : (ps : Pairs) → TreesAscend ps → Deep (entries ps)
all_deep ps e = each_under InTree (entries ps) (each_ascends ps e)

map_ascends : (es : Entries) → Ascends es → Deep es → AllAscend (plain.map (pairs_of es))
map_ascends es a k = (subst (λ (l : Entries). Ascends l) (sym (entries_of_pairs es)) a, ascends_each es (under_each InTree es a k))

put_deep : (x : List ℕ) (a : Plain) (es : Entries) → AllAscend a → Deep es → Deep (put x a es)
put_deep x a es d k n t h = by (same_name n x) (sym (under-put x a es n) ∙ h)
  where
    by : (b : Bool) → (if b then Some a else under n es) ≡ Some t → AllAscend t
    by true e = subst AllAscend (same_Some a t e) d
    by false e = k n t e

without_deep : (x : List ℕ) (es : Entries) → Ascends es → Deep es → Deep (without x es)
without_deep x es a k n t h = let here = under-without x es n a in let more = k n t in grind (arith, here, more)

filter_deep : (p : List ℕ → Bool) (es : Entries) → Deep es → Deep (filter (λ e. p e.0) es)
filter_deep p es k n t h = let here = under-filter p es n in let more = k n t in grind (arith, here, more)

put_all_deep : (ns es : Entries) → Deep ns → Deep es → Deep (put_all ns es)
put_all_deep ns es j k n t h = by (under n ns) refl (sym (under-put_all ns es n) ∙ h)
  where
    by : (o : Option Plain) → under n ns ≡ o → first o (under n es) ≡ Some t → AllAscend t
    by None e f = k n t f
    by (Some u) e f = j n t (e ∙ f)

bring_deep : (x : List ℕ) (o : Option Plain) (es : Entries) → ((t : Plain) → o ≡ Some t → AllAscend t) → Deep es → Deep (bring x o es)
bring_deep x None es d k = k
bring_deep x (Some a) es d k = put_deep x a es (d a refl) k

changed_deep : (x : List ℕ) (f : Plain → Plain) (es : Entries) → ((t : Plain) → AllAscend t → AllAscend (f t)) → Deep es → Deep (changed x f es)
changed_deep x f es d k n t h = by (under n es) refl (sym (under-changed x f es n) ∙ h)
  where
    tree_of : (u : Plain) → AllAscend u → (b : Bool) → (if b then Some (f u) else Some u) ≡ Some t → AllAscend t
    tree_of u e true g = subst AllAscend (same_Some (f u) t g) (d u e)
    tree_of u e false g = subst AllAscend (same_Some u t g) e

    by : (o : Option Plain) → under n es ≡ o → (if same_name n x then option_map f o else o) ≡ Some t → AllAscend t
    by None e g = absurd (grind (arith, g))
    by (Some u) e g = tree_of u (k n u e) (same_name n x) g

moved_deep : (x y : List ℕ) (es : Entries) → Ascends es → Deep es → Deep (moved x y es)
moved_deep x y es a k n t h =
    let here = under-moved x y es n a in
    let other = k n t in
    let there = k x t in
    grind (arith, here, other, there)

-- ---- the fields of a scope
if_deep : (b : Bool) (xs ys : Entries) → Deep xs → Deep ys → Deep (if b then xs else ys)
if_deep true xs ys j k = j
if_deep false xs ys j k = k

inner_deep : (y : List ℕ) (es : Entries) → Deep es → Deep (pairs_in (under y es))
inner_deep y es k = by (under y es) (λ t. k y t)
  where
    by : (o : Option Plain) → ((t : Plain) → o ≡ Some t → AllAscend t) → Deep (pairs_in o)
    by None d n t h = absurd (grind (arith, h))
    by (Some (plain.map ps)) d n t h = all_deep ps (d (plain.map ps) refl).1 n t h
    by (Some u) d n t h = absurd (grind (arith, h))

unified_ascends : (f g : LeafFn) (a : Kind) (t : Plain) → AllAscend (unified f g a t)
unified_ascends f g a t = by (same_kind (kind_of t) a)
  where
    by : (b : Bool) → AllAscend (if b then leaf_value f t else leaf_value g t)
    by true = leaf_ascends f t
    by false = leaf_ascends g t

edit_deep : (op : FieldOp) (fs : List Field) (es : Entries) → Ascends es → Deep es → Deep (edit op fs es)
edit_deep (rename x y) fs es a k = moved_deep x y es a k
edit_deep (drop x) fs es a k = without_deep x es a k
edit_deep (add x c) fs es a k = put_deep x (fill_tree c) (without x es) (fill_ascends c) (without_deep x es a k)
edit_deep (learn x j) fs es a k = if_deep (is_learned j (under x es)) es (without x es) k (without_deep x es a k)
edit_deep (forget x) fs es a k = k
edit_deep (default x c) fs es a k = if_deep (has x es) es (put x (fill_tree c) es) k (put_deep x (fill_tree c) es (fill_ascends c) k)
edit_deep (maybe x) fs es a k = k
edit_deep (map_leaf x f) fs es a k = changed_deep x (leaf_value f) es (λ t e. leaf_ascends f t) k
edit_deep (nest xs y) fs es a k =
    put_deep y (plain.map (pairs_of (those xs es))) (without y (others xs es)) (map_ascends (those xs es) (ascends-those xs es a) (filter_deep (is_among xs) es k))
    (without_deep y (others xs es) (ascends-others xs es a) (filter_deep (λ n. not (is_among xs n)) es k))
edit_deep (unnest y) fs es a k =
    let ns = inner_names (under y fs) in
    put_all_deep (those ns (pairs_in (under y es))) (others ns (without y es)) (filter_deep (is_among ns) (pairs_in (under y es)) (inner_deep y es k))
    (filter_deep (λ n. not (is_among ns n)) (without y es) (without_deep y es a k))
edit_deep (wrap x) fs es a k = changed_deep x (λ t. plain.list (tree t no_tree)) es (λ t e. (e, tt)) k
edit_deep (unify x f g) fs es a k = changed_deep x (unified f g (left_kind (under x fs))) es (λ t e. unified_ascends f g (left_kind (under x fs)) t) k
edit_deep (retag a b) fs es r k = k
edit_deep (add_case b gs) fs es a k = k

-- ---- a map that is settled
settled_ascends : (f : FieldType) (o : Option Plain) → ((t : Plain) → o ≡ Some t → AllAscend t) → (t : Plain) → settled_tree f o ≡ Some t → AllAscend t
settled_ascends (p, leaf k) o d t h = by (is_learned (Some k) o) (is_must p) h
  where
    by : (b m : Bool) → (if b then o else if_so m (const_tree (zero k))) ≡ Some t → AllAscend t
    by true m e = d t e
    by false true e = subst AllAscend (same_Some (const_tree (zero k)) t e) (const_ascends (zero k))
    by false false e = absurd (let no : None ≡ Some t = e in cc)
settled_ascends f o d t h = d t h

fields_deep : (fs : List Field) (es : Entries) → Deep es → Deep (by_field settled_tree fs es)
fields_deep [] es k n t h = absurd (grind (arith, h))
fields_deep (f ∷ fs) es k n t h = bring_deep f.0 (settled_tree f.1 (under f.0 es)) (by_field settled_tree fs es) (settled_ascends f.1 (under f.0 es) (k f.0)) (fields_deep fs es k) n t h

settle_deep : (fs : List Field) (p : RecordParts) (tag : List ℕ) (es : Entries) → Deep es → Deep (settle fs p tag es)
settle_deep fs p tag es k =
    let names = tag ∷ keys_of p.fields in
    let beside = others (keys_of fs) es in
    let kept = filter_deep (λ n. not (is_among (keys_of fs) n)) es k in
    put_all_deep (by_field settled_tree fs es) (where_closed p.rest names beside) (fields_deep fs es k) (if_deep (is_open p.rest) beside (those names beside) kept (filter_deep (is_among names) beside kept))

-- ---- whole records
tag_deep : (a b : List ℕ) (p : RecordParts) (c : Option Cases) (es : Entries) → Deep es → Deep (with_tag a b p c es)
tag_deep a b p None es k = k
tag_deep a b p (Some c) es k =
    if_deep (has_tag c.0 a es) (put c.0 (plain.text b) es) (if has_tag c.0 b es then settle (fields_of_case a c) p c.0 es else es) (put_deep c.0 (plain.text b) es tt k)
    (if_deep (has_tag c.0 b es) (settle (fields_of_case a c) p c.0 es) es (settle_deep (fields_of_case a c) p c.0 es k) k)

new_case_deep : (b : List ℕ) (fs : List Field) (p : RecordParts) (c : Option Cases) (es : Entries) → Deep es → Deep (with_new_case b fs p c es)
new_case_deep b fs p None es k = k
new_case_deep b fs p (Some c) es k = if_deep (has_tag c.0 b es) (settle fs p c.0 es) es (settle_deep fs p c.0 es k) k

case_deep : (op : FieldOp) (l : List ℕ) (p : RecordParts) (c : Option Cases) (es : Entries) → Ascends es → Deep es → Deep (edit_case op l p c es)
case_deep op l p None es a k = k
case_deep op l p (Some c) es a k =
    let fs = unwrap_or (found_case l (Some c)) [] in
    if_deep (has_tag c.0 l es) (edit op fs es) es (edit_deep op fs es a k) k

by_deep : (op : FieldOp) (scope : Scope) (p : RecordParts) (es : Entries) → Ascends es → Deep es → Deep (act_by op scope p es)
by_deep (retag a b) scope p es r k = tag_deep a b p p.choice es k
by_deep (add_case b fs) scope p es a k = new_case_deep b fs p p.choice es k
by_deep op common p es a k = edit_deep op p.fields es a k
by_deep op (in_case l) p es a k = case_deep op l p p.choice es a k

pub all_ascend : (f : FieldFn) (p : RecordParts) (t : Plain) → AllAscend t → AllAscend (on_entries (act f p) t)
all_ascend f p (plain.map ps) a =
    let es : Entries = entries ps in
    map_ascends (act f p es) (act_ascends f p es a.0) (by_deep f.op f.scope p es a.0 (all_deep ps a.1))
all_ascend f p t a = a
