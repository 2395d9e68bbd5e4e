-- The names of a map ascend after any function.
use Rattle.std.proofs.Common.{ℕ, List, [], ◌∷◌, Bool, true, false, Option, Some, None}
use Rattle.std.specs.Prelude.{unwrap_or, if◌then◌else◌}
use Rattle.std.specs.Map.{keys_of}
use Rattle.mig_model.specs.declared.rest.Rest.{Rest}
use Rattle.mig_model.specs.Plain as plain
use Rattle.mig_model.specs.Names.{Ascends, under, without, put, others, those}
use Rattle.mig_model.specs.Leaf.{leaf_value}
use Rattle.mig_model.specs.Template.{Field, is_open}
use Rattle.mig_model.specs.Inhabits.{Entries, has_tag}
use Rattle.mig_model.specs.Plain.{no_tree, tree}
use Rattle.mig_model.specs.Record as template
use Rattle.mig_model.specs.Record.{RecordParts, found_case}
use Rattle.mig_field.specs.FieldFn.{Scope, common, in_case, fill_tree, FieldOp, rename, drop, add, learn, forget, default, maybe, map_leaf, nest, unnest, wrap, unify, retag, add_case, FieldFn}
use Rattle.mig_field.specs.NewRecord.{fields_of_case}
use Rattle.mig_field.specs.Act.{edit, by_field, settled_tree, where_closed, settle, with_tag, with_new_case, edit_case, act_by, act, pairs_in, inner_names, unified, left_kind}
use Rattle.mig_model.proofs.Edits.{ascends-put, ascends-put_all, ascends-without, ascends-those, ascends-others}
use Rattle.mig_field_laws.proofs.Scopes.{putting, changing, defaulting, learning, moving}
use Rattle.mig_field_laws.proofs.Nests.{nesting}

either : (b : Bool) (xs ys : Entries) → Ascends xs → Ascends ys → Ascends (if b then xs else ys)
either true xs ys a b = a
either false xs ys a b = b

pub beside_ascends : (rest : Rest) (names others_too : List (List ℕ)) (es : Entries) → Ascends es → Ascends (where_closed rest names (others others_too es))
beside_ascends rest names gone es a = either (is_open rest) (others gone es) (those names (others gone es)) (ascends-others gone es a)
    (ascends-those names (others gone es) (ascends-others gone es a))

pub settle_ascends : (ds : List Field) (p : RecordParts) (tag : List ℕ) (es : Entries) → Ascends es → Ascends (settle ds p tag es)
settle_ascends ds p tag es a =
    ascends-put_all (by_field settled_tree ds es) (where_closed p.rest (tag ∷ keys_of p.fields) (others (keys_of ds) es)) (beside_ascends p.rest (tag ∷ keys_of p.fields) (keys_of ds) es a)

edit_ascends : (op : FieldOp) (fs : List Field) (es : Entries) → Ascends es → Ascends (edit op fs es)
edit_ascends (rename x y) fs es a = (moving x y).ascend es a
edit_ascends (drop x) fs es a = ascends-without x es a
edit_ascends (add x c) fs es a = (putting x (fill_tree c)).ascend es a
edit_ascends (learn x k) fs es a = (learning x k).ascend es a
edit_ascends (forget x) fs es a = a
edit_ascends (default x c) fs es a = (defaulting x (fill_tree c)).ascend es a
edit_ascends (maybe x) fs es a = a
edit_ascends (map_leaf x f) fs es a = (changing x (leaf_value f)).ascend es a
edit_ascends (nest xs y) fs es a = (nesting xs y).ascend es a
edit_ascends (unnest y) fs es a =
    ascends-put_all (those (inner_names (under y fs)) (pairs_in (under y es))) (others (inner_names (under y fs)) (without y es))
    (ascends-others (inner_names (under y fs)) (without y es) (ascends-without y es a))
edit_ascends (wrap x) fs es a = (changing x (λ t. plain.list (tree t no_tree))).ascend es a
edit_ascends (unify x f g) fs es a = (changing x (unified f g (left_kind (under x fs)))).ascend es a
edit_ascends (retag b z) fs es a = a
edit_ascends (add_case b gs) fs es a = a

tag_ascends : (a b : List ℕ) (p : RecordParts) (c : Option template.Cases) (es : Entries) → Ascends es → Ascends (with_tag a b p c es)
tag_ascends a b p None es k = k
tag_ascends a b p (Some c) es k =
    either (has_tag c.0 a es) (put c.0 (plain.text b) es) (if has_tag c.0 b es then settle (fields_of_case a c) p c.0 es else es) (ascends-put c.0 (plain.text b) es k)
    (either (has_tag c.0 b es) (settle (fields_of_case a c) p c.0 es) es (settle_ascends (fields_of_case a c) p c.0 es k) k)

new_case_ascends : (b : List ℕ) (fs : List Field) (p : RecordParts) (c : Option template.Cases) (es : Entries) → Ascends es → Ascends (with_new_case b fs p c es)
new_case_ascends b fs p None es k = k
new_case_ascends b fs p (Some c) es k = either (has_tag c.0 b es) (settle fs p c.0 es) es (settle_ascends fs p c.0 es k) k

case_ascends : (op : FieldOp) (l : List ℕ) (p : RecordParts) (c : Option template.Cases) (es : Entries) → Ascends es → Ascends (edit_case op l p c es)
case_ascends op l p None es k = k
case_ascends op l p (Some c) es k = either (has_tag c.0 l es) (edit op (unwrap_or (found_case l (Some c)) []) es) es (edit_ascends op (unwrap_or (found_case l (Some c)) []) es k) k

by_ascends : (op : FieldOp) (scope : Scope) (p : RecordParts) (es : Entries) → Ascends es → Ascends (act_by op scope p es)
by_ascends (retag a b) scope p es k = tag_ascends a b p p.choice es k
by_ascends (add_case b fs) scope p es k = new_case_ascends b fs p p.choice es k
by_ascends op common p es k = edit_ascends op p.fields es k
by_ascends op (in_case l) p es k = case_ascends op l p p.choice es k

pub act_ascends : (f : FieldFn) (p : RecordParts) (es : Entries) → Ascends es → Ascends (act f p es)
act_ascends f p es k = by_ascends f.op f.scope p es k
