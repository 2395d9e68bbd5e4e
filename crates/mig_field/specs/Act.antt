-- What a field function does to the pairs of a map of a record that it fits.
use Rattle.std.specs.Prelude.{ℕ, List, [], ◌∷◌, Bool, true, false, Option, Some, None, unwrap_or, if◌then◌else◌}
use Rattle.std.specs.Map.{keys_of}
use Rattle.mig_model.specs.declared.kind.Kind.{Kind}
use Rattle.mig_model.specs.declared.kind.Kind.TheVariants as K
use Rattle.mig_model.specs.Plain as plain
use Rattle.mig_model.specs.Plain.{Plain, no_tree, tree, pairs_of, entries}
use Rattle.mig_model.specs.Kinds.{kind_of}
use Rattle.mig_model.specs.declared.rest.Rest.{Rest}
use Rattle.mig_model.specs.Template.{leaf, sum, Field, same_kind, is_must, is_open}
use Rattle.mig_model.specs.Const.{const_tree}
use Rattle.mig_model.specs.Fields.{if_so}
use Rattle.mig_model.specs.Inhabits.{Entries, has_tag}
use Rattle.mig_model.specs.Leaf.{LeafFn, leaf_value}
use Rattle.mig_model.specs.Record.{RecordParts, Cases, found_case}
use Rattle.mig_model.specs.Names.{under, has, without, put, bring, put_all, moved, those, others, changed}
use Rattle.mig_field.specs.FieldFn.{Scope, common, in_case, fill_tree, zero, FieldOp, rename, drop, add, learn, forget, default, maybe, map_leaf, nest, unnest, wrap, unify, retag, add_case, FieldFn}
use Rattle.mig_field.specs.NewRecord.{FieldType, inner_fields, fields_of_case}

-- there is a tree of the kind; None asks for nothing
abbrev pub is_learned : Option Kind → Option Plain → Bool
is_learned None o = true
is_learned (Some k) None = false
is_learned (Some k) (Some t) = same_kind (kind_of t) k

-- the pairs of a map
abbrev pub pairs_in : Option Plain → Entries
pairs_in (Some (plain.map ps)) = entries ps
pairs_in o = []

-- the names that the record under a field declares
abbrev pub inner_names : Option FieldType → List (List ℕ)
inner_names None = []
inner_names (Some s) = keys_of (unwrap_or (inner_fields s.1) [])

-- the kind of the left side
abbrev pub left_kind : Option FieldType → Kind
left_kind (Some (p, sum (leaf a) W)) = a
left_kind s = K.Null

-- f's value where the kind is that of the left side, else g's
abbrev pub unified : LeafFn → LeafFn → Kind → Plain → Plain
unified f g a t = if same_kind (kind_of t) a then leaf_value f t else leaf_value g t

-- what is done to the pairs, where the scope has these fields
abbrev pub edit : FieldOp → List Field → Entries → Entries
edit (rename x y) fs es = moved x y es
edit (drop x) fs es = without x es
edit (add x c) fs es = put x (fill_tree c) (without x es)
edit (learn x k) fs es = if is_learned k (under x es) then es else without x es
edit (forget x) fs es = es
edit (default x c) fs es = if has x es then es else put x (fill_tree c) es
edit (maybe x) fs es = es
edit (map_leaf x f) fs es = changed x (leaf_value f) es
edit (nest xs y) fs es = put y (plain.map (pairs_of (those xs es))) (without y (others xs es))
edit (unnest y) fs es = let ns = inner_names (under y fs) in put_all (those ns (pairs_in (under y es))) (others ns (without y es))
edit (wrap x) fs es = changed x (λ t. plain.list (tree t no_tree)) es
edit (unify x f g) fs es = changed x (unified f g (left_kind (under x fs))) es
edit (retag a b) fs es = es
edit (add_case b gs) fs es = es

-- what a field has once it is settled: a tree of its kind stays, and else its zero is put where the field has to be there
abbrev pub settled_tree : FieldType → Option Plain → Option Plain
settled_tree (p, leaf k) o = if is_learned (Some k) o then o else if_so (is_must p) (const_tree (zero k))
settled_tree s o = o

-- each field with what is made of what stands under its name
abbrev pub by_field : {A : Type 0} → (FieldType → Option A → Option A) → List Field → List (List ℕ × A) → List (List ℕ × A)
by_field g [] es = []
by_field g (f ∷ fs) es = bring f.0 (g f.1 (under f.0 es)) (by_field g fs es)

-- these names alone, where the rest is closed
abbrev pub where_closed : Rest → List (List ℕ) → Entries → Entries
where_closed r names es = if is_open r then es else those names es

-- a map that was kept is given these fields; other names, which aren't those of common fields or of the tag, go where the rest is closed
abbrev pub settle : List Field → RecordParts → List ℕ → Entries → Entries
settle fs p tag es = put_all (by_field settled_tree fs es) (where_closed p.rest (tag ∷ keys_of p.fields) (others (keys_of fs) es))

-- the tag that is a becomes b, and a map that was kept with the tag b is settled
abbrev pub with_tag : List ℕ → List ℕ → RecordParts → Option Cases → Entries → Entries
with_tag a b p None es = es
with_tag a b p (Some c) es = if has_tag c.0 a es then put c.0 (plain.text b) es else (if has_tag c.0 b es then settle (fields_of_case a c) p c.0 es else es)

-- a map that was kept with the tag of the new case is settled
abbrev pub with_new_case : List ℕ → List Field → RecordParts → Option Cases → Entries → Entries
with_new_case b fs p None es = es
with_new_case b fs p (Some c) es = if has_tag c.0 b es then settle fs p c.0 es else es

-- in a case, a map with another tag stays
abbrev pub edit_case : FieldOp → List ℕ → RecordParts → Option Cases → Entries → Entries
edit_case op l p None es = es
edit_case op l p (Some c) es = if has_tag c.0 l es then edit op (unwrap_or (found_case l (Some c)) []) es else es

abbrev pub act_by : FieldOp → Scope → RecordParts → Entries → Entries
act_by (retag a b) scope p es = with_tag a b p p.choice es
act_by (add_case b fs) scope p es = with_new_case b fs p p.choice es
act_by op common p es = edit op p.fields es
act_by op (in_case l) p es = edit_case op l p p.choice es

-- what the function does to the pairs of a map of the record
abbrev pub act : FieldFn → RecordParts → Entries → Entries
act f p es = act_by f.op f.scope p es
