-- Which records a field function fits, and the new record.
use Rattle.std.specs.Prelude.{ℕ, List, [], ◌∷◌, ◌++◌, map, Bool, true, false, not, ◌&&◌, ◌||◌, Option, Some, None, option_map, option_and_then, unwrap_or, if◌then◌else◌}
use Rattle.std.specs.List.{list_all}
use Rattle.std.specs.Map.{keys_of}
use Rattle.mig_model.specs.declared.form.Form.TheVariants as F
use Rattle.mig_model.specs.declared.kind.Kind.{Kind}
use Rattle.mig_model.specs.declared.presence.Presence.{Presence}
use Rattle.mig_model.specs.declared.presence.Presence.TheVariants.{Must, May}
use Rattle.mig_model.specs.declared.rest.Rest.{Rest}
use Rattle.mig_model.specs.declared.rest.Rest.TheVariants.{Open}
use Rattle.mig_model.specs.Template.{Template, leaf, any, list, rec, sum, Field, fields_of, field_list, no_choice, same_kind, is_leaf, is_must, is_open}
use Rattle.mig_model.specs.Names.{same_name, has_twice, is_among, under, has, without, put, put_all, moved, those, others}
use Rattle.mig_model.specs.Fields.{is_in_choice}
use Rattle.mig_model.specs.Fields.{if_so}
use Rattle.mig_model.specs.Leaf.{LeafFn, leaf_out}
use Rattle.mig_model.specs.Family.{any_inside, has_point_side, sides_overlap}
use Rattle.mig_model.specs.Record.{RecordParts, Cases, choice_of, found_case}
use Rattle.mig_field.specs.SameTemplate.{same_template}
use Rattle.mig_field.specs.FieldFn.{Scope, common, in_case, Fill, fill_template, FieldOp, rename, drop, add, learn, forget, default, maybe, map_leaf, nest, unnest, wrap, unify, retag, add_case, FieldFn}

-- the name is that of the tag
abbrev pub is_tag : List ℕ → Option Cases → Bool
is_tag n None = false
is_tag n (Some c) = same_name n c.0

-- the fields that a function acts on, and the names that no field of them may have
pub record Scoped : Type 0 where
  pub fields : List Field
  pub taken : List ℕ → Bool

abbrev pub scoped : Scope → RecordParts → Option Scoped
scoped common p = Some (record { fields = p.fields; taken = λ n. is_in_choice n (choice_of p.choice) })
scoped (in_case l) p = option_map (λ fs. record { fields = fs; taken = λ n. has n p.fields || is_tag n p.choice }) (found_case l p.choice)

-- the record with other fields in the scope
abbrev pub with_fields : Scope → List Field → RecordParts → RecordParts
with_fields common fs p = record p { fields = fs }
with_fields (in_case l) fs p = record p { choice = option_map (λ c. (c.0, put l fs c.1, c.2)) p.choice }

abbrev pub is_free : Scoped → List ℕ → Bool
is_free s n = not (has n s.fields) && not (s.taken n)

-- a sum whose sides aren't told apart by their kinds
abbrev pub is_unclear : Template → Bool
is_unclear (sum any W) = true
is_unclear (sum V any) = true
is_unclear V = has_point_side V || sides_overlap F.Nbt V

-- no sum in it is so
abbrev pub is_clear : Template → Bool
is_clear V = not (any_inside is_unclear V)

abbrev pub can_be_learned : Option Kind → Bool
can_be_learned None = true
can_be_learned (Some k) = is_leaf k

abbrev pub learned : Option Kind → Template
learned None = any
learned (Some k) = leaf k

-- what becomes of a single field, or none where the function doesn't fit it
abbrev pub FieldType : Type 0
FieldType = Presence × Template

abbrev pub filled : Fill → FieldType → Option FieldType
filled c s = if_so (not (is_must s.0) && same_template s.1 (fill_template c)) (Must, s.1)

abbrev pub lessened : FieldType → Option FieldType
lessened s = if_so (is_must s.0) (May, s.1)

abbrev pub leaf_after : LeafFn → Template → Option Template
leaf_after f (leaf k) = option_map (λ j. leaf j) (leaf_out f k)
leaf_after f V = None

-- the kind that comes out of both
abbrev pub common_kind : Option Kind → Option Kind → Option Kind
common_kind (Some j) (Some k) = if_so (same_kind j k) j
common_kind i j = None

abbrev pub leaf_of_both : LeafFn → LeafFn → Template → Option Template
leaf_of_both f g (sum (leaf a) (leaf b)) = option_map (λ j. leaf j) (common_kind (leaf_out f a) (leaf_out g b))
leaf_of_both f g V = None

abbrev pub with_template : (Template → Option Template) → FieldType → Option FieldType
with_template f s = option_map (λ W. (s.0, W)) (f s.1)

-- the fields with that done to the one of a name
abbrev pub at_field : List ℕ → (FieldType → Option FieldType) → List Field → Option (List Field)
at_field x f fs = option_and_then (λ s. option_map (λ t. put x t fs) (f s)) (under x fs)

-- the fields of a record without a choice
abbrev pub inner_fields : Template → Option (List Field)
inner_fields (rec fs no_choice r) = Some (field_list fs)
inner_fields V = None

-- a field that comes out of a record that may be absent
abbrev pub unnested : Presence → Field → Field
unnested p f = (f.0, ((if is_must p then f.1.0 else May), f.1.1))

abbrev pub is_some_name : List (List ℕ) → Bool
is_some_name [] = false
is_some_name (x ∷ xs) = true

-- the names are some, distinct and there, and the other is free or one of them
abbrev pub can_nest : List (List ℕ) → List ℕ → Scoped → Bool
can_nest xs y s = is_some_name xs && (not (has_twice xs) && (list_all (λ x. has x s.fields) xs && (is_among xs y || is_free s y)))

-- the fields of the record under y stand in its place
abbrev pub unnest_slot : List ℕ → Scoped → Presence → List Field → Option (List Field)
unnest_slot y s p gs = if_so (list_all (λ n. same_name n y || is_free s n) (keys_of gs)) (put_all (map (unnested p) gs) (without y s.fields))

-- the new fields of the scope, or none where the function doesn't fit
abbrev pub new_fields : FieldOp → Rest → Scoped → Option (List Field)
new_fields (rename x y) r s = if_so (has x s.fields && is_free s y) (moved x y s.fields)
new_fields (drop x) r s = if_so (has x s.fields) (without x s.fields)
new_fields (add x c) r s = if_so (is_free s x && is_clear (fill_template c)) (put x (Must, fill_template c) s.fields)
new_fields (learn x k) r s = if_so (is_free s x && (is_open r && can_be_learned k)) (put x (May, learned k) s.fields)
new_fields (forget x) r s = if_so (has x s.fields && is_open r) (without x s.fields)
new_fields (default x c) r s = at_field x (filled c) s.fields
new_fields (maybe x) r s = at_field x lessened s.fields
new_fields (map_leaf x f) r s = at_field x (with_template (leaf_after f)) s.fields
new_fields (nest xs y) r s = if_so (can_nest xs y s) (put y (Must, rec (fields_of (those xs s.fields)) no_choice Open) (others xs s.fields))
new_fields (unnest y) r s = option_and_then (λ t. option_and_then (unnest_slot y s t.0) (inner_fields t.1)) (under y s.fields)
new_fields (wrap x) r s = at_field x (with_template (λ V. Some (list V))) s.fields
new_fields (unify x f g) r s = at_field x (with_template (leaf_of_both f g)) s.fields
new_fields (retag a b) r s = None
new_fields (add_case b fs) r s = None

abbrev pub with_cases : RecordParts → Cases → RecordParts
with_cases p c = record p { choice = Some c }

-- a field that any tree can be given: a leaf, which its zero stands for, or any tree that may be away
abbrev pub is_easy : FieldType → Bool
is_easy (p, leaf k) = is_leaf k
is_easy (p, any) = not (is_must p)
is_easy s = false

abbrev pub are_easy : List Field → Bool
are_easy fs = list_all (λ f. is_easy f.1) fs

-- saves that were kept with a tag can be given these fields; where none are kept, nothing is asked
abbrev pub can_be_settled : Bool → List Field → Bool
can_be_settled kept fs = not kept || are_easy fs

abbrev pub fields_of_case : List ℕ → Cases → List Field
fields_of_case l c = unwrap_or (under l c.1) []

-- the case of a has the literal b
abbrev pub retagged : List ℕ → List ℕ → Cases → Option Cases
retagged a b c = if_so (has a c.1 && (not (has b c.1) && can_be_settled c.2 (fields_of_case a c))) (c.0, moved a b c.1, c.2)

-- the names of the new case are distinct and no others' of the record, and its sums are clear
abbrev pub can_be_case : List Field → List Field → Cases → Bool
can_be_case fs shared c = not (has_twice (keys_of fs ++ c.0 ∷ keys_of shared)) && list_all (λ f. is_clear f.1.1) fs

abbrev pub with_case : List ℕ → List Field → List Field → Cases → Option Cases
with_case b fs shared c = if_so (not (has b c.1) && (can_be_case fs shared c && can_be_settled c.2 fs)) (c.0, put b (put_all fs []) c.1, c.2)

-- the new record, or none where the function doesn't fit
abbrev pub new_by : FieldOp → Scope → RecordParts → Option RecordParts
new_by (retag a b) common p = option_and_then (λ c. option_map (with_cases p) (retagged a b c)) p.choice
new_by (add_case b fs) common p = option_and_then (λ c. option_map (with_cases p) (with_case b fs p.fields c)) p.choice
new_by op scope p = option_and_then (λ s. option_map (λ fs. with_fields scope fs p) (new_fields op p.rest s)) (scoped scope p)

abbrev pub new_record : FieldFn → RecordParts → Option RecordParts
new_record f p = new_by f.op f.scope p
