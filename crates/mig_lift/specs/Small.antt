-- Small chains: two schemas, and between them one fix, which renames a field of a single open record of leaves and adds a constant.
use Rattle.std.specs.Prelude.{ℕ, List, [], ◌∷◌, length, Bool, true, false, ◌&&◌, ◌==◌, Option, Some, None, is_some, option_map, option_and_then}
use Rattle.std.specs.List.{list_all}
use Rattle.std.specs.Map.{values_of}
use Rattle.mig_model.specs.declared.presence.Presence.TheVariants.{Must}
use Rattle.mig_model.specs.declared.rest.Rest.TheVariants.{Open}
use Rattle.mig_model.specs.Const.{Const}
use Rattle.mig_model.specs.Family.{Family, find_type, holds}
use Rattle.mig_model.specs.Template.{Template, leaf, rec, field_list, no_choice}
use Rattle.mig_field.specs.FieldFn.{Scope, common, constant, FieldOp, rename, add}
use Rattle.mig_field.specs.NewRecord.{FieldType}
use Rattle.mig_rule.specs.Rule as rule
use Rattle.mig_rule.specs.Rule.{Rule, Fix}
use Rattle.mig_rule.specs.Chain.{Chain, ChainStep, schema, fix}

-- it has to be there and is a leaf
abbrev pub is_must_leaf : FieldType → Bool
is_must_leaf (Must, leaf k) = true
is_must_leaf s = false

-- an open record of such fields, without a choice
abbrev pub is_flat_record : Template → Bool
is_flat_record (rec fs no_choice Open) = list_all is_must_leaf (values_of (field_list fs))
is_flat_record V = false

-- one named type, the root's, which is such a record
abbrev pub is_flat : Family → Bool
is_flat f = length f.types == 1 && holds is_flat_record (find_type f.root f.types)

-- the old and the new name of a field, and the name and the constant of one that is added
abbrev pub Edits : Type 0
Edits = (List ℕ × List ℕ) × (List ℕ × Const)

-- the names of a rename of a common field
abbrev pub rename_parts : Scope → FieldOp → Option (List ℕ × List ℕ)
rename_parts common (rename x y) = Some (x, y)
rename_parts scope op = None

-- the name and the constant of an add of one
abbrev pub add_parts : Scope → FieldOp → Option (List ℕ × Const)
add_parts common (add x (constant c)) = Some (x, c)
add_parts scope op = None

abbrev pub both_edits : Option (List ℕ × List ℕ) → Option (List ℕ × Const) → Option Edits
both_edits o p = option_and_then (λ r. option_map (λ a. (r, a)) p) o

-- a rename of a common field and then an add of a constant
abbrev pub rule_edits : Rule → Option Edits
rule_edits (rule.seq (rule.function f) (rule.function g)) = both_edits (rename_parts f.scope f.op) (add_parts g.scope g.op)
rule_edits r = None

abbrev pub is_small_rule : Rule → Bool
is_small_rule r = is_some (rule_edits r)

abbrev pub fix_edits : Fix → Option Edits
fix_edits (rule.rule r) = rule_edits r
fix_edits x = None

-- a number, and the edits that the fix of that number is
abbrev pub NumberedEdits : Type 0
NumberedEdits = ℕ × Edits

abbrev pub with_number : ℕ → Option Edits → Option NumberedEdits
with_number n None = None
with_number n (Some e) = Some (n, e)

abbrev pub numbered_edits : Option (ℕ × Fix) → Option NumberedEdits
numbered_edits None = None
numbered_edits (Some x) = with_number x.0 (fix_edits x.1)

-- a schema of a flat family, a fix that is a small rule, and a schema
abbrev pub are_small : List ChainStep → Bool
are_small (schema v (Some f) ∷ fix n (rule.rule r) ∷ schema w g ∷ []) = is_flat f && is_small_rule r
are_small steps = false

abbrev pub is_small : Chain → Bool
is_small c = are_small c.steps
