-- Fixes: the family after one, why there may be none, and what one does to a tree.
use Rattle.std.specs.Prelude.{ℕ, List, [], ◌∷◌, ◌++◌, map, Bool, false, not, ◌||◌, Option, Some, None, is_some, unwrap_or, Result, Ok, Err, if◌then◌else◌}
use Rattle.std.specs.List.{list_any, filter}
use Rattle.mig_model.specs.declared.kind.Kind.{Kind}
use Rattle.mig_model.specs.Family.{Family, Flaw, body, is_named, is_unknown, any_inside, any_in_fields, first_flaw}
use Rattle.mig_model.specs.Leaf.{LeafFn, leaf_out, leaf_value}
use Rattle.mig_model.specs.Plain.{Plain}
use Rattle.mig_model.specs.Template.{fields_of, same_kind}
use Rattle.mig_model.specs.Names.{same_name}
use Rattle.mig_schema.specs.Types.{Named}
use Rattle.mig_field.specs.FieldFn.{Fill, constant, empty_list, FieldOp, add, default, add_case}
use Rattle.mig_rule.specs.Rule as rule
use Rattle.mig_rule.specs.Rule.{Rule, Fix, deep, new_type, drop_type}
use Rattle.mig_rule.specs.Target.{target}
use Rattle.mig_rule.specs.Act.{plain_rule}
use Rattle.mig_rule.specs.Path.{Spot, whole, end_kind, at_end}

-- a point in what an operation brings is to no named type
abbrev pub fill_lacks : Family → Fill → Bool
fill_lacks f (constant c) = false
fill_lacks f (empty_list V) = any_inside (is_unknown f) V

abbrev pub op_lacks : Family → FieldOp → Bool
op_lacks f (add x c) = fill_lacks f c
op_lacks f (default x c) = fill_lacks f c
op_lacks f (add_case l fs) = any_in_fields (is_unknown f) (fields_of fs)
op_lacks f op = false

-- a rule speaks of a name that is no named type: in `on`, or in what it brings
abbrev pub rule_lacks : Family → Rule → Bool
rule_lacks f rule.nop = false
rule_lacks f (rule.function g) = op_lacks f g.op
rule_lacks f (rule.on n r) = not (is_named f n) || rule_lacks f r
rule_lacks f (rule.at x r) = rule_lacks f r
rule_lacks f (rule.seq r s) = rule_lacks f r || rule_lacks f s
rule_lacks f (rule.or_else r s) = rule_lacks f r || rule_lacks f s
rule_lacks f (rule.all r) = rule_lacks f r
rule_lacks f (rule.everywhere r) = rule_lacks f r

abbrev pub root_spot : Family → Spot
root_spot f = whole (body f f.root)

-- a name, or a step of a path, means nothing in the family
abbrev pub names_nothing : Fix → Family → Bool
names_nothing (rule.rule r) f = rule_lacks f r
names_nothing (deep steps g) f = not (is_some (end_kind f steps (root_spot f)))
names_nothing (new_type n V) f = is_named f n
names_nothing (drop_type n) f = same_name n f.root || not (is_named f n)

-- the rule fits the body of the named type
abbrev pub fits_type : Rule → Named → Bool
fits_type r t = is_some (target r t.0 t.1)

-- the function fits the kind and gives it again
abbrev pub keeps_kind : LeafFn → Option Kind → Bool
keeps_kind g None = false
keeps_kind g (Some k) = is_kind (leaf_out g k)
  where
    is_kind : Option Kind → Bool
    is_kind None = false
    is_kind (Some j) = same_kind j k

-- a rule that fits no named type, or a leaf function that doesn't fit its leaf
abbrev pub misses : Fix → Family → Bool
misses (rule.rule r) f = not (list_any (fits_type r) f.types)
misses (deep steps g) f = not (keeps_kind g (end_kind f steps (root_spot f)))
misses x f = false

-- the named types after a rule: those that it fits have the new template
abbrev pub type_after : Rule → Named → Named
type_after r t = (t.0, unwrap_or (target r t.0 t.1) t.1)

-- the family with other named types
abbrev pub with_types : List Named → Family → Family
with_types ts f = record f { types = ts }

abbrev pub family_after : Fix → Family → Family
family_after (rule.rule r) f = with_types (map (type_after r) f.types) f
family_after (deep steps g) f = f
family_after (new_type n V) f = with_types (f.types ++ (n, V) ∷ []) f
family_after (drop_type n) f = with_types (filter (λ t. not (same_name n t.0)) f.types) f

-- why a family has no next one
pub data Refusal : Type 0 where
  no_name : Refusal
  missed : Refusal
  ill_formed : Flaw → Refusal

abbrev pub if_formed : Family → Option Flaw → Result Family Refusal
if_formed f None = Ok f
if_formed f (Some w) = Err (ill_formed w)

-- the family after a fix, or the first reason why there is none
abbrev pub next : Fix → Family → Result Family Refusal
next x f = if names_nothing x f then Err no_name else (if misses x f then Err missed else if_formed (family_after x f) (first_flaw (family_after x f)))

-- what a fix does to a tree at the named type n
abbrev pub plain : Fix → Family → List ℕ → Plain → Plain
plain (rule.rule r) f n t = plain_rule f.form r (body f) n t
plain (deep steps g) f n t = if same_name n f.root then at_end f.form f steps (leaf_value g) (root_spot f) t else t
plain x f n t = t
