-- The path of a deep fix: where it leads, and what is done to the trees that it reaches.
use Rattle.std.specs.Prelude.{ℕ, List, [], ◌∷◌, ◌++◌, Bool, true, false, Option, Some, None, option_map, option_and_then, if◌then◌else◌}
use Rattle.mig_model.specs.declared.form.Form.{Form}
use Rattle.mig_model.specs.declared.kind.Kind.{Kind}
use Rattle.mig_model.specs.Family.{Family, body}
use Rattle.mig_model.specs.Inhabits.{has_tag}
use Rattle.mig_model.specs.Kinds.{kind_of}
use Rattle.mig_model.specs.Plain as plain
use Rattle.mig_model.specs.Plain.{Plain, entries, on_items, on_entries}
use Rattle.mig_model.specs.Template as template
use Rattle.mig_model.specs.Template.{Template, Field, Fields, fields_of, field_list, Choice, no_choice, choice, Cases, no_case, case, case_list, has_kind}
use Rattle.mig_model.specs.Record.{found_case}
use Rattle.mig_model.specs.Names.{under, changed}
use Rattle.mig_rule.specs.Rule.{PathStep, named, each, left, right, in_case}

-- where a path stands: at a template, and whether its case was chosen by the step before
pub record Spot : Type 0 where
  pub template : Template
  pub chosen : Bool

abbrev pub whole : Template → Spot
whole V = record { template = V; chosen = false }

-- a point is crossed to its body
abbrev pub crossed : Family → Spot → Spot
crossed f s = by s.template
  where
    by : Template → Spot
    by (template.point n) = whole (body f n)
    by V = s

abbrev pub fields_in : Cases → List Field
fields_in no_case = []
fields_in (case l fs cs) = field_list fs ++ fields_in cs

-- the fields that a name may mean: the common ones, and those of the case where that was chosen
abbrev pub meant_fields : Bool → Fields → Choice → List Field
meant_fields true fs (choice tag cs kept) = field_list fs ++ fields_in cs
meant_fields chosen fs c = field_list fs

-- the record with the case of the literal alone
abbrev pub with_case_alone : List ℕ → Template → Option Spot
with_case_alone l (template.rec fs (choice tag cs kept) r) = option_map (λ gs. record { template = template.rec fs (choice tag (case l (fields_of gs) no_case) false) r; chosen = true }) (found_case l (Some (tag, case_list cs, kept)))
with_case_alone l V = None

-- the spot after a step, or none where it can't be made
abbrev pub step_to : PathStep → Bool → Template → Option Spot
step_to (named x) chosen (template.rec fs c r) = option_map (λ f. whole f.1) (under x (meant_fields chosen fs c))
step_to each chosen (template.list V) = Some (whole V)
step_to left chosen (template.sum V W) = Some (whole V)
step_to right chosen (template.sum V W) = Some (whole W)
step_to (in_case l) chosen V = with_case_alone l V
step_to s chosen V = None

abbrev pub step_from : Family → PathStep → Spot → Option Spot
step_from f step s = let here = crossed f s in step_to step here.chosen here.template

abbrev pub leaf_kind : Template → Option Kind
leaf_kind (template.leaf k) = Some k
leaf_kind V = None

-- the kind of the leaf at the end, or none where the path has a step that can't be made or ends elsewhere
abbrev pub end_kind : Family → List PathStep → Spot → Option Kind
end_kind f [] s = leaf_kind s.template
end_kind f (step ∷ steps) s = option_and_then (end_kind f steps) (step_from f step s)

-- the tree is a map whose tag is the literal
abbrev pub is_tagged : List ℕ → List ℕ → Plain → Bool
is_tagged tag l (plain.map ps) = has_tag tag l (entries ps)
is_tagged tag l t = false

-- what is done to the trees that a step reaches from a tree of the template
abbrev pub at_step : Form → PathStep → Template → (Plain → Plain) → Plain → Plain
at_step form (named x) V h t = on_entries (changed x h) t
at_step form each V h t = on_items h t
at_step form left (template.sum V W) h t = if has_kind form V (kind_of t) then h t else t
at_step form right (template.sum V W) h t = if has_kind form W (kind_of t) then h t else t
at_step form (in_case l) (template.rec fs (choice tag cs kept) r) h t = if is_tagged tag l t then h t else t
at_step form s V h t = t

-- what is done to each tree that the path reaches
abbrev pub at_end : Form → Family → List PathStep → (Plain → Plain) → Spot → Plain → Plain
at_end form f [] h s t = h t
at_end form f (step ∷ steps) h s t = by (step_from f step s) (at_end form f steps h)
  where
    by : Option Spot → (Spot → Plain → Plain) → Plain
    by None g = t
    by (Some next) g = at_step form step (crossed f s).template (g next) t
