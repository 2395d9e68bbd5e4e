-- What a step of a rule answers for a child.
use Rattle.std.specs.Prelude.{◌≡◌, ◌||◌, false, List, [], ◌∷◌, map, Option, Result, IfOk, option_map, if◌then◌else◌}
use denote.Ref.{Bor}
use Rattle.mig_model.specs.declared.memory.Memory.{Memory}
use Rattle.mig_model.specs.Template.{Template, fields_of}
use Rattle.mig_model.specs.Record.{Case}
use Rattle.mig_template.specs.declared.template.Template as code
use Rattle.mig_template.specs.View.{template_of}
use Rattle.mig_rule.specs.Children as model
use Rattle.mig_rule.specs.Target as target
use Rattle.mig_rule.specs.Target.{is_changed, is_unfit}
use Rattle.mig_rule.specs.declared.outcome.Met.{Met}
use Rattle.mig_rule.specs.declared.outcome.Child.{Child}
use Rattle.mig_rule.specs.declared.outcome.Outcome.{Outcome}
use Rattle.mig_rule.specs.declared.outcome.Outcome.TheVariants as O

abbrev pub outcome_of : Outcome → target.Outcome
outcome_of O.Stays = target.stays
outcome_of (O.Becomes V) = target.becomes (template_of V)
outcome_of O.Unfit = target.unfit

abbrev pub child_of : Child → model.Child
child_of c = (option_map (λ n. n.now) c.name, template_of c.template.now)

-- the answers are those of o
abbrev pub Answers : (Child → Result Outcome Memory → Type 0) → (model.Child → target.Outcome) → Type 0
Answers post o = (c : Child) (r : Result Outcome Memory) → post c r → IfOk r (λ x. outcome_of x ≡ o (child_of c))

-- what was met before, and among these children
abbrev pub met_one : target.Outcome → Met → Met
met_one o m = record { changed = m.changed || is_changed o; unfit = m.unfit || is_unfit o }

abbrev pub met_all : (model.Child → target.Outcome) → List model.Child → Met → Met
met_all o [] m = m
met_all o (c ∷ cs) m = met_all o cs (met_one (o c) m)

abbrev pub none_met : Met
none_met = record { changed = false; unfit = false }

-- the new template of each child that becomes another
abbrev pub new_templates : (model.Child → target.Outcome) → List model.Child → List (Option Template)
new_templates o cs = map (λ c. target.changed (o c)) cs

abbrev pub case_templates : (model.Child → target.Outcome) → List Case → List (List (Option Template))
case_templates o cs = map (λ c. new_templates o (model.field_children (fields_of c.1))) cs

-- what becomes of a template whose children were met, and which would be this one
abbrev pub decided : Met → Template → target.Outcome
decided m W = if m.unfit then target.unfit else (if m.changed then target.becomes W else target.stays)

-- the new templates are those of R
abbrev pub Retypes : (Bor code.Template → Result (Option code.Template) Memory → Type 0) → target.Retyping → Type 0
Retypes post R = (t : Bor code.Template) (r : Result (Option code.Template) Memory) → post t r → IfOk r (λ x. option_map template_of x ≡ R (template_of t.now))
