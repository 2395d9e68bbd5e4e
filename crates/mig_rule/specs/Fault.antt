-- Why there is no new template, or no next family.
use Rattle.std.specs.Prelude.{◌≡◌, ℕ, Option, Some, None, option_map, Result, Err}
use Rattle.mig_model.specs.Family.{Family}
use Rattle.mig_schema.specs.Fault.{flaw_of}
use Rattle.mig_schema.specs.declared.fault.SchemaFault.{SchemaFault}
use Rattle.mig_schema.specs.declared.fault.SchemaFault.TheVariants as S
use Rattle.mig_rule.specs.Fix.{Refusal, no_name, missed, ill_formed}
use Rattle.mig_rule.specs.declared.fault.StepFault.{StepFault}
use Rattle.mig_rule.specs.declared.fault.StepFault.TheVariants as F
use Rattle.mig_rule.specs.declared.fault.ChainError.{ChainError}
use Rattle.mig_rule.specs.declared.fault.ChainError.TheVariants as C
use Rattle.mig_rule.specs.declared.fault.Walk.{Walk}
use Rattle.mig_rule.specs.declared.fault.TargetFault.{TargetFault}
use Rattle.mig_rule.specs.declared.fault.TargetFault.TheVariants.{Unfit, Memory}

-- the rule doesn't fit for this reason; want of memory says nothing
abbrev pub IsFault : TargetFault → Type 0 → Type 0
IsFault Unfit P = P
IsFault Memory P = Unit {0}

-- what the fault of a fix says
abbrev pub refusal_of : StepFault → Option Refusal
refusal_of F.NoName = Some no_name
refusal_of F.Missed = Some missed
refusal_of (F.IllFormed e) = option_map ill_formed (flaw_of e)
refusal_of F.Memory = None

-- the family is refused so; want of memory says nothing
abbrev pub IsRefused : StepFault → Result Family Refusal → Type 0
IsRefused F.Memory r = Unit {0}
IsRefused e r = option_map Err (refusal_of e) ≡ Some r

-- what a fault of the family after a fix says of the fix
abbrev pub refused_by : SchemaFault → StepFault
refused_by S.Memory = F.Memory
refused_by e = F.IllFormed e

-- the steps are wrong so; want of memory says nothing
abbrev pub IsWalkFault : ChainError → (ℕ → Walk → Type 0) → Type 0
IsWalkFault (C.At k w) P = P k w
IsWalkFault C.Memory P = Unit {0}
