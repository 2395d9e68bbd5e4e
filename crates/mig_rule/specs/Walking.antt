-- The walk along a chain, as it lies in memory.
use Rattle.std.specs.Prelude.{◌≡◌, ◌+◌, ℕ, List, Some}
use Rattle.mig_model.specs.declared.form.Form.{Form}
use Rattle.mig_rule.specs.Chain.{ChainStep, Path, Known, IsFirst, ArePassed, AreWrongAt}
use Rattle.mig_rule.specs.Fault.{IsWalkFault}
use Rattle.mig_rule.specs.declared.fault.ChainError.{ChainError}
use Rattle.mig_rule.specs.declared.fault.ChainError.TheVariants as C
use Rattle.mig_rule.specs.declared.fault.StepFault.{StepFault}
use Rattle.mig_rule.specs.declared.fault.StepFault.TheVariants as F
use Rattle.mig_rule.specs.declared.fault.Walk.{Walk}
use Rattle.mig_rule.specs.declared.fault.Walk.TheVariants as W
use Rattle.mig_rule.specs.declared.walking.Standing.{Standing}

abbrev pub known_of : Standing → Known
known_of s = Some (s.version, s.family)

-- the fault of a fix at a place
abbrev pub fault_at : ℕ → StepFault → ChainError
fault_at k F.NoName = C.At k W.NoName
fault_at k F.Missed = C.At k W.Missed
fault_at k (F.IllFormed e) = C.At k W.IllFormed
fault_at k F.Memory = C.Memory

-- what is first wrong at the place; want of memory says nothing
abbrev pub IsWrongThere : ChainError → ℕ → (Walk → Type 0) → Type 0
IsWrongThere e place P = IsWalkFault e (λ k w. (k ≡ place) × IsFirst P w)

-- the place is one further than one of which it is so
abbrev pub IsLater : (ℕ → Walk → Type 0) → ℕ → Walk → Type 0
IsLater P k w = (i : ℕ) × ((k ≡ i + 1) × P i w)

-- n steps lead from the first to the second, and nothing is wrong at any of them
pub record IsReached (form : Form) (path : Path) (s : Known) (xs : List ChainStep) (n : ℕ) (t : Known) (ys : List ChainStep) : Type 0 where
  pub passed : ArePassed form path t ys → ArePassed form path s xs
  pub wrong : (k : ℕ) (w : Walk) → AreWrongAt form path t ys k w → AreWrongAt form path s xs (n + k) w
