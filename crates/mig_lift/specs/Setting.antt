-- A migrator: a chain and a target.
use Rattle.std.specs.Prelude.{◌≡◌, ℕ, ◌≤◌, true, IfSome, slice_get}
use Rattle.mig_model.specs.Version.{last_version}
use Rattle.mig_rule.specs.Chain.{Chain, versions}
use Rattle.mig_lift.specs.Small.{is_small}

pub record Setting : Type 0 where
  pub chain : Chain
  pub target : ℕ

-- the chain is small, and the target is a version that isn't below its first
pub record IsInReach (s : Setting) : Type 0 where
  pub first : IfSome (slice_get (versions s.chain.steps) 0) (λ v. v ≤ s.target)
  pub last : s.target ≤ last_version
  pub small : is_small s.chain ≡ true
