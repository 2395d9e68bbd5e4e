-- A migrator as a stored value.
use Rattle.std.specs.Prelude.{ℕ, refl}
use Rattle.std.specs.Coded.{Coded, code_by, coded_ℕ, coded×}
use Rattle.mig_rule.specs.Chain.{Chain}
use Rattle.mig_rule.specs.ChainCode.{coded_chain}
use Rattle.mig_lift.specs.Setting.{Setting}

abbrev pub coded_setting : Coded Setting
coded_setting = code_by (Chain × ℕ) (coded× coded_chain coded_ℕ) (λ s. (s.chain, s.target)) (λ t. record { chain = t.0; target = t.1 }) (λ _. refl)
