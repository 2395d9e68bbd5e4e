-- What is known of the declarations before one, as it lies in memory.
use Rattle.std.specs.Prelude.{◌≡◌, ℕ, List, length}
use Rattle.std.specs.List.{count_by}
use Rattle.mig_model.specs.Names.{is_among}
use Rattle.mig_syntax.specs.DeclSyntax as syntax
use Rattle.mig_syntax.specs.DeclSyntax.{DeclSyntax}
use Rattle.mig_resolve.specs.Text.{is_schema, is_fix, is_under_own, has_root, has_type, nearest_version}
use Rattle.mig_resolve.specs.declared.before.Before.{Before}

-- these declarations stand before, the nearest first
pub record IsBefore (b : Before) (before : List DeclSyntax) : Type 0 where
  pub count : b.count ≡ length before
  pub schemas : b.schemas ≡ count_by is_schema before
  pub fixes : b.fixes ≡ count_by is_fix before
  pub under_own : b.is_under_own ≡ is_under_own before
  pub root : b.has_root ≡ has_root before
  pub version : b.version ≡ nearest_version before
  pub types : (n : List ℕ) → is_among b.types n ≡ has_type n before

-- no schema, no type and no fix
abbrev pub IsOther : DeclSyntax → Type 0
IsOther (syntax.schema z follows) = ⊥
IsOther (syntax.fix z x) = ⊥
IsOther (syntax.named n t) = ⊥
IsOther d = Unit {0}
