-- Facts of the map of files.
use Rattle.std.proofs.Common.{◌≡◌, refl, ap, true, false, cond}
use Rattle.mig_files.specs.Held.{Key, Held, same_key, assign}
use Rattle.mig_files.proofs.Lists.{fun_ext, is_same}

-- a key assigned what it has stays
pub assign_same : (now : Held) (key : Key) → assign now key (now key) ≡ now
assign_same now key = fun_ext _ _ (λ q. elim (same_key key q) as (λ b. same_key key q ≡ b → cond b (now key) (now q) ≡ now q) [ true ↦ (λ h. ap now (is_same key q h)) | false ↦ (λ h. refl) ] refl)
