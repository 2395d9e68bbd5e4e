-- The sizes of residues that stand in a list.
use Rattle.std.proofs.Common.{◌≡◌, ◌<◌, ap, ℕ, zero, suc, List, [], ◌∷◌, length, map, get_or, arith}
use Rattle.mig_path.specs.Rest.{Residual}
use Rattle.mig_any_residue.specs.RestCode.{rest_size, list_size}

-- the rest of a group is smaller than all groups
pub smaller : {G : Type 0} (f : G → ℕ × Residual) (gs : List G) (k : ℕ) (x : G) → k < length gs → x ≡ get_or gs k x → rest_size (f x).1 < list_size (map f gs)
smaller f [] k x l e = absurd (omega arith)
smaller f (g ∷ gs) zero x l e = let same = ap (λ y. rest_size (f y).1) e in omega (arith, same)
smaller f (g ∷ gs) (suc k) x l e = let i = smaller f gs k x (omega arith) e in omega (arith, i)
