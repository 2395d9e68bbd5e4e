-- What an outcome says, and what follows from it.
use Rattle.std.proofs.Common.{◌≡◌, Result, Ok, Err, sym, subst}
use Rattle.std.proofs.lemmas.Result.{IfOk-weaker}
use Rattle.std.specs.Prelude.{IfOk, IfErr}
use Rattle.mig_func.specs.declared.fault.FuncFault.{FuncFault}
use Rattle.mig_func.specs.declared.fault.FuncFault.TheVariants.{Misfit, Memory}
use Rattle.mig_func.specs.New.{IsMisfit}

pub fault_is : (e : FuncFault) (P Q : Type 0) → (P → Q) → IsMisfit e P → IsMisfit e Q
fault_is Misfit P Q f h = f h
fault_is Memory P Q f h = tt

pub fault_map : {T : Type 0} (r : Result T FuncFault) (P Q : Type 0) → (P → Q) → IfErr r (λ e. IsMisfit e P) → IfErr r (λ e. IsMisfit e Q)
fault_map (Ok x) P Q f h = h
fault_map (Err e) P Q f h = fault_is e P Q f h

-- an outcome of what is equal to a
pub ok_at : {A X E : Type 0} (P : A → X → Type 0) (Q : X → Type 0) (a b : A) (r : Result X E) → a ≡ b → ((x : X) → Q x → P b x) → IfOk r Q → IfOk r (P a)
ok_at P Q a b r e f h = subst (λ z. IfOk r (P z)) (sym e) (IfOk-weaker r Q (P b) f h)

pub fault_at : {A T : Type 0} (P : A → Type 0) (Q : Type 0) (a b : A) (r : Result T FuncFault) → a ≡ b → (Q → P b) → IfErr r (λ e. IsMisfit e Q) → IfErr r (λ e. IsMisfit e (P a))
fault_at P Q a b r e f h = subst (λ z. IfErr r (λ e. IsMisfit e (P z))) (sym e) (fault_map r Q (P b) f h)

pub ok_map2 : {T E : Type 0} (r : Result T E) (P Q S : T → Type 0) → ((x : T) → P x → Q x → S x) → IfOk r P → IfOk r Q → IfOk r S
ok_map2 (Ok x) P Q S f h k = f x h k
ok_map2 (Err e) P Q S f h k = h
