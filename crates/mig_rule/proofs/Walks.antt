-- What is first wrong at a step of a chain, or that nothing is.
use Rattle.std.proofs.Common.{◌≡◌, ◌<◌, ◌+◌, ℕ, zero, suc, [], List, ◌∷◌, drop, length, get_or, Option, Some, None, Ok, Err, sym, ap, subst, ◌∙◌, arith}
use Rattle.std.specs.Prelude.{Result, IfOk, slice_get}
use Rattle.mig_model.specs.declared.form.Form.{Form}
use Rattle.mig_model.specs.Family.{Family, Flaw, IsSame}
use Rattle.mig_rule.specs.Rule.{Fix}
use Rattle.mig_rule.specs.Fix.{Refusal, no_name, missed, ill_formed, next}
use Rattle.mig_rule.specs.Chain.{ChainStep, Path, InOrder, IsWrong, IsFirst, IsPassed, IsIllFormed, IsFamily, IsNoStart, ArePassed, AreWrongAt, AreAccepted, AreRefusedAt, versions, Known, after, rank, next_schema, schema, fix}
use Rattle.mig_rule.specs.Fault.{IsWalkFault}
use Rattle.mig_rule.specs.Walking.{IsReached, IsLater, IsWrongThere}
use Rattle.mig_rule.specs.declared.fault.ChainError.{ChainError}
use Rattle.mig_rule.specs.declared.fault.ChainError.TheVariants as C
use Rattle.mig_rule.specs.declared.fault.Walk.{Walk}
use Rattle.mig_rule.specs.declared.fault.Walk.TheVariants as W

pub every_ok : {A E P : Type 0} (r : Result A E) → P → IfOk r (λ x. P)
every_ok (Ok a) p = p
every_ok (Err e) p = tt

module _ (form : Form) (path : Path) (s : ℕ × Family) where
  -- ---- schemas
  pub order_first : (v : ℕ) (f : Option Family) (later : List ChainStep) → (InOrder form path (Some s.0) v f → ⊥) → IsFirst (IsWrong form path (Some s) (schema v f) later) W.Order
  order_first v f later h = record { wrong = h; first = by }
    where
      by : (w : Walk) → rank w < 1 → IsWrong form path (Some s) (schema v f) later w → ⊥
      by W.First b p = p
      by w b p = absurd (omega arith)

  pub mismatch_first : (v : ℕ) (f : Family) (later : List ChainStep) → InOrder form path (Some s.0) v (Some f) → (IsSame s.1 f → ⊥) → IsFirst (IsWrong form path (Some s) (schema v (Some f)) later) W.Mismatch
  mismatch_first v f later o h = record { wrong = h; first = by }
    where
      by : (w : Walk) → rank w < 6 → IsWrong form path (Some s) (schema v (Some f)) later w → ⊥
      by W.Order b p = p o
      by W.Mismatch b p = absurd (omega arith)
      by w b p = p

  -- ---- fixes
  module _ (n : ℕ) (x : Fix) (later : List ChainStep) where
    pub number_first : (next_schema later ≡ Some n → ⊥) → IsFirst (IsWrong form path (Some s) (fix n x) later) W.Number
    number_first h = record { wrong = h; first = by }
      where
        by : (w : Walk) → rank w < 2 → IsWrong form path (Some s) (fix n x) later w → ⊥
        by W.First b p = p
        by W.Order b p = p
        by w b p = absurd (omega arith)

    pub no_name_first : next_schema later ≡ Some n → next x s.1 ≡ Err no_name → IsFirst (IsWrong form path (Some s) (fix n x) later) W.NoName
    no_name_first h e = record { wrong = e; first = by }
      where
        by : (w : Walk) → rank w < 3 → IsWrong form path (Some s) (fix n x) later w → ⊥
        by W.First b p = p
        by W.Order b p = p
        by W.Number b p = p h
        by w b p = absurd (omega arith)

    pub missed_first : next_schema later ≡ Some n → next x s.1 ≡ Err missed → IsFirst (IsWrong form path (Some s) (fix n x) later) W.Missed
    missed_first h e = record { wrong = e; first = by }
      where
        by : (w : Walk) → rank w < 4 → IsWrong form path (Some s) (fix n x) later w → ⊥
        by W.First b p = p
        by W.Order b p = p
        by W.Number b p = p h
        by W.NoName b p = absurd (let q : ◌≡◌ {A = Result Family Refusal} (Err no_name) (Err missed) = sym p ∙ e in cc)
        by w b p = absurd (omega arith)

    pub not_formed_first : (a : Flaw) → next_schema later ≡ Some n → next x s.1 ≡ Err (ill_formed a) → IsFirst (IsWrong form path (Some s) (fix n x) later) W.IllFormed
    not_formed_first a h e = record { wrong = subst IsIllFormed (sym e) tt; first = by }
      where
        by : (w : Walk) → rank w < 5 → IsWrong form path (Some s) (fix n x) later w → ⊥
        by W.First b p = p
        by W.Order b p = p
        by W.Number b p = p h
        by W.NoName b p = absurd (let q : ◌≡◌ {A = Result Family Refusal} (Err no_name) (Err (ill_formed a)) = sym p ∙ e in cc)
        by W.Missed b p = absurd (let q : ◌≡◌ {A = Result Family Refusal} (Err missed) (Err (ill_formed a)) = sym p ∙ e in cc)
        by w b p = absurd (omega arith)

module _ (form : Form) (path : Path) where
  -- ---- the first step
  pub start_first : (x : ChainStep) (later : List ChainStep) → IsNoStart None x → IsFirst (IsWrong form path None x later) W.First
  start_first x later h = record { wrong = h; first = λ w b p. absurd (omega arith) }

  pub start_order : (v : ℕ) (f : Family) (later : List ChainStep) → (InOrder form path None v (Some f) → ⊥) → IsFirst (IsWrong form path None (schema v (Some f)) later) W.Order
  start_order v f later h = record { wrong = h; first = by }
    where
      by : (w : Walk) → rank w < 1 → IsWrong form path None (schema v (Some f)) later w → ⊥
      by W.First b p = p
      by w b p = absurd (omega arith)

  -- ---- one step more
  pub none_yet : (s : Known) (xs : List ChainStep) → IsReached form path s xs 0 s xs
  none_yet s xs = record { passed = λ h. h; wrong = λ k w h. subst (λ n. AreWrongAt form path s xs n w) (place k) h }
    where
      place : (k : ℕ) → k ≡ 0 + k
      place k = omega arith

  pub one_further : (s t u : Known) (xs ys : List ChainStep) (x : ChainStep) (i : ℕ) → IsReached form path s xs i t (x ∷ ys) → IsPassed form path t x ys → u ≡ after t x → IsReached form path s xs (i + 1) u ys
  one_further s t u xs ys x i r p e = record {
    passed = λ h. r.passed (p, subst (λ z. ArePassed form path z ys) e h);
    wrong = λ k w h. subst (λ n. AreWrongAt form path s xs n w) (place k) (r.wrong (suc k) w (p, subst (λ z. AreWrongAt form path z ys k w) e h));
  }
    where
      place : (k : ℕ) → i + suc k ≡ (i + 1) + k
      place k = omega arith

  pub wrong_here : (s t : Known) (xs ys : List ChainStep) (x : ChainStep) (i : ℕ) (w : Walk) → IsReached form path s xs i t (x ∷ ys) → IsFirst (IsWrong form path t x ys) w → AreWrongAt form path s xs i w
  wrong_here s t xs ys x i w r h = subst (λ n. AreWrongAt form path s xs n w) place (r.wrong 0 w h)
    where
      place : i + 0 ≡ i
      place = omega arith

  -- what is wrong there stands one place later among all steps
  pub wrong_later : (s t : Known) (xs ys : List ChainStep) (x : ChainStep) (i : ℕ) (e : ChainError) → IsReached form path s xs i t (x ∷ ys) → IsWrongThere e (i + 1) (IsWrong form path t x ys)
      → IsWalkFault e (IsLater (AreWrongAt form path s xs))
  wrong_later s t xs ys x i (C.At k w) r h = (i, (h.0, wrong_here s t xs ys x i w r h.1))
  wrong_later s t xs ys x i C.Memory r h = tt

-- ---- steps at which nothing is wrong
module _ (form : Form) (path : Path) where
  passed_schema : (s : ℕ × Family) (v : ℕ) (f : Option Family) (later : List ChainStep) → IsPassed form path (Some s) (schema v f) later → (w : Walk) → IsWrong form path (Some s) (schema v f) later w → ⊥
  passed_schema s v f later h W.Order p = p h.0
  passed_schema s v (Some f) later h W.Mismatch p = p h.1
  passed_schema s v None later h W.Mismatch p = p
  passed_schema s v f later h w p = p

  passed_fix : (s : ℕ × Family) (n : ℕ) (x : Fix) (later : List ChainStep) → IsPassed form path (Some s) (fix n x) later → (w : Walk) → IsWrong form path (Some s) (fix n x) later w → ⊥
  passed_fix s n x later h W.Number p = p h.0
  passed_fix s n x later h W.NoName p = subst IsFamily p h.1
  passed_fix s n x later h W.Missed p = subst IsFamily p h.1
  passed_fix s n x later h W.IllFormed p = by (next x s.1) h.1 p
    where
      by : (r : Result Family Refusal) → IsFamily r → IsIllFormed r → ⊥
      by (Ok g) i j = j
      by (Err e) i j = i
  passed_fix s n x later h w p = p

  passed_start : (v : ℕ) (f : Family) (later : List ChainStep) → InOrder form path None v (Some f) → (w : Walk) → IsWrong form path None (schema v (Some f)) later w → ⊥
  passed_start v f later o W.Order p = p o
  passed_start v f later o w p = p

  passed_step : (s : Known) (x : ChainStep) (later : List ChainStep) → IsPassed form path s x later → (w : Walk) → IsWrong form path s x later w → ⊥
  passed_step None (schema v (Some f)) later h w p = passed_start v f later h w p
  passed_step None (schema v None) later h w p = h
  passed_step None (fix n x) later h w p = h
  passed_step (Some s) (schema v f) later h w p = passed_schema s v f later h w p
  passed_step (Some s) (fix n x) later h w p = passed_fix s n x later h w p

  none_wrong : (s : Known) (xs : List ChainStep) → ArePassed form path s xs → (k : ℕ) (w : Walk) → AreWrongAt form path s xs k w → ⊥
  none_wrong s [] h k w p = p
  none_wrong s (x ∷ xs) h zero w p = passed_step s x xs h.0 w p.wrong
  none_wrong s (x ∷ xs) h (suc k) w p = none_wrong (after s x) xs h.1 k w p.1

  pub not_refused : (xs : List ChainStep) → AreAccepted form path xs → (k : ℕ) (w : Walk) → AreRefusedAt form path xs k w → ⊥
  not_refused [] h k w p = h
  not_refused (x ∷ xs) h k w p = none_wrong None (x ∷ xs) h k w p

  -- the first step is a schema
  pub some_version : (xs : List ChainStep) → AreAccepted form path xs → slice_get (versions xs) 0 ≡ None → ⊥
  some_version [] h e = h
  some_version (schema v (Some f) ∷ xs) h e = absurd cc
  some_version (schema v None ∷ xs) h e = h.0
  some_version (fix n x ∷ xs) h e = h.0
