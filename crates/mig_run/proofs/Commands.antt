-- A command, from its parts.
use Rattle.std.proofs.Common.{rules, ◌≡◌, ◌∙◌, ◌≤◌, ◌<◌, inl, inr, refl, sym, ap, subst, ℕ, Bool, true, false, List, [], Option, Some, None, Result, Ok, Err, IfSome, arith}
use Rattle.std.specs.Prelude.{if◌then◌else◌, nat_lt, slice_get}
use Rattle.mig_files.specs.Held.{Held, Counts, Rose, NoneFell}
use Rattle.mig_rule.specs.Chain.{Chain, versions}
use Rattle.mig_lift.specs.Small.{is_small}
use Rattle.mig_lift.specs.Setting.{Setting}
use Rattle.mig_run.specs.declared.stop.Stop.{Stop}
use Rattle.mig_run.specs.declared.stop.Stop.TheVariants as stop
use Rattle.mig_run.specs.declared.stop.Ending.{Ending}
use Rattle.mig_run.specs.declared.lift_command.Due.TheVariants as due
use Rattle.mig_run.specs.Folder.{Job, job_of, WholeFolder}
use Rattle.mig_run.specs.Causes.{PutsCommand}
use Rattle.mig_run.specs.Lines.{not_yet_line, below_line}
use Rattle.mig_run.specs.Chains.{first_of, below, refusal_of, MayTell, MayRefuse}
use Rattle.mig_run.specs.Command.{Lifting, Asked, lift, check, ended, LineOrFolder, ChainRuns, CommandRuns}
use Rattle.mig_run.specs.View.{job_at, IsDue}
use Rattle.mig_run.proofs.Loop.{grows_still}
use Rattle.mig_run.proofs.Steps.{grows_nothing}
use Rattle.mig_run.proofs.Causes.{stops_before, later_saves}

-- what is known of the map that is told
pub known : (o : Option Held) (held : Held) (P : Held → Type 0) → o ≡ Some held → IfSome o P → P held
known o held P has is = subst (λ (p : Option Held). IfSome p P) has is

-- ---- what is due by a chain
pub not_small : (c : Chain) (target : ℕ) → is_small c ≡ false → refusal_of c target ≡ Some not_yet_line
not_small c target e = ap (λ (b : Bool). if b then below (first_of c) target else Some not_yet_line) e

small_is : (c : Chain) (target : ℕ) → is_small c ≡ true → refusal_of c target ≡ below (first_of c) target
small_is c target e = ap (λ (b : Bool). if b then below (first_of c) target else Some not_yet_line) e

is_below : (v target : ℕ) → target < v → below (Some v) target ≡ Some (below_line v)
is_below v target l = search rules

not_below : (v target : ℕ) → v ≤ target → below (Some v) target ≡ None
not_below v target l = search rules

pub target_below : (c : Chain) (v target : ℕ) → is_small c ≡ true → first_of c ≡ Some v → target < v → refusal_of c target ≡ Some (below_line v)
target_below c v target small first l = small_is c target small ∙ ap (λ o. below o target) first ∙ is_below v target l

pub lifts_due : (c : Chain) (target : ℕ) → is_small c ≡ true → IfSome (first_of c) (λ v. v ≤ target) → refusal_of c target ≡ None
lifts_due c target small reach = small_is c target small ∙ by (first_of c) reach
  where
    by : (o : Option ℕ) → IfSome o (λ v. v ≤ target) → below o target ≡ None
    by None h = refl
    by (Some v) h = not_below v target h

-- ---- the command `lift`
pub folder_runs : (a : Lifting) (held : Held) (c : Chain) (m : Setting) (new : Option Held) (old_report new_report : Option (List ℕ)) (w : Result Bool Stop) (r : Result Ending Stop)
    → IsDue c a.target (due.Lift m) → r ≡ ended w → WholeFolder (job_at m a.source a.aim held) new old_report new_report w → ChainRuns (lift a) held c new old_report new_report r
folder_runs a held c m new old_report new_report w r is ends whole =
    let there : WholeFolder (job_of c a.target a.source a.aim held) new old_report new_report w = subst (λ (k : Setting). WholeFolder (job_at k a.source a.aim held) new old_report new_report w) is.1 whole in
    subst (λ (o : Option (List ℕ)). LineOrFolder o (job_of c a.target a.source a.aim held) new old_report new_report r) (sym is.0) (w, ends, there)

-- nothing is done where memory ran out before
pub lift_stopped : (o : Option (List ℕ)) (job : Job) (new : Option Held) (old_report new_report : Option (List ℕ)) (e : Stop) → e ≡ stop.Memory → new ≡ Some job.held → new_report ≡ old_report → LineOrFolder o job new old_report new_report (Err e)
lift_stopped o job new old_report new_report e is files same = subst (λ (x : Stop). LineOrFolder o job new old_report new_report (Err x)) (sym is) (by o)
  where
    by : (o : Option (List ℕ)) → LineOrFolder o job new old_report new_report (Err stop.Memory)
    by None = (Err stop.Memory, refl, inl ((λ r. absurd cc), files, same))
    by (Some line) = (files, grows_still old_report old_report [] new_report same (grows_nothing old_report))

pub command_stopped : (a : Asked) (held : Held) (o : Option (List ℕ)) (new : Option Held) (old_report new_report : Option (List ℕ)) (e : Stop) → (e ≡ stop.Report → ⊥) → new ≡ Some held → new_report ≡ old_report → CommandRuns a held o new old_report new_report (Err e)
command_stopped a held (Some text) new old_report new_report e isnt files same = inl (isnt, files, same)
command_stopped a held None new old_report new_report stop.Files isnt files same = (files, same)
command_stopped a held None new old_report new_report stop.Report isnt files same = absurd (isnt refl)
command_stopped a held None new old_report new_report stop.Memory isnt files same = (files, grows_still old_report old_report [] new_report same (grows_nothing old_report))

pub puts_stopped : (a : Asked) (before now : Counts) (old new : Option (List ℕ)) (e : Stop) → before.absent ≤ now.absent → new ≡ old → (e ≡ stop.Report → ⊥) → PutsCommand a before now old new (Err e)
puts_stopped (lift a) before now old new e later same isnt = inr (Err e, refl, stops_before a.target before now old new e later same isnt)
puts_stopped (check chain) before now old new e later same isnt = inr (inr (isnt, same))

-- counts that went up before
later_rose : (a b c : ℕ) → a ≤ b → Rose b c → Rose a c
later_rose a b c l r = omega (arith, l, r)

later_tells : (a b c : Counts) (line : List ℕ) → NoneFell a b → MayTell b c line → MayTell a c line
later_tells a b c line fell (inl (is, rose)) = inl (is, later_rose a.absent b.absent c.absent fell.absent rose)
later_tells a b c line fell (inr (inl (is, rose))) = inr (inl (is, later_rose a.long b.long c.long fell.long rose))
later_tells a b c line fell (inr (inr h)) = inr (inr h)

later_refuses : (target : ℕ) (a b c : Counts) (line : List ℕ) → NoneFell a b → MayRefuse target b c line → MayRefuse target a c line
later_refuses target a b c line fell (inl h) = inl (later_tells a b c line fell h)
later_refuses target a b c line fell (inr h) = inr h

pub later_puts : (asked : Asked) (a b c : Counts) (old new : Option (List ℕ)) (r : Result Ending Stop) → NoneFell a b → PutsCommand asked b c old new r → PutsCommand asked a c old new r
later_puts (lift l) a b c old new r fell (inl h) = inl (h.0, later_refuses l.target a b c h.0 fell h.1, h.2)
later_puts (lift l) a b c old new r fell (inr h) = inr (h.0, h.1, later_saves l.target a b c old new h.0 fell.absent h.2)
later_puts (check chain) a b c old new r fell (inl h) = inl (h.0, later_tells a b c h.0 fell h.1, h.2)
later_puts (check chain) a b c old new r fell (inr h) = inr h
