-- One save, from its parts.
use Rattle.std.proofs.Common.{◌≡◌, inl, inr, refl, sym, ◌∙◌, ap, subst, ℕ, List, [], Option, Some, None, Result, Ok, Err}
use Rattle.std.specs.Prelude.{IsSome}
use Rattle.std.proofs.lemmas.List.{append-nil}
use Rattle.mig_files.specs.Held.{Key, Held}
use Rattle.mig_run.specs.declared.stop.Stop.{Stop}
use Rattle.mig_run.specs.declared.stop.Stop.TheVariants as stop
use Rattle.mig_lift.specs.Lift.{Save, Cause}
use Rattle.mig_run.specs.Folder.{Job, lifted, Free, Grows, OneSave, line}
use Rattle.std.specs.Prelude.{unwrap_or}
use Rattle.mig_run.specs.declared.save.Verdict.{Verdict}
use Rattle.mig_run.specs.View.{found, Judges, Keeps, Told}
use Rattle.mig_run.proofs.Maps.{assign_same}

pub free_as_is : (now : Held) (key : Key) (new : Option Held) (v : Result Save Cause) → new ≡ Some now → Free now key v new
free_as_is now key new (Ok save) is = (now key, is ∙ ap (λ (h : Held). Some h) (sym (assign_same now key)))
free_as_is now key new (Err cause) is = is

pub grows_nothing : (o : Option (List ℕ)) → Grows o o []
grows_nothing None = tt
grows_nothing (Some bytes) = ap (λ (l : List ℕ). Some l) (sym (append-nil bytes))

-- a save that stops before it is kept
pub stopped : (job : Job) (name : List ℕ) (now : Held) (new : Option Held) (report : Option (List ℕ)) (e : Stop) → new ≡ Some now → (e ≡ stop.Report → ⊥) → OneSave job name now new report report (Err e)
stopped job name now new report stop.Files is isnt = (free_as_is now (job.to, name) new (lifted job name) is, refl)
stopped job name now new report stop.Report is isnt = absurd (isnt refl)
stopped job name now new report stop.Memory is isnt = (inl is, grows_nothing report)

pub judged : (o h : Option (List ℕ)) (lift : List ℕ → Result Save Cause) (v : Verdict) → IsSome h → o ≡ h → Judges o lift (Ok v) → found v ≡ Some (lift (unwrap_or h []))
judged o None lift v some is j = absurd (cc some)
judged o (Some b) lift v some is j = subst (λ (p : Option (List ℕ)). Judges p lift (Ok v)) is j

pub keep_stopped : (job : Job) (name : List ℕ) (now : Held) (new : Option Held) (report : Option (List ℕ)) (e : Stop) → Keeps now (job.to, name) (Some (lifted job name)) new (Err e) → OneSave job name now new report report (Err e)
keep_stopped job name now new report stop.Files k = (k, refl)
keep_stopped job name now new report stop.Report k = absurd k
keep_stopped job name now new report stop.Memory k = (inl k, grows_nothing report)

pub tell_stopped : (job : Job) (name : List ℕ) (now : Held) (new : Option Held) (old_report new_report : Option (List ℕ)) (e : Stop) → Keeps now (job.to, name) (Some (lifted job name)) new (Ok tt) → Told (line job name) old_report new_report (Err e) → OneSave job name now new old_report new_report (Err e)
tell_stopped job name now new old_report new_report stop.Files k t = absurd t
tell_stopped job name now new old_report new_report stop.Report k t = (k, t)
tell_stopped job name now new old_report new_report stop.Memory k t = (inr k, t)
