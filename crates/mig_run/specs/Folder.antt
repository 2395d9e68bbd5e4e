-- What lifting a folder does to the files, and the lines it puts.
use Rattle.std.specs.Prelude.{◌≡◌, ◌⊎◌, ◌≢◌, ℕ, ◌-◌, Bool, true, false, ◌&&◌, ◌||◌, nat_lt, if◌then◌else◌, List, [], ◌∷◌, ◌++◌, drop, length, Option, Some, IfSome, IsSome, is_some, Result, Ok, Err, unwrap_or, flat_map, codes, bytes_eq, IsSorted}
use Rattle.std.specs.List.{list_any, IsDistinct, AllByRecursion}
use Rattle.std.specs.Ordering.{nat_cmp}
use Rattle.std.specs.Cmp.Lexicographic.{slice_cmp}
use Rattle.mig_files.specs.Held.{Key, Held, assign, is_among}
use Rattle.mig_model.specs.declared.limits.TheConstants.{MOST_SAVE_BYTES}
use Rattle.mig_model.specs.declared.form.Form.{Form}
use Rattle.mig_model.specs.declared.form.Form.TheVariants as F
use Rattle.mig_rule.specs.Chain.{Chain}
use Rattle.mig_lift.specs.Lift.{Save, Cause, lift}
use Rattle.mig_lift.specs.Lift as lifting
use Rattle.mig_run.specs.declared.stop.Stop.{Stop}
use Rattle.mig_run.specs.declared.stop.Stop.TheVariants as stop
use Rattle.mig_run.specs.Lines.{save_line}

-- what becomes of the bytes of a save: more than 16,777,216 of them are no file of the form
abbrev pub outcome : Chain → ℕ → List ℕ → Result Save Cause
outcome c target b = if nat_lt MOST_SAVE_BYTES (length b) then Err lifting.bytes else lift c target b

-- one run over a folder: how a save is lifted, the form, what the files held at entry, and both folders
pub record Job : Type 0 where
  pub lift : List ℕ → Result Save Cause
  pub target : ℕ
  pub form : Form
  pub held : Held
  pub from : List ℕ
  pub to : List ℕ

abbrev pub job_of : Chain → ℕ → List ℕ → List ℕ → Held → Job
job_of c version source aim held = record { lift = outcome c version; target = version; form = c.form; held = held; from = source; to = aim }

-- the outcome of a save, by the bytes held at entry
abbrev pub lifted : Job → List ℕ → Result Save Cause
lifted job name = job.lift (unwrap_or (job.held (job.from, name)) [])

-- one save's key is set where it was lifted
abbrev pub stored : Held → Key → Result Save Cause → Held
stored now key (Ok save) = assign now key (Some save.bytes)
stored now key (Err cause) = now

abbrev pub after_from : Job → Held → List (List ℕ) → Held
after_from job now [] = now
after_from job now (name ∷ names) = after_from job (stored now (job.to, name) (lifted job name)) names

-- what the files hold after these saves
abbrev pub after : Job → List (List ℕ) → Held
after job names = after_from job job.held names

abbrev pub line : Job → List ℕ → List ℕ
line job name = save_line job.target name (lifted job name)

abbrev pub lines : Job → List (List ℕ) → List ℕ
lines job names = flat_map (line job) names

abbrev pub is_refused : Result Save Cause → Bool
is_refused (Ok save) = false
is_refused (Err cause) = true

abbrev pub any_refused : Job → List (List ℕ) → Bool
any_refused job names = list_any (λ name. is_refused (lifted job name)) names

-- the report has grown by these bytes, where it tells them
abbrev pub Grows : Option (List ℕ) → Option (List ℕ) → List ℕ → Type 0
Grows old new more = IfSome old (λ before. new ≡ Some (before ++ more))

-- the report has grown by these bytes and a first part of the next
abbrev pub GrowsInto : Option (List ℕ) → Option (List ℕ) → List ℕ → List ℕ → Type 0
GrowsInto old new more next = IfSome old (λ before. (front : List ℕ) × (rest : List ℕ) × (next ≡ front ++ rest) × (new ≡ Some (before ++ (more ++ front))))

-- all is as before, but the key of a lifted save is free
abbrev pub Free : Held → Key → Result Save Cause → Option Held → Type 0
Free now key (Ok save) new = (left : Option (List ℕ)) × (new ≡ Some (assign now key left))
Free now key (Err cause) new = new ≡ Some now

-- one save, from what the files hold now
abbrev pub OneSave : Job → List ℕ → Held → Option Held → Option (List ℕ) → Option (List ℕ) → Result Bool Stop → Type 0
OneSave job name now new old_report new_report (Ok refused) =
    (new ≡ Some (stored now (job.to, name) (lifted job name))) × Grows old_report new_report (line job name) × (refused ≡ is_refused (lifted job name))
OneSave job name now new old_report new_report (Err stop.Files) =
    Free now (job.to, name) (lifted job name) new × (new_report ≡ old_report)
OneSave job name now new old_report new_report (Err stop.Report) =
    (new ≡ Some (stored now (job.to, name) (lifted job name))) × GrowsInto old_report new_report [] (line job name)
OneSave job name now new old_report new_report (Err stop.Memory) =
    ((new ≡ Some now) ⊎ (new ≡ Some (stored now (job.to, name) (lifted job name)))) × Grows old_report new_report []

-- where a run over these saves stopped: behind some of them, at one
pub record Splits (names : List (List ℕ)) (done : List (List ℕ)) (name : List ℕ) : Type 0 where
  pub rest : List (List ℕ)
  pub split : names ≡ done ++ name ∷ rest

-- all saves, one after another
abbrev pub AllSaves : Job → List (List ℕ) → Option Held → Option (List ℕ) → Option (List ℕ) → Result Bool Stop → Type 0
AllSaves job names new old_report new_report (Ok refused) =
    (new ≡ Some (after job names)) × Grows old_report new_report (lines job names) × (refused ≡ any_refused job names)
AllSaves job names new old_report new_report (Err stop.Files) =
    (done : List (List ℕ)) × (name : List ℕ) × Splits names done name
    × Free (after job done) (job.to, name) (lifted job name) new × Grows old_report new_report (lines job done)
AllSaves job names new old_report new_report (Err stop.Report) =
    (done : List (List ℕ)) × (name : List ℕ) × Splits names done name
    × (new ≡ Some (after job (done ++ name ∷ []))) × GrowsInto old_report new_report (lines job done) (line job name)
AllSaves job names new old_report new_report (Err stop.Memory) =
    (done : List (List ℕ)) × (name : List ℕ) × Splits names done name
    × ((new ≡ Some (after job done)) ⊎ (new ≡ Some (after job (done ++ name ∷ [])))) × Grows old_report new_report (lines job done)

-- each name once, and each is there
pub record AreThere (held : Held) (folder : List ℕ) (names : List (List ℕ)) : Type 0 where
  pub once : IsDistinct bytes_eq names
  pub there : AllByRecursion (λ name. IsSome (held (folder, name))) names

abbrev pub ends_in : List ℕ → List ℕ → Bool
ends_in name ending = bytes_eq (drop (length name - length ending) name) ending

-- the endings of a form's saves
abbrev pub is_save : Form → List ℕ → Bool
is_save F.Nbt name = ends_in name (codes ".dat") || ends_in name (codes ".nbt")
is_save F.Json name = ends_in name (codes ".json")

-- the saves of a folder, ascending by their names' bytes
pub record IsSaves (form : Form) (held : Held) (folder : List ℕ) (names : List (List ℕ)) : Type 0 where
  pub ascend : IsSorted (slice_cmp nat_cmp) names
  pub once : IsDistinct bytes_eq names
  pub all : (name : List ℕ) → is_among names name ≡ (is_some (held (folder, name)) && is_save form name)

-- nothing was done, and no put failed
abbrev pub Untouched : {A : Type 0} → Held → Option Held → Option (List ℕ) → Option (List ℕ) → Result A Stop → Type 0
Untouched held new old_report new_report (Ok done) = ⊥
Untouched held new old_report new_report (Err e) = (e ≢ stop.Report) × (new ≡ Some held) × (new_report ≡ old_report)

-- a run over a folder: nothing is done, or its saves are, as far as it came
abbrev pub WholeFolder : Job → Option Held → Option (List ℕ) → Option (List ℕ) → Result Bool Stop → Type 0
WholeFolder job new old_report new_report result =
    Untouched job.held new old_report new_report result
    ⊎ ((names : List (List ℕ)) × IsSaves job.form job.held job.from names × AllSaves job names new old_report new_report result)
