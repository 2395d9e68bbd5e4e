-- The words of the command line, and what a run of them does.
use Rattle.std.specs.Prelude.{◌≡◌, ◌⊎◌, ℕ, ◌+◌, ◌-◌, ◌*◌, ◌<◌, ◌≤◌, ◌==◌, nat_lt, nat_le, ◌&&◌, if◌then◌else◌, Bool, List, [], ◌∷◌, length, Option, Some, None, option_map, Result, Ok, Err, codes, bytes_eq, decimal}
use Rattle.mig_files.specs.Held.{Held}
use Rattle.mig_model.specs.Version.{last_version}
use Rattle.mig_rule.specs.Chain.{Chain}
use Rattle.mig_run.specs.declared.stop.Stop.{Stop}
use Rattle.mig_run.specs.declared.stop.Stop.TheVariants as stop
use Rattle.mig_run.specs.declared.stop.Ending.{Ending}
use Rattle.mig_run.specs.declared.stop.Ending.TheVariants as ending
use Rattle.mig_run.specs.Lines.{usage_line, absent_line}
use Rattle.mig_run.specs.Chains.{TextFault, IsTextFault, text_fault_line, IsTheChain, refusal_of, count_line}
use Rattle.mig_run.specs.Folder.{Job, job_of, Grows, GrowsInto, Untouched, WholeFolder}

-- the word is the decimal text of a number that a version may be
abbrev pub IsNumber : List ℕ → ℕ → Type 0
IsNumber word n = (word ≡ decimal n) × (n ≤ last_version)

-- ---- how a number is read
-- plain decimal digits behind a number, which stays at most the last version
abbrev pub number_from : ℕ → List ℕ → Option ℕ
number_from n [] = Some n
number_from n (b ∷ bytes) = if (nat_le 48 b && nat_le b 57) && nat_le (10 * n + (b - 48)) last_version then number_from (10 * n + (b - 48)) bytes else None

-- a number of the command line: `0`, or digits without a leading zero
unfoldable pub number_of_word : List ℕ → Option ℕ
number_of_word [] = None
number_of_word (b ∷ bytes) = if b == 48 then (if length bytes == 0 then Some 0 else None) else number_from 0 (b ∷ bytes)

-- a chain's file, the folder of the saves, the folder that the lifted ones go to, and a version
pub record Lifting : Type 0 where
  pub chain : List ℕ
  pub source : List ℕ
  pub aim : List ℕ
  pub target : ℕ

-- what the words ask for: to lift, or to check the chain of that file
pub data Asked : Type 0 where
  lift : Lifting → Asked
  check : List ℕ → Asked

-- the words ask for this: `lift`, three names and a number; or `check` and a name
abbrev pub Asks : List (List ℕ) → Asked → Type 0
Asks words (lift a) = (number : List ℕ) × (words ≡ codes "lift" ∷ a.chain ∷ a.source ∷ a.aim ∷ number ∷ []) × IsNumber number a.target
Asks words (check chain) = words ≡ codes "check" ∷ chain ∷ []

abbrev pub AsksNothing : List (List ℕ) → Type 0
AsksNothing words = (a : Asked) → Asks words a → ⊥

-- what is read of the words
abbrev pub asked_at : List ℕ → List ℕ → List ℕ → Option ℕ → Option Asked
asked_at chain source aim None = None
asked_at chain source aim (Some n) = Some (lift (record { chain = chain; source = source; aim = aim; target = n }))

abbrev pub asked : List (List ℕ) → Option Asked
asked (command ∷ chain ∷ source ∷ aim ∷ target ∷ []) = if bytes_eq command (codes "lift") then asked_at chain source aim (number_of_word target) else None
asked (command ∷ chain ∷ []) = if bytes_eq command (codes "check") then Some (check chain) else None
asked words = None

-- the file of the chain
abbrev pub chain_of : Asked → List ℕ
chain_of (lift a) = a.chain
chain_of (check chain) = chain

-- a line is put, and the run ends so
abbrev pub Puts : Ending → List ℕ → Option (List ℕ) → Option (List ℕ) → Result Ending Stop → Type 0
Puts ends line old_report new_report (Ok e) = (e ≡ ends) × Grows old_report new_report line
Puts ends line old_report new_report (Err stop.Report) = GrowsInto old_report new_report [] line
Puts ends line old_report new_report (Err stop.Files) = new_report ≡ old_report
Puts ends line old_report new_report (Err stop.Memory) = Grows old_report new_report []

-- a line of status 2 is put, and nothing else is done
abbrev pub Says : List ℕ → Option (List ℕ) → Option (List ℕ) → Result Ending Stop → Type 0
Says line old_report new_report result = Puts ending.NotRun line old_report new_report result

-- a line of status 2 is put, and the files stay
abbrev pub Refuses : Held → List ℕ → Option Held → Option (List ℕ) → Option (List ℕ) → Result Ending Stop → Type 0
Refuses held line new old_report new_report result = (new ≡ Some held) × Says line old_report new_report result

abbrev pub ended : Result Bool Stop → Result Ending Stop
ended (Ok refused) = Ok (if refused then ending.SomeRefused else ending.Done)
ended (Err e) = Err e

-- the line is put where one is due, and else the folder is lifted
abbrev pub LineOrFolder : Option (List ℕ) → Job → Option Held → Option (List ℕ) → Option (List ℕ) → Result Ending Stop → Type 0
LineOrFolder (Some line) job new old_report new_report result = Refuses job.held line new old_report new_report result
LineOrFolder None job new old_report new_report result = (w : Result Bool Stop) × (result ≡ ended w) × WholeFolder job new old_report new_report w

-- what is done by an accepted chain: its saves are lifted, or its schemas and fixes are counted
abbrev pub ChainRuns : Asked → Held → Chain → Option Held → Option (List ℕ) → Option (List ℕ) → Result Ending Stop → Type 0
ChainRuns (lift a) held c new old_report new_report result = LineOrFolder (refusal_of c a.target) (job_of c a.target a.source a.aim held) new old_report new_report result
ChainRuns (check chain) held c new old_report new_report result = (new ≡ Some held) × Puts ending.Done (count_line c) old_report new_report result

-- the command, by what is held under the chain's key: nothing; or a text, which isn't read, is no chain, or is one
abbrev pub CommandRuns : Asked → Held → Option (List ℕ) → Option Held → Option (List ℕ) → Option (List ℕ) → Result Ending Stop → Type 0
CommandRuns a held None new old_report new_report result = Refuses held absent_line new old_report new_report result
CommandRuns a held (Some text) new old_report new_report result =
    Untouched held new old_report new_report result
    ⊎ ((f : TextFault) × IsTextFault f text × Refuses held (text_fault_line f) new old_report new_report result)
    ⊎ ((c : Chain) × IsTheChain text c × ChainRuns a held c new old_report new_report result)

-- by what is read of the words
abbrev pub RunsAsked : Option Asked → Held → Option Held → Option (List ℕ) → Option (List ℕ) → Result Ending Stop → Type 0
RunsAsked None held new old_report new_report result = Refuses held usage_line new old_report new_report result
RunsAsked (Some a) held new old_report new_report result = CommandRuns a held (held (46 ∷ [], chain_of a)) new old_report new_report result

-- a run of the words on files that tell what they hold: they ask for nothing, or for a run of a command
abbrev pub Runs : List (List ℕ) → Held → Option Held → Option (List ℕ) → Option (List ℕ) → Result Ending Stop → Type 0
Runs words held new old_report new_report result =
    (AsksNothing words × Refuses held usage_line new old_report new_report result)
    ⊎ ((a : Asked) × Asks words a × CommandRuns a held (held (46 ∷ [], chain_of a)) new old_report new_report result)

-- the exit status
abbrev pub status_of : Result Ending Stop → ℕ
status_of (Ok ending.Done) = 0
status_of (Ok ending.SomeRefused) = 1
status_of (Ok ending.NotRun) = 2
status_of (Err stop.Files) = 3
status_of (Err stop.Report) = 4
status_of (Err stop.Memory) = 5

-- a status stands for an answer
abbrev pub Outcome : (Result Ending Stop → Type 0) → ℕ → Type 0
Outcome P status = (r : Result Ending Stop) × (status ≡ status_of r) × P r
