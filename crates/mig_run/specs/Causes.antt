-- What the lines that a run puts tell, on any files and any report, also on those that tell nothing of what they hold.
use Rattle.std.specs.Prelude.{◌≡◌, ◌≢◌, ◌⊎◌, ℕ, ◌+◌, ◌≤◌, Bool, true, List, [], ◌∷◌, ◌++◌, Option, Some, None, Result, Ok, Err, IsErrOf}
use Rattle.std.specs.List.{list_any}
use Rattle.mig_files.specs.Held.{Rose, RoseBy, Counts, NoneFell}
use Rattle.mig_lift.specs.Lift.{Save, Cause}
use Rattle.mig_run.specs.declared.stop.Stop.{Stop}
use Rattle.mig_run.specs.declared.stop.Stop.TheVariants as stop
use Rattle.mig_run.specs.declared.stop.Ending.{Ending}
use Rattle.mig_run.specs.declared.stop.Ending.TheVariants as ending
use Rattle.mig_rule.specs.Chain.{Chain}
use Rattle.mig_run.specs.Chains.{IsTheChain, MayTell, MayRefuse, count_line}
use Rattle.mig_run.specs.Command.{Asked, lift, check, Puts, Says, ended}
use Rattle.mig_run.specs.Folder.{Grows, GrowsInto, is_refused}
use Rattle.mig_run.specs.Lines.{Listed, listed_line, listed_lines}

-- no count falls, and a part of a run stops for the files or for the report only where a call of theirs failed in it
pub record HasCauses {A : Type 0} (before now : Counts) (faults_before faults_now : ℕ) (result : Result A Stop) : Type 0 where
  pub counts : NoneFell before now
  pub later : faults_before ≤ faults_now
  pub files : IsErrOf result stop.Files → Rose before.faults now.faults
  pub report : IsErrOf result stop.Report → Rose faults_before faults_now

-- a listed save that wasn't there is refused too
abbrev pub is_refusal : Option (Result Save Cause) → Bool
is_refusal None = true
is_refusal (Some outcome) = is_refused outcome

abbrev pub any_refusal : List Listed → Bool
any_refusal saves = list_any (λ s. is_refusal s.1) saves

abbrev pub absent_as_number : Option (Result Save Cause) → ℕ
absent_as_number None = 1
absent_as_number (Some outcome) = 0

-- how many of the listed saves weren't there
abbrev pub absent_in : List Listed → ℕ
absent_in [] = 0
absent_in (s ∷ saves) = absent_as_number s.1 + absent_in saves

-- the report has grown by the lines of these saves; where a put failed, the last one's line is there in part
abbrev pub PutsLines : ℕ → List Listed → Option (List ℕ) → Option (List ℕ) → Result Bool Stop → Type 0
PutsLines target saves old new (Ok refused) = Grows old new (listed_lines target saves) × (refused ≡ any_refusal saves)
PutsLines target saves old new (Err stop.Files) = Grows old new (listed_lines target saves)
PutsLines target saves old new (Err stop.Memory) = Grows old new (listed_lines target saves)
PutsLines target saves old new (Err stop.Report) =
    (done : List Listed) × (last : Listed) × (saves ≡ done ++ last ∷ []) × GrowsInto old new (listed_lines target done) (listed_line target last)

-- the lines of listed saves are put, and as many reads answered that nothing is there as lines say so
pub record PutsSaves (target : ℕ) (before now : Counts) (old new : Option (List ℕ)) (result : Result Bool Stop) : Type 0 where
  pub saves : List Listed
  pub absent : RoseBy (absent_in saves) before.absent now.absent
  pub lines : PutsLines target saves old new result

-- nothing is put, and no call of the report failed
abbrev pub Stops : Option (List ℕ) → Option (List ℕ) → Result Ending Stop → Type 0
Stops old new (Ok e) = ⊥
Stops old new (Err e) = (e ≢ stop.Report) × (new ≡ old)

-- a line of status 2 is put, which has its cause; or else what the command does: the lines of listed saves are put, or the line of an accepted chain
abbrev pub PutsCommand : Asked → Counts → Counts → Option (List ℕ) → Option (List ℕ) → Result Ending Stop → Type 0
PutsCommand (lift a) before now old new result =
    ((line : List ℕ) × MayRefuse a.target before now line × Says line old new result)
    ⊎ ((w : Result Bool Stop) × (result ≡ ended w) × PutsSaves a.target before now old new w)
PutsCommand (check chain) before now old new result =
    ((line : List ℕ) × MayTell before now line × Says line old new result)
    ⊎ ((text : List ℕ) × (c : Chain) × IsTheChain text c × Puts ending.Done (count_line c) old new result)
    ⊎ Stops old new result
