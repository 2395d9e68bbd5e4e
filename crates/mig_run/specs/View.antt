-- What the answers of the parts stand for.
use Rattle.std.specs.Prelude.{◌≡◌, ◌≤◌, ℕ, List, [], Option, Some, None, Result, Ok, Err}
use Rattle.mig_files.specs.Held.{Key, Held, Counts}
use Rattle.mig_lift.specs.Lift.{Save, Cause}
use Rattle.mig_lift.specs.Lift as lifting
use Rattle.mig_lift.specs.Setting.{Setting}
use Rattle.mig_model.specs.Version.{last_version}
use Rattle.mig_rule.specs.Chain.{Chain}
use Rattle.mig_run.specs.declared.chain.Reading.{Reading}
use Rattle.mig_run.specs.declared.chain.Reading.TheVariants as reading
use Rattle.mig_run.specs.declared.lift_command.Due.{Due}
use Rattle.mig_run.specs.declared.lift_command.Due.TheVariants as due
use Rattle.mig_run.specs.declared.save.Verdict.{Verdict}
use Rattle.mig_run.specs.declared.save.Verdict.TheVariants as verdict
use Rattle.mig_run.specs.declared.words.LiftRequest.{LiftRequest}
use Rattle.mig_run.specs.declared.words.Request.{Request}
use Rattle.mig_run.specs.declared.words.Request.TheVariants as request
use Rattle.mig_run.specs.declared.stop.Stop.{Stop}
use Rattle.mig_run.specs.declared.stop.Stop.TheVariants as stop
use Rattle.mig_parse.specs.declared.fault.ParseFault.{ParseFault}
use Rattle.mig_parse.specs.declared.fault.ParseFault.TheVariants as parse
use Rattle.mig_run.specs.Lines.{absent_line, too_long_line, declaration_line}
use Rattle.mig_run.specs.Chains.{TextFault, IsTextFault, text_fault_line, IsTheChain, MayTell, refusal_of}
use Rattle.mig_run.specs.Folder.{Job, job_of, outcome, stored, Free, Grows, GrowsInto}
use Rattle.mig_run.specs.Command as command
use Rattle.mig_run.specs.Command.{Lifting, Asked}

abbrev pub lifting_by : LiftRequest → Lifting
lifting_by r = record { chain = r.chain.now; source = r.folders.from.now; aim = r.folders.to.now; target = r.target }

abbrev pub asked_by : Request → Asked
asked_by (request.Lift r) = command.lift (lifting_by r)
asked_by (request.Check chain) = command.check chain.now

-- a target is a version
abbrev pub IsBounded : Request → Type 0
IsBounded (request.Lift r) = r.target ≤ last_version
IsBounded (request.Check chain) = Unit {0}

-- a migrator's job
abbrev pub job_at : Setting → List ℕ → List ℕ → Held → Job
job_at m source aim held = job_of m.chain m.target source aim held

-- what was found, and none where the save wasn't there
abbrev pub found : Verdict → Option (Result Save Cause)
found (verdict.Lifted b v) = Some (Ok (record { bytes = b.items; version = v }))
found verdict.Absent = None
found verdict.Bytes = Some (Err lifting.bytes)
found (verdict.Version k) = Some (Err (lifting.version k))
found (verdict.Schema p) = Some (Err (lifting.schema p))

-- what the answer of a judgement says of the bytes under a key
abbrev pub Judges : Option (List ℕ) → (List ℕ → Result Save Cause) → Result Verdict Stop → Type 0
Judges None lift (Ok v) = found v ≡ None
Judges (Some b) lift (Ok v) = found v ≡ Some (lift b)
Judges here lift (Err stop.Files) = Unit {0}
Judges here lift (Err stop.Report) = ⊥
Judges here lift (Err stop.Memory) = Unit {0}

-- what keeping a verdict does to the files
abbrev pub Keeps : Held → Key → Option (Result Save Cause) → Option Held → Result (Unit {0}) Stop → Type 0
Keeps now key None new kept = new ≡ Some now
Keeps now key (Some outcome) new (Ok done) = new ≡ Some (stored now key outcome)
Keeps now key (Some outcome) new (Err stop.Files) = Free now key outcome new
Keeps now key (Some outcome) new (Err stop.Report) = ⊥
Keeps now key (Some outcome) new (Err stop.Memory) = new ≡ Some now

-- what putting a line does to the report
abbrev pub Told : List ℕ → Option (List ℕ) → Option (List ℕ) → Result (Unit {0}) Stop → Type 0
Told line old new (Ok done) = Grows old new line
Told line old new (Err stop.Report) = GrowsInto old new [] line
Told line old new (Err stop.Memory) = Grows old new []
Told line old new (Err stop.Files) = ⊥

-- the line of a text that gives no declarations
abbrev pub IsGrammarLine : ParseFault → List ℕ → Type 0
IsGrammarLine parse.TooLong l = l ≡ too_long_line
IsGrammarLine (parse.Declaration k) l = l ≡ declaration_line k
IsGrammarLine parse.Memory l = ⊥

-- what is read is what is held under the chain's key: nothing, a text that is no chain, or one that is
abbrev pub IsRead : Option (List ℕ) → Reading → Type 0
IsRead None (reading.Line l) = l.items ≡ absent_line
IsRead None (reading.Chain c) = ⊥
IsRead (Some text) (reading.Line l) = (f : TextFault) × (IsTextFault f text × (l.items ≡ text_fault_line f))
IsRead (Some text) (reading.Chain c) = IsTheChain text c

-- what may be read, on files that tell nothing
abbrev pub MayBeRead : Counts → Counts → Reading → Type 0
MayBeRead before now (reading.Line l) = MayTell before now l.items
MayBeRead before now (reading.Chain c) = (text : List ℕ) × IsTheChain text c

-- what is due by a chain: the line that refuses it, or a migrator
abbrev pub IsDue : Chain → ℕ → Due → Type 0
IsDue c target (due.Line l) = refusal_of c target ≡ Some l.items
IsDue c target (due.Lift m) = (refusal_of c target ≡ None) × (m ≡ record { chain = c; target = target })
