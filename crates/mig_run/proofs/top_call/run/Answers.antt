use Rattle.std.proofs.Common.{Ok, Err, sym, ap}
use Rattle.mig_run.specs.declared.stop.Ending.{Ending}
use Rattle.mig_run.specs.declared.stop.Stop.{Stop}
use Rattle.mig_run.specs.Command.{status_of}
use Rattle.mig_run.proofs.top_call.run.Goals as goal

pub returns-in-Ok-Done-clause-lines : goal.returns-in-Ok-Done-clause-lines
returns-in-Ok-Done-clause-lines g c a h = (Ok c.in-Ok-Done.field-0, ap (λ (e : Ending). status_of (Ok e)) (sym c.in-Ok-Done.field-0-is), c.in-Ok-Done.ensures.lines a h)

pub returns-in-Ok-SomeRefused-clause-lines : goal.returns-in-Ok-SomeRefused-clause-lines
returns-in-Ok-SomeRefused-clause-lines g c a h = (Ok c.in-Ok-SomeRefused.field-0, ap (λ (e : Ending). status_of (Ok e)) (sym c.in-Ok-SomeRefused.field-0-is), c.in-Ok-SomeRefused.ensures.lines a h)

pub returns-in-Ok-NotRun-clause-lines : goal.returns-in-Ok-NotRun-clause-lines
returns-in-Ok-NotRun-clause-lines g c a h = (Ok c.in-Ok-NotRun.field-0, ap (λ (e : Ending). status_of (Ok e)) (sym c.in-Ok-NotRun.field-0-is), c.in-Ok-NotRun.ensures.lines a h)

pub returns-in-Err-Files-clause-lines : goal.returns-in-Err-Files-clause-lines
returns-in-Err-Files-clause-lines g c a h = (Err c.in-Err-Files.field-0, ap (λ (e : Stop). status_of (Err e)) (sym c.in-Err-Files.field-0-is), c.in-Err-Files.ensures.lines a h)

pub returns-in-Err-Report-clause-lines : goal.returns-in-Err-Report-clause-lines
returns-in-Err-Report-clause-lines g c a h = (Err c.in-Err-Report.field-0, ap (λ (e : Stop). status_of (Err e)) (sym c.in-Err-Report.field-0-is), c.in-Err-Report.ensures.lines a h)

pub returns-in-Err-Memory-clause-lines : goal.returns-in-Err-Memory-clause-lines
returns-in-Err-Memory-clause-lines g c a h = (Err c.in-Err-Memory.field-0, ap (λ (e : Stop). status_of (Err e)) (sym c.in-Err-Memory.field-0-is), c.in-Err-Memory.ensures.lines a h)
