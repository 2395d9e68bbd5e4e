use Rattle.std.proofs.Common.{sym, subst}
use Rattle.mig_run.specs.declared.words.Request.{Request}
use Rattle.mig_run.specs.Causes.{PutsCommand}
use Rattle.mig_run.specs.View.{asked_by}
use Rattle.mig_run.proofs.command.run_by.Goals as goal

pub returns-in-Lift-clause-lines : goal.returns-in-Lift-clause-lines
returns-in-Lift-clause-lines g c text is =
    subst (λ (r : Request). PutsCommand (asked_by r) (g.F.Files.counts c.args.files.now) (g.F.Files.counts c.lift_by.new.files) (g.S.Sink.written c.args.report.now) (g.S.Sink.written c.lift_by.new.report) c.lift_by.result) (sym c.in-Lift.is) (c.lift_by.ensures.lines text is)
