use Rattle.std.proofs.Common.{◌≡◌, ◌∙◌, ℕ, List, inl, inr, refl, sym, ap, subst, Err, Ok, arith}
use Rattle.std.proofs.lemmas.Result.{err_from_is_err_and}
use Rattle.mig_run.specs.declared.stop.Stop.{Stop}
use Rattle.mig_run.specs.declared.lift_command.Due.{Due}
use Rattle.mig_run.specs.declared.lift_command.Due.TheVariants as due
use Rattle.mig_run.specs.Folder.{job_of}
use Rattle.mig_run.specs.Chains.{refusal_of}
use Rattle.mig_run.specs.Command.{Says}
use Rattle.mig_run.specs.View.{lifting_by, IsDue}
use Rattle.mig_run.proofs.Causes.{stops_before}
use Rattle.mig_run.proofs.Commands.{folder_runs, lift_stopped}
use Rattle.mig_run.proofs.lift_command.lift_by.Goals as goal

pub returns-in-Err-clause-told : goal.returns-in-Err-clause-told
returns-in-Err-clause-told g c held has =
    lift_stopped (refusal_of c.args.chain c.args.request.target) (job_of c.args.chain c.args.request.target c.args.request.folders.from.now c.args.request.folders.to.now held) (g.F.Files.held c.args.files.now) (g.S.Sink.written c.args.report.now) (g.S.Sink.written c.args.report.now) c.in-Err.stop c.in-Err.ensures.memory has refl

pub returns-in-Err-clause-lines : goal.returns-in-Err-clause-lines
returns-in-Err-clause-lines g c text is =
    let counts = g.F.Files.counts c.args.files.now in
    let report = g.S.Sink.written c.args.report.now in
    inr (Err c.in-Err.stop, refl, stops_before c.args.request.target counts counts report report c.in-Err.stop (omega arith) refl (λ e. let x = sym c.in-Err.ensures.memory ∙ e in cc))

pub returns-in_err-refused-in-Lift-clause-told : goal.returns-in_err-refused-in-Lift-clause-told
returns-in_err-refused-in-Lift-clause-told g c held has =
    let p = err_from_is_err_and c.from_residual.result c.from_residual.ensures.1 in
    let is = subst (λ (d : Due). IsDue c.args.chain c.args.request.target d) c.in-Lift.is c.in-Ok.ensures.due in
    rw (p.1, p.2) (folder_runs (lifting_by c.args.request) held c.args.chain c.in-Lift.migrator (g.F.Files.held c.lift_folder.new.files) (g.S.Sink.written c.args.report.now) (g.S.Sink.written c.lift_folder.new.report) (Err c.in_err-refused-in-Lift.field-0.0) (Err c.in_err-refused-in-Lift.field-0.0) is refl (c.in_err-refused-in-Lift.ensures.told held has))

pub returns-in-Line-clause-lines : goal.returns-in-Line-clause-lines
returns-in-Line-clause-lines g c text is =
    let due_line = subst (λ (d : Due). IsDue c.args.chain c.args.request.target d) c.in-Line.is c.in-Ok.ensures.due in
    inl (c.in-Line.line.items, inr (text, c.args.chain, is, due_line), subst (λ (l : List ℕ). Says l (g.S.Sink.written c.args.report.now) (g.S.Sink.written c.refuse.new.report) c.refuse.result) c.deref.ensures.value c.refuse.ensures.told)
