use Rattle.std.proofs.Common.{◌∙◌, ℕ, Ok, Err, refl, ap, subst, arith}
use Rattle.std.proofs.lemmas.Result.{err_from_is_err_and}
use Rattle.mig_run.specs.Lines.{listed_line}
use Rattle.mig_run.specs.View.{found, job_at, Told}
use Rattle.mig_run.proofs.Causes.{stops_before, one_put, one_stops_at}
use Rattle.mig_run.proofs.Loop.{fell_not}
use Rattle.mig_run.proofs.Steps.{stopped}
use Rattle.mig_run.proofs.save.lift_save.Goals as goal

pub returns-in_err-verdict-clause-told : goal.returns-in_err-verdict-clause-told
returns-in_err-verdict-clause-told g c held now there has at =
    let p = err_from_is_err_and c.from_residual.result c.from_residual.ensures.1 in
    rw (p.1, p.2) (stopped (job_at c.args.migrator.now c.args.folders.from.now c.args.folders.to.now held) c.args.name.now now _ (g.S.Sink.written c.args.report.now) c.in_err-verdict.field-0.0 (c.judge.ensures.same ∙ has) (λ is. c.in_err-verdict.ensures.report (ap Err is)))

pub returns-in_err-verdict-clause-lines : goal.returns-in_err-verdict-clause-lines
returns-in_err-verdict-clause-lines g c =
    let p = err_from_is_err_and c.from_residual.result c.from_residual.ensures.1 in
    let report = g.S.Sink.written c.args.report.now in
    rw (p.1, p.2) (stops_before c.args.migrator.now.target (g.F.Files.counts c.args.files.now) (g.F.Files.counts c.judge.new.files) report report c.in_err-verdict.field-0.0 c.judge.ensures.counts.absent refl (λ is. c.in_err-verdict.ensures.report (ap Err is)))

pub returns-in_err-keep-clause-lines : goal.returns-in_err-keep-clause-lines
returns-in_err-keep-clause-lines g c =
    let p = err_from_is_err_and c.from_residual-in_err-keep.result c.from_residual-in_err-keep.ensures.1 in
    let report = g.S.Sink.written c.args.report.now in
    rw (p.1, p.2) (stops_before c.args.migrator.now.target (g.F.Files.counts c.args.files.now) (g.F.Files.counts c.keep.new.files) report report c.in_err-keep.field-0.0 (fell_not c.judge.ensures.counts c.keep.ensures.counts).absent refl (λ is. c.in_err-keep.ensures.report (ap Err is)))

pub returns-in_err-put_save_line-clause-lines : goal.returns-in_err-put_save_line-clause-lines
returns-in_err-put_save_line-clause-lines g c =
    let p = err_from_is_err_and c.from_residual-in_err-put_save_line.result c.from_residual-in_err-put_save_line.ensures.1 in
    let v = found c.in_ok-verdict.verdict in
    let old = g.S.Sink.written c.args.report.now in
    let new = g.S.Sink.written c.put_save_line.new.report in
    let e = c.in_err-put_save_line.field-0.0 in
    rw (p.1, p.2) (one_stops_at c.args.migrator.now.target (g.F.Files.counts c.args.files.now) (g.F.Files.counts c.keep.new.files) old new c.args.name.now v
    (λ is. let rose = c.in_ok-verdict.ensures.absent is in omega (arith, rose, c.keep.ensures.counts.absent)) (fell_not c.judge.ensures.counts c.keep.ensures.counts).absent e
    (subst (λ (t : ℕ). Told (listed_line t (c.args.name.now, v)) old new (Err e)) c.target.ensures c.in_err-put_save_line.ensures.told))

pub returns-clause-lines : goal.returns-clause-lines
returns-clause-lines g c =
    let v = found c.in_ok-verdict.verdict in
    let old = g.S.Sink.written c.args.report.now in
    let new = g.S.Sink.written c.put_save_line.new.report in
    one_put c.args.migrator.now.target (g.F.Files.counts c.args.files.now) (g.F.Files.counts c.keep.new.files) old new c.args.name.now v
    (λ is. let rose = c.in_ok-verdict.ensures.absent is in omega (arith, rose, c.keep.ensures.counts.absent)) (fell_not c.judge.ensures.counts c.keep.ensures.counts).absent c.is_refusal.result
    (subst (λ (t : ℕ). Told (listed_line t (c.args.name.now, v)) old new (Ok tt)) c.target.ensures c.in_ok-put_save_line.ensures.told) c.is_refusal.ensures
