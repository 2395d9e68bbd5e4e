use Rattle.std.proofs.Common.{◌∙◌, sym, subst, List, ℕ, ◌||◌, take, map, arith}
use Rattle.std.specs.Prelude.{string_bytes}
use Rattle.std.proofs.lemmas.Result.{err_from_is_err_and}
use Rattle.mig_run.specs.Folder.{after}
use Rattle.mig_run.specs.View.{job_at}
use Rattle.mig_run.proofs.Causes.{saves_more, saves_stop}
use Rattle.mig_run.proofs.Loop.{Done, one_more, one_stops, still_there, splits_at, takes_one, fell_not}
use Rattle.mig_run.proofs.folder.lift_all.Goals as goal

pub returns-in_err-one-clause-told : goal.returns-in_err-one-clause-told
returns-in_err-one-clause-told g c held has are =
    let p = err_from_is_err_and c.from_residual.result c.from_residual.ensures.1 in
    let job = job_at c.args.migrator.now c.args.folders.from.now c.args.folders.to.now held in
    let names = map string_bytes c.args.names.now in
    let done = take c.loop-name.name-index names in
    let split = splits_at string_bytes c.args.names.now c.loop-name.name-index c.name-item.result c.as_str.result.now c.loop-name-test.true c.name-item.is c.as_str.ensures.value in
    let d = c.loop-name.invariant.0 held has are in
    let there = still_there job names done c.as_str.result.now split are in
    let s = c.in_err-one.ensures.told held (after job done) there.0 d.0 there.1 in
    rw (p.1, p.2) (one_stops job names done c.as_str.result.now (g.F.Files.held c.loop-name.files) (g.F.Files.held c.lift_save.new.files) (g.S.Sink.written c.args.report.now) (g.S.Sink.written c.loop-name.report) (g.S.Sink.written c.lift_save.new.report) c.loop-name.refused c.in_err-one.field-0.0 split d s)

pub loop-name-preserved : goal.loop-name-preserved
loop-name-preserved g c = (
  (λ held has are.
      let job = job_at c.args.migrator.now c.args.folders.from.now c.args.folders.to.now held in
      let names = map string_bytes c.args.names.now in
      let done = take c.loop-name.name-index names in
      let split = splits_at string_bytes c.args.names.now c.loop-name.name-index c.name-item.result c.as_str.result.now c.loop-name-test.true c.name-item.is c.as_str.ensures.value in
      let one = takes_one string_bytes c.args.names.now c.loop-name.name-index c.name-item.result c.as_str.result.now c.loop-name-test.true c.name-item.is c.as_str.ensures.value in
      let d = c.loop-name.invariant.0 held has are in
      let there = still_there job names done c.as_str.result.now split are in
      let s = c.in_ok-one.ensures.told held (after job done) there.0 d.0 there.1 in
      subst (λ (l : List (List ℕ)). Done job l (g.F.Files.held c.lift_save.new.files) (g.S.Sink.written c.args.report.now) (g.S.Sink.written c.lift_save.new.report) (c.loop-name.refused || c.in_ok-one.one)) (sym one)
      (one_more job done c.as_str.result.now (g.F.Files.held c.loop-name.files) (g.F.Files.held c.lift_save.new.files) (g.S.Sink.written c.args.report.now) (g.S.Sink.written c.loop-name.report) (g.S.Sink.written c.lift_save.new.report) c.loop-name.refused c.in_ok-one.one d s)),
  saves_more c.args.migrator.now.target (g.F.Files.counts c.args.files.now) (g.F.Files.counts c.loop-name.files) (g.F.Files.counts c.lift_save.new.files) (g.S.Sink.written c.args.report.now) (g.S.Sink.written c.loop-name.report) (g.S.Sink.written c.lift_save.new.report)
      c.loop-name.refused c.loop-name.invariant.1 c.in_ok-one.one c.in_ok-one.ensures.lines,
  fell_not c.loop-name.invariant.2 c.in_ok-one.ensures.causes.counts,
  omega (arith, c.loop-name.invariant.3, c.in_ok-one.ensures.causes.later),
  c.in_ok-one.ensures.steps ∙ c.loop-name.invariant.4,
)

pub returns-in_err-one-clause-lines : goal.returns-in_err-one-clause-lines
returns-in_err-one-clause-lines g c =
    let p = err_from_is_err_and c.from_residual.result c.from_residual.ensures.1 in
    rw (p.1, p.2) (saves_stop c.args.migrator.now.target (g.F.Files.counts c.args.files.now) (g.F.Files.counts c.loop-name.files) (g.F.Files.counts c.lift_save.new.files) (g.S.Sink.written c.args.report.now) (g.S.Sink.written c.loop-name.report) (g.S.Sink.written c.lift_save.new.report)
    c.loop-name.refused c.loop-name.invariant.1 c.in_err-one.field-0.0 c.in_err-one.ensures.lines)
