use Rattle.std.proofs.Common.{◌∙◌, Err, inr, refl, sym, ap, subst, map, Option}
use Rattle.std.specs.Prelude.{string_bytes, IfSome}
use Rattle.std.proofs.lemmas.Result.{err_from_is_err_and}
use Rattle.mig_files.specs.Held.{Held}
use Rattle.mig_model.specs.declared.form.Form.{Form}
use Rattle.mig_run.specs.Folder.{IsSaves}
use Rattle.mig_run.proofs.Causes.{stops_before, later_saves}
use Rattle.mig_run.proofs.Listing.{are_there}
use Rattle.mig_run.proofs.folder.lift_folder.Goals as goal

pub returns-clause-told : goal.returns-clause-told
returns-clause-told g c held has =
    let from = c.args.folders.from.now in
    let form = c.args.migrator.now.chain.form in
    let listed = subst (λ (o : Option Held). IfSome o (λ m. IsSaves c.form.result m from (map string_bytes c.in_ok-names.names.items))) has c.in_ok-names.ensures.told in
    let saves = subst (λ (f : Form). IsSaves f held from (map string_bytes c.in_ok-names.names.items)) c.form.ensures listed in
    let lent = subst (λ l. IsSaves form held from (map string_bytes l)) (sym c.deref.ensures.value) saves in
    let names = map string_bytes c.deref.result.now in
    inr (names, lent, c.lift_all.ensures.told held (c.list_saves.ensures.same ∙ has) (are_there form held from names lent))

pub returns-in_err-names-clause-lines : goal.returns-in_err-names-clause-lines
returns-in_err-names-clause-lines g c =
    let p = err_from_is_err_and c.from_residual.result c.from_residual.ensures.1 in
    let report = g.S.Sink.written c.args.report.now in
    rw (p.1, p.2) (stops_before c.args.migrator.now.target (g.F.Files.counts c.args.files.now) (g.F.Files.counts c.list_saves.new.files) report report c.in_err-names.field-0.0 c.list_saves.ensures.counts.absent refl (λ is. c.in_err-names.ensures.report (ap Err is)))

pub returns-clause-lines : goal.returns-clause-lines
returns-clause-lines g c =
    later_saves c.args.migrator.now.target (g.F.Files.counts c.args.files.now) (g.F.Files.counts c.list_saves.new.files) (g.F.Files.counts c.lift_all.new.files) (g.S.Sink.written c.args.report.now) (g.S.Sink.written c.lift_all.new.report)
    c.lift_all.result c.list_saves.ensures.counts.absent c.lift_all.ensures.lines
