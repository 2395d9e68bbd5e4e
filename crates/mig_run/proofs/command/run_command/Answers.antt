use Rattle.std.proofs.Common.{◌≡◌, ◌∙◌, ℕ, List, [], ◌∷◌, refl, sym, ap, subst, Err, Ok}
use Rattle.mig_run.specs.declared.chain.Reading.{Reading}
use Rattle.mig_run.specs.Command.{chain_of}
use Rattle.mig_run.specs.View.{asked_by, MayBeRead}
use Rattle.mig_run.proofs.Commands.{command_stopped, puts_stopped, later_puts}
use Rattle.mig_run.proofs.command.run_command.Goals as goal

pub returns-in-Err-clause-told : goal.returns-in-Err-clause-told
returns-in-Err-clause-told g c held has =
    command_stopped (asked_by c.args.request) held (held (46 ∷ [], chain_of (asked_by c.args.request))) (g.F.Files.held c.read_chain.new.files) (g.S.Sink.written c.args.report.now) (g.S.Sink.written c.args.report.now) c.in-Err.stop (λ e. c.in-Err.ensures.report (ap Err e)) (c.read_chain.ensures.same ∙ has) refl

pub returns-in-Err-clause-lines : goal.returns-in-Err-clause-lines
returns-in-Err-clause-lines g c =
    puts_stopped (asked_by c.args.request) (g.F.Files.counts c.args.files.now) (g.F.Files.counts c.read_chain.new.files) (g.S.Sink.written c.args.report.now) (g.S.Sink.written c.args.report.now) c.in-Err.stop c.read_chain.ensures.counts.absent refl (λ e. c.in-Err.ensures.report (ap Err e))

pub returns-in-Chain-clause-lines : goal.returns-in-Chain-clause-lines
returns-in-Chain-clause-lines g c =
    let before = g.F.Files.counts c.args.files.now in
    let between = g.F.Files.counts c.read_chain.new.files in
    let is = subst (λ (r : Reading). MayBeRead before between r) c.in-Chain.is c.in-Ok.ensures.untold in
    later_puts (asked_by c.args.request) before between (g.F.Files.counts c.run_by.new.files) (g.S.Sink.written c.args.report.now) (g.S.Sink.written c.run_by.new.report) c.run_by.result c.read_chain.ensures.counts (c.run_by.ensures.lines is.0 is.1)
