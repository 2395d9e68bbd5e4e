use Rattle.std.proofs.Common.{sym, ◌∙◌}
use denote.Enum.Bare.{same_true, true_same}
use Rattle.mig_token.specs.contracts.mark.Mark.{the_type}
use Rattle.mig_token.proofs.mark.Mark.is.Goals as goal

pub returns : goal.returns
returns c =
    let eq = c.eq.ensures in
    (λ p. same_true the_type tt c.args.self c.args.other (sym eq ∙ p), λ p. eq ∙ true_same the_type c.args.self c.args.other p)
