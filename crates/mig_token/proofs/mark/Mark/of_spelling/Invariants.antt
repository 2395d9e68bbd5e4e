use Rattle.std.proofs.Common.{◌≢◌, ℕ, ◌<◌, get_or}
use Rattle.mig_token.specs.Spelling.{spelling}
use Rattle.mig_token.specs.declared.mark.Mark.TheVariants as M
use Rattle.mig_token.specs.declared.mark.TheConstants.{MARKS}
use Rattle.mig_token.proofs.mark.Mark.of_spelling.Given as goal

abbrev pub invariant-loop-mark : goal.invariant-loop-mark
invariant-loop-mark l = (k : ℕ) → k < l.mark-index → l.word ≢ spelling (get_or MARKS k M.Form)
