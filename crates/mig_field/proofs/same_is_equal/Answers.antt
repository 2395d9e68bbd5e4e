use Rattle.mig_field.proofs.Same.{decides}
use Rattle.mig_field.proofs.same_is_equal.Goals as goal

pub returns : goal.returns
returns c = decides
