use Rattle.mig_path.specs.Fields.{null}
use Rattle.mig_path.proofs.Over.{join_over}
use Rattle.mig_path.proofs.laws.rest_is_frame.Goals as goal

pub returns : goal.returns
returns c o v t = join_over o (λ w. null) v t
