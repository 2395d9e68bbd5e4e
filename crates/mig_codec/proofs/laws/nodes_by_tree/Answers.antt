use Rattle.mig_codec.proofs.NodesOf.{nodes_by_tree as law}
use Rattle.mig_codec.proofs.laws.nodes_by_tree.Goals as goal

pub returns : goal.returns
returns c = law
