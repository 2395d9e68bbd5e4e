use Rattle.std.proofs.Common.{sym, subst}
use Rattle.mig_model.specs.Kinds.{IsMap}
use Rattle.mig_tree.specs.View.{plain_of}
use Rattle.mig_lift.proofs.Edits.{map_stripped}
use Rattle.mig_lift.proofs.version.strip_version.Goals as goal

pub returns-clause-map : goal.returns-clause-map
returns-clause-map c = subst IsMap (sym c.strip-version.ensures.rest) (map_stripped c.args.path.now (plain_of c.args.tree.now) c.requires)
