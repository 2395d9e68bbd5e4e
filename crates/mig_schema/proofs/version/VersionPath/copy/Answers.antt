use Rattle.std.proofs.Common.{◌≡◌, ◌∙◌, sym, subst, arith}
use Rattle.std.proofs.lemmas.List.{take_all}
use Rattle.mig_schema.specs.Version.{IsVersionPath}
use Rattle.mig_schema.proofs.version.VersionPath.copy.Goals as goal

pub invariant_of-result : goal.invariant_of-result
invariant_of-result c =
    let all : c.loop-name.names.items ≡ c.args.self.now = c.loop-name.invariant ∙ take_all c.loop-name.name-index c.names-name-items.result.now (omega arith) ∙ c.names-name-items.ensures.names in
    subst IsVersionPath (sym all) c.names-name-items.ensures.keep
