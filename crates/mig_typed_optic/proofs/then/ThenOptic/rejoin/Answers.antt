use Rattle.std.proofs.Common.{refl}
use Rattle.mig_typed_optic.proofs.Thens.{outer_fits}
use Rattle.mig_typed_optic.proofs.then.ThenOptic.rejoin.Goals as goal

pub rejoin-requires : goal.rejoin-requires
rejoin-requires g c κs = ((refl, tt), outer_fits _ _ _ _ _ c.requires c.in_ok-values.ensures)
