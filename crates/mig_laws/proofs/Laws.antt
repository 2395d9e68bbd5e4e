-- The laws' proofs, and the law for the parts of bodies.
use Rattle.std.proofs.Common.{suc}
use Rattle.mig_model.specs.Inhabits.{depth}
use Rattle.mig_model.specs.Family.{body}
use Rattle.mig_laws.specs.Laws.{PlaceUnfolds, InhabitsUnfolds, PlaceIsExact}
use Rattle.mig_laws.proofs.Inhabitants.{inhabits_unfold}
use Rattle.mig_laws.proofs.WrongPlaces.{place_unfold}
use Rattle.mig_laws.proofs.Exact.{within_none}
use Rattle.mig_laws.proofs.Formed.{body_guarded, body_apart}

pub place_unfolds : PlaceUnfolds
place_unfolds f e n t = place_unfold f.form (body f) (body_guarded f e) n t

pub inhabits_unfolds : InhabitsUnfolds
inhabits_unfolds f e n t = inhabits_unfold f.form (body f) (body_guarded f e) n t

pub place_is_exact : PlaceIsExact
place_is_exact f e n t = within_none f.form (body f) (body_apart f e) (suc (depth t)) n t
