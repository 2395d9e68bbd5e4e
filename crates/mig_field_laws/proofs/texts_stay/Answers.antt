use Rattle.mig_field_laws.proofs.Texts as texts
use Rattle.mig_field_laws.proofs.texts_stay.Goals as goal

pub returns : goal.returns
returns c = texts.texts_stay
