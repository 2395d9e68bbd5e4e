use Rattle.mig_value.proofs.Fits.{read_fits}
use Rattle.mig_value.proofs.law.read_fits.Goals as goal

pub returns : goal.returns
returns c = read_fits
