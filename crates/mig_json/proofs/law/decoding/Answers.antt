use Rattle.mig_json.proofs.Decoded.{law}
use Rattle.mig_json.proofs.law.decoding.Goals as goal

pub returns : goal.returns
returns c = law
