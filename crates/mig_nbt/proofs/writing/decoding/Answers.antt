use Rattle.mig_nbt.proofs.Laws.{save_sound, save_complete}
use Rattle.mig_nbt.proofs.writing.decoding.Goals as goal

pub returns : goal.returns
returns c = λ b name t. (save_sound b name t, save_complete b name t)
