-- A name is found among fields exactly where one of them has it.
use Rattle.std.proofs.Common.{◌≡◌, ℕ, List}
use Rattle.std.specs.Prelude.{is_some}
use Rattle.std.specs.Map.{keys_of}
use Rattle.std.specs.BTreeMap.{is_at}
use Rattle.std.proofs.lemmas.Map.Made.{is_some-lookup}
use Rattle.mig_model.specs.Names.{by_bytes, under, is_among}
use Rattle.mig_model.specs.Template.{Field}

pub among_is_found : (n : List ℕ) (fs : List Field) → is_some (under n fs) ≡ is_among (keys_of fs) n
among_is_found n fs = is_some-lookup (is_at (by_bytes n)) fs
