-- What a version path keeps, and the tree of a version.
use Rattle.std.specs.Prelude.{ℕ, ◌≤◌, List, length, pos}
use Rattle.mig_model.specs.declared.form.Form.{Form}
use Rattle.mig_model.specs.declared.form.Form.TheVariants as F
use Rattle.mig_model.specs.Plain as plain
use Rattle.mig_model.specs.Plain.{Plain}

-- one to three names
pub record IsVersionPath (names : List (List ℕ)) : Type 0 where
  pub one : 1 ≤ length names
  pub three : length names ≤ 3

abbrev pub version_tree : Form → ℕ → Plain
version_tree F.Nbt n = plain.int (pos n)
version_tree F.Json n = plain.whole (pos n)
