-- What the reading of a file says of the format.
use Rattle.std.proofs.Common.{◌≡◌, ℕ, List, Result, Ok, Err, sym, ap, ◌∙◌}
use Rattle.std.specs.Prelude.{IfOk}
use Rattle.std.proofs.lemmas.Option.{same_Some}
use Rattle.mig_model.specs.Plain.{Plain}
use Rattle.mig_tree.specs.View.{plain_of}
use Rattle.mig_tree.specs.declared.tree.Tree.{Tree}
use Rattle.mig_nbt.specs.declared.error.NbtError.{NbtError}
use Rattle.mig_nbt.specs.declared.error.NbtError.TheVariants as errors
use Rattle.mig_nbt.specs.Format.{NbtSave}
use Rattle.mig_nbt.specs.Reading.{Gives, save_at}
use Rattle.mig_model.specs.Kinds.{IsMap}
use Rattle.mig_nbt.specs.Writing.{IsName, IsSpelled}
use Rattle.mig_nbt.proofs.Laws.{save_sound, save_complete}
use Rattle.mig_nbt.proofs.Spelled.{save_spelled}

abbrev pub GivesSave : List ℕ → Result (List ℕ × Tree) NbtError → Type 0
GivesSave bytes r = Gives (λ x. (x.0, plain_of x.1)) r (save_at bytes)

pub is_found : (bytes : List ℕ) (r : Result (List ℕ × Tree) NbtError) → GivesSave bytes r → IfOk r (λ x. NbtSave bytes x.0 (plain_of x.1))
is_found bytes (Ok x) g = save_sound bytes x.0 (plain_of x.1) g
is_found bytes (Err e) g = tt

pub is_spelled : (bytes : List ℕ) (r : Result (List ℕ × Tree) NbtError) → GivesSave bytes r → IfOk r (λ x. IsName x.0 × IsMap (plain_of x.1) × IsSpelled (plain_of x.1))
is_spelled bytes (Ok x) g = save_spelled bytes x.0 (plain_of x.1) (save_sound bytes x.0 (plain_of x.1) g)
is_spelled bytes (Err e) g = tt

pub none_is_wrong : (bytes : List ℕ) (r : Result (List ℕ × Tree) NbtError) → GivesSave bytes r → r ≡ Err errors.Wrong → (name : List ℕ) (t : Plain) → NbtSave bytes name t → ⊥
none_is_wrong bytes (Ok x) g e name t p = absurd cc
none_is_wrong bytes (Err errors.Wrong) g e name t p = let s = save_complete bytes name t p in absurd cc
none_is_wrong bytes (Err errors.Memory) g e name t p = absurd cc

pub is_only : (bytes : List ℕ) (r : Result (List ℕ × Tree) NbtError) → GivesSave bytes r → IfOk r (λ x. (name : List ℕ) (t : Plain) → NbtSave bytes name t → (name ≡ x.0) × (t ≡ plain_of x.1))
is_only bytes (Ok x) g = λ name t p.
    let same : (name, t) ≡ (x.0, plain_of x.1) = same_Some (name, t) (x.0, plain_of x.1) (sym (save_complete bytes name t p) ∙ g) in
    (ap (λ (a : List ℕ × Plain). a.0) same, ap (λ (a : List ℕ × Plain). a.1) same)
is_only bytes (Err e) g = tt
