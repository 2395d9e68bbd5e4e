-- Taking the version out of a tree keeps the form.
use Rattle.std.proofs.Common.{◌≡◌, refl, ℕ, List, [], ◌∷◌, Bool, true, false}
use Rattle.std.specs.Prelude.{if◌then◌else◌}
use Rattle.mig_model.specs.declared.form.Form.{Form}
use Rattle.mig_model.specs.Plain as plain
use Rattle.mig_model.specs.Plain.{Plain, Pairs, no_pair, pair, pairs_of, entries, on_entries, each_entry}
use Rattle.mig_model.specs.Kinds.{removed}
use Rattle.mig_model.specs.Names.{without, same_name}
use Rattle.mig_model.specs.Inhabits.{Entries, is_in_form, entries_in_form}
use Rattle.mig_model.specs.Family.{last_name}
use Rattle.mig_model.specs.Version.{on_spot, strip}
use Rattle.mig_model.proofs.Bools.{split_and, both_true}

module _ (form : Form) where
  abbrev AreOfForm : Entries → Type 0
  AreOfForm es = entries_in_form form (pairs_of es) ≡ true

  entries_of_form : (ps : Pairs) → entries_in_form form ps ≡ true → AreOfForm (entries ps)
  entries_of_form no_pair e = refl
  entries_of_form (pair n t ps) e = let both = split_and (is_in_form form t) (entries_in_form form ps) e in both_true _ _ both.0 (entries_of_form ps both.1)

  without_of_form : (x : List ℕ) (es : Entries) → AreOfForm es → AreOfForm (without x es)
  without_of_form x [] e = refl
  without_of_form x (p ∷ es) e =
      let both = split_and (is_in_form form p.1) (entries_in_form form (pairs_of es)) e in
      go (same_name x p.0) both.0 both.1 (without_of_form x es both.1)
    where
      go : (b : Bool) → is_in_form form p.1 ≡ true → AreOfForm es → AreOfForm (without x es) → AreOfForm (if b then es else p ∷ without x es)
      go true t r rest = r
      go false t r rest = both_true _ _ t rest

  each_of_form : (g : List ℕ → Plain → Plain) → ((n : List ℕ) (t : Plain) → is_in_form form t ≡ true → is_in_form form (g n t) ≡ true) → (es : Entries) → AreOfForm es → AreOfForm (each_entry g es)
  each_of_form g h [] e = refl
  each_of_form g h (p ∷ es) e =
      let both = split_and (is_in_form form p.1) (entries_in_form form (pairs_of es)) e in
      both_true _ _ (h p.0 p.1 both.0) (each_of_form g h es both.1)

  on_map : (g : Entries → Entries) → ((es : Entries) → AreOfForm es → AreOfForm (g es)) → (t : Plain) → is_in_form form t ≡ true → is_in_form form (on_entries g t) ≡ true
  on_map g h (plain.map ps) e = h (entries ps) (entries_of_form ps e)
  on_map g h t e = e

  removed_of_form : (x : List ℕ) (t : Plain) → is_in_form form t ≡ true → is_in_form form (removed x t) ≡ true
  removed_of_form x (plain.map ps) e = without_of_form x (entries ps) (entries_of_form ps e)
  removed_of_form x t e = e

  spot_of_form : (f : Plain → Plain) → ((t : Plain) → is_in_form form t ≡ true → is_in_form form (f t) ≡ true) → (xs : List (List ℕ)) (t : Plain) → is_in_form form t ≡ true → is_in_form form (on_spot f xs t) ≡ true
  spot_of_form f h (x ∷ (y ∷ xs)) t e =
      on_map (each_entry (λ n u. if same_name x n then on_spot f (y ∷ xs) u else u))
      (each_of_form (λ n u. if same_name x n then on_spot f (y ∷ xs) u else u) (λ n u k. go (same_name x n) u k (spot_of_form f h (y ∷ xs) u k))) t e
    where
      go : (b : Bool) (u : Plain) → is_in_form form u ≡ true → is_in_form form (on_spot f (y ∷ xs) u) ≡ true → is_in_form form (if b then on_spot f (y ∷ xs) u else u) ≡ true
      go true u k r = r
      go false u k r = k
  spot_of_form f h (x ∷ []) t e = h t e
  spot_of_form f h [] t e = h t e

  -- the tree without the version
  pub strip_of_form : (xs : List (List ℕ)) (t : Plain) → is_in_form form t ≡ true → is_in_form form (strip xs t) ≡ true
  strip_of_form xs t e = spot_of_form (removed (last_name xs)) (removed_of_form (last_name xs)) xs t e
