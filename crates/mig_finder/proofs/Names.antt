-- Names that are equal, and names of which none stands twice.
use Rattle.std.proofs.Common.{◌≡◌, ◌∙◌, sym, ap, ℕ, List, [], ◌∷◌, ◌++◌, Bool, true, false, true≢false}
use Rattle.std.proofs.lemmas.Bool.{false_from_ne_true}
use Rattle.std.specs.Prelude.{not, ◌||◌}
use Rattle.std.proofs.lemmas.List.Folds.{list_any-append}
use Rattle.mig_model.specs.Names.{has_twice, same_name, is_among}
use Rattle.mig_model.proofs.Bools.{split_or}
use Rattle.mig_model.proofs.SameNames.{same_name_is}
use Rattle.mig_template.proofs.Names.{apart_from_others}

pub so_if : (a b : Bool) → (not a || b) ≡ true → a ≡ true → b ≡ true
so_if true b e h = e
so_if false b e h = absurd (true≢false (sym h))

-- a name that is among some is not one that isn't
pub other_name : (x y : List ℕ) (ns : List (List ℕ)) → is_among ns x ≡ true → is_among ns y ≡ false → same_name x y ≡ false
other_name x y ns h k = false_from_ne_true (same_name x y) (λ e. true≢false (sym h ∙ ap (is_among ns) (same_name_is x y e) ∙ k))
