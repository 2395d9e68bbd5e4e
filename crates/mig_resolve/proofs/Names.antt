-- A name that is added to names is among them, and so are those before.
use Rattle.std.proofs.Common.{◌≡◌, ◌∙◌, ◌||◌, List, [], ◌∷◌, ◌++◌, ℕ, Bool, true, false, refl, sym, ap}
use Rattle.std.specs.Prelude.{if◌then◌else◌}
use Rattle.std.specs.List.{list_any}
use Rattle.std.proofs.lemmas.List.Folds.{list_any-append}
use Rattle.indexmap.specs.IndexSet.{insert_key}
use Rattle.mig_model.specs.Names.{same_name, is_among}
use Rattle.mig_model.proofs.SameNames.{same_name_is}

or_turned : (a b : Bool) → (a || (b || false)) ≡ (b || a)
or_turned true true = refl
or_turned true false = refl
or_turned false true = refl
or_turned false false = refl

pub one_name_more : (ks : List (List ℕ)) (n m : List ℕ) → is_among (insert_key same_name ks n) m ≡ (same_name m n || is_among ks m)
one_name_more ks n m = by (list_any (same_name n) ks) refl (same_name m n) refl
  where
    by : (b : Bool) → list_any (same_name n) ks ≡ b → (c : Bool) → same_name m n ≡ c → list_any (same_name m) (if b then ks else ks ++ n ∷ []) ≡ (c || list_any (same_name m) ks)
    by true h true e = ap (λ x. list_any (same_name x) ks) (same_name_is m n e) ∙ h
    by true h false e = refl
    by false h c e = list_any-append (same_name m) ks (n ∷ []) ∙ ap (λ b. list_any (same_name m) ks || (b || false)) e ∙ or_turned (list_any (same_name m) ks) c
