-- Two lists that are seen as one list, item by item.
use Rattle.std.proofs.Common.{◌≡◌, ℕ, ◌+◌, ◌<◌, Bool, true, List, [], ◌∷◌, ◌++◌, length, map, take, get_or, Option, Some, None, Bor, refl, sym, ap, ◌∙◌, arith}
use Rattle.std.specs.List.{list_any, slice_get}
use Rattle.std.specs.Option.{option_copied}
use Rattle.std.proofs.lemmas.List.{take_more, get_or-map, map-append, length-map}
use Rattle.std.proofs.lemmas.List.Folds.{list_any_at}

module _ {X Y : Type 0} (view : X → Y) where
  view_at : (xs : List X) (i : ℕ) (x : X) (d : Y) → i < length xs → x ≡ get_or xs i x → get_or (map view xs) i d ≡ view x
  view_at xs i x d l e = get_or-map view xs i x d l ∙ ap view (sym e)

  pub views_at : (xs ys : List X) (i : ℕ) (x y : X) → i < length xs → i < length ys → x ≡ get_or xs i x → y ≡ get_or ys i y → map view xs ≡ map view ys → view x ≡ view y
  views_at xs ys i x y l m p q e = sym (view_at xs i x (view x) l p) ∙ ap (λ vs. get_or vs i (view x)) e ∙ view_at ys i y (view x) m q

  pub one_more : (xs : List X) (i : ℕ) (x : X) → i < length xs → x ≡ get_or xs i x → map view (take (i + 1) xs) ≡ map view (take i xs) ++ view x ∷ []
  one_more xs i x l p = ap (map view) (take_more xs i x l ∙ ap (λ z. take i xs ++ z ∷ []) (sym p)) ∙ map-append view (take i xs) (x ∷ [])

  pub alike_more : (xs ys : List X) (i : ℕ) (x y : X) → i < length xs → i < length ys → x ≡ get_or xs i x → y ≡ get_or ys i y → map view (take i xs) ≡ map view (take i ys) → view x ≡ view y
      → map view (take (i + 1) xs) ≡ map view (take (i + 1) ys)
  alike_more xs ys i x y l m p q e f = one_more xs i x l p ∙ (λ j. e j ++ f j ∷ []) ∙ sym (one_more ys i y m q)

-- a test that one item passes, some item passes
pub any_at : {X Y : Type 0} (view : X → Y) (p : Y → Bool) (xs : List X) (i : ℕ) (x : X) → i < length xs → x ≡ get_or xs i x → p (view x) ≡ true → list_any p (map view xs) ≡ true
any_at view p xs i x l e h = list_any_at p (map view xs) i (view x) (omega (arith, length-map xs view)) (ap p (view_at view xs i x (view x) l e) ∙ h)

-- a list without a first item is empty
pub nothing_there : {A : Type 0} (xs : List A) (o : Option (Bor A)) → o ≡ None → option_copied o ≡ slice_get xs 0 → xs ≡ []
nothing_there [] o none is = refl
nothing_there (x ∷ xs) o none is = absurd (let e : None ≡ Some x = sym (ap option_copied none) ∙ is in cc)
