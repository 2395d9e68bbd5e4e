-- What is known of an option, or of a choice, from what it gives.
use Rattle.std.proofs.Common.{◌≡◌, ◌∙◌, ◌⊎◌, inl, inr, refl, sym, Bool, true, false, true≢false, cond, Option, Some, None, arith}
use Rattle.std.specs.Prelude.{is_some}

pub none_is_some : {A : Type 0} (a : A) (o : Option A) → o ≡ Some a → o ≡ None → ⊥
none_is_some a o h k = let e : Some a ≡ None = sym h ∙ k in cc

pub pass_some : {A : Type 0} (b : Bool) (r : Option A) (y : A) → cond b r None ≡ Some y → (b ≡ true) × (r ≡ Some y)
pass_some true r y e = (refl, e)
pass_some false r y e = absurd cc

pub chosen : {A : Type 0} (b : Bool) (x y z : A) → cond b x y ≡ z → ((b ≡ true) × (x ≡ z)) ⊎ ((b ≡ false) × (y ≡ z))
chosen true x y z e = inl (refl, e)
chosen false x y z e = inr (refl, e)

pub none-there : {A : Type 0} (o : Option A) → is_some o ≡ false → o ≡ None
none-there o h = grind arith

pub some-there : {A : Type 0} (o : Option A) → is_some o ≡ true → (a : A) × (o ≡ Some a)
some-there None h = absurd (true≢false (sym h))
some-there (Some a) h = (a, refl)
