-- What is known of two tests from their conjunction and their disjunction.
use Rattle.std.proofs.Common.{◌≡◌, refl, sym, Bool, true, false, true≢false}
use Rattle.std.specs.Prelude.{◌&&◌, ◌||◌}

pub split_and : (a b : Bool) → (a && b) ≡ true → (a ≡ true) × (b ≡ true)
split_and true b e = (refl, e)
split_and false b e = absurd (true≢false (sym e))

pub split_or : (a b : Bool) → (a || b) ≡ false → (a ≡ false) × (b ≡ false)
split_or false b e = (refl, e)
split_or true b e = absurd (true≢false e)

pub both_true : (a b : Bool) → a ≡ true → b ≡ true → (a && b) ≡ true
both_true true b e f = f
both_true false b e f = absurd (true≢false (sym e))

pub both_false : (a b : Bool) → a ≡ false → b ≡ false → (a || b) ≡ false
both_false false b e f = f
both_false true b e f = absurd (true≢false e)

pub left_or : (a b : Bool) → a ≡ true → (a || b) ≡ true
left_or true b e = refl
left_or false b e = absurd (true≢false (sym e))

pub right_or : (a b : Bool) → b ≡ true → (a || b) ≡ true
right_or true b e = refl
right_or false b e = e

pub first_true : (a b : Bool) → (a && b) ≡ true → a ≡ true
first_true a b e = (split_and a b e).0

pub second_true : (a b : Bool) → (a && b) ≡ true → b ≡ true
second_true a b e = (split_and a b e).1

pub first_false : (a b : Bool) → (a || b) ≡ false → a ≡ false
first_false a b e = (split_or a b e).0

pub second_false : (a b : Bool) → (a || b) ≡ false → b ≡ false
second_false a b e = (split_or a b e).1

pub false_and : (a b : Bool) → b ≡ false → (a && b) ≡ false
false_and true b e = e
false_and false b e = refl
