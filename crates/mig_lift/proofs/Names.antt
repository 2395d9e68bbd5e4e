-- A string of a chain text is a name of the NBT form: UTF-8 of characters up to U+FFFF has groups of at most three bytes.
use Rattle.std.proofs.Common.{◌≡◌, ℕ, ◌+◌, ◌/◌, ◌%◌, ◌^◌, ◌<◌, ◌≤◌, List, [], ◌∷◌, ◌++◌, Bool, true, false, cond, refl, sym, subst, arith}
use Rattle.std.specs.Prelude.{nat_lt}
use Rattle.std.specs.Str.{chars}
use Rattle.std.specs.List.{AllByRecursion}
use Rattle.std.proofs.Math.Utf8.{encode, encodes}
use Rattle.std.proofs.lemmas.Str.{encodes-chars}
use Rattle.std.proofs.lemmas.Bool.{lt-ltb, ltb-true}
use Rattle.mig_nbt.specs.Format.{Groups, none, one, two, three}
use Rattle.mig_nbt.specs.Writing.{IsName}
use Rattle.mig_rule.specs.Spelled.{IsSpelledText}

one_char : (c : ℕ) (rest : List ℕ) → c < 65536 → Groups rest → Groups (encode c ++ rest)
unfolding encode
one_char c rest l g = by (nat_lt c 128) refl (nat_lt c 2048) refl (nat_lt c 65536) (lt-ltb c 65536 l)
  where
    by : (x : Bool) → nat_lt c 128 ≡ x → (y : Bool) → nat_lt c 2048 ≡ y → (z : Bool) → nat_lt c 65536 ≡ true
        → Groups (cond x (c ∷ []) (cond y ((192 + c / 64) ∷ (128 + c % 64) ∷ []) (cond (nat_lt c 65536) ((224 + c / 4096) ∷ (128 + c / 64 % 64) ∷ (128 + c % 64) ∷ []) ((240 + c / 262144) ∷ (128 + c / 4096 % 64) ∷ (128 + c / 64 % 64) ∷ (128 + c % 64) ∷ []))) ++ rest)
    by true h y k z w = one (ltb-true c 128 h) g
    by false h true k z w =
        let small : c < 2048 = ltb-true c 2048 k in
        two (omega arith) (omega arith) (omega arith, omega arith) g
    by false h false k z w =
        subst (λ b. Groups (cond b ((224 + c / 4096) ∷ (128 + c / 64 % 64) ∷ (128 + c % 64) ∷ []) ((240 + c / 262144) ∷ (128 + c / 4096 % 64) ∷ (128 + c / 64 % 64) ∷ (128 + c % 64) ∷ []) ++ rest)) (sym w)
        (three (omega arith) (omega arith) (omega arith, omega arith) (omega arith, omega arith) g)

all_chars : (cs : List ℕ) → AllByRecursion (λ c. (32 ≤ c) × (c < 2 ^ 16)) cs → Groups (encodes cs)
all_chars [] a = none
all_chars (c ∷ cs) a = one_char c (encodes cs) a.0.1 (all_chars cs a.1)

pub name_is : (s : List ℕ) → IsSpelledText s → IsName s
name_is s p = (subst Groups (encodes-chars s p.1) (all_chars (chars s) p.2), omega (arith, p.0))
