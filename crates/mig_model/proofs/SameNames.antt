-- Names are the same exactly where they are equal; a kind is the same as itself.
use Rattle.std.proofs.Common.{◌≡◌, refl, sym, ap, ◌∙◌, ◌<◌, ℕ, List, length, get_or, Bool, true, true≢false, eqb-true, arith}
use Rattle.std.specs.Ordering.{is_eq}
use Rattle.std.specs.declared.cmp.Ordering.{Ordering}
use Rattle.std.specs.declared.cmp.Ordering.TheVariants.{Less, Equal, Greater}
use Rattle.std.proofs.lemmas.Cmp.{nat_list_cmp_total, tied_itself}
use Rattle.std.proofs.lemmas.Map.Lookups.{exact_bytes}
use Rattle.mig_model.specs.declared.kind.Kind.{Kind}
use Rattle.mig_model.specs.declared.kind.Kind.TheVariants as K
use Rattle.mig_model.specs.Names.{by_bytes, same_name}
use Rattle.mig_model.specs.Template.{kind_number, same_kind}
use Rattle.mig_model.specs.Family.{kinds}
use Rattle.mig_model.proofs.Ascending.{flips}

pub same_name_is : (a b : List ℕ) → same_name a b ≡ true → a ≡ b
same_name_is a b e = exact_bytes a b (equal (by_bytes a b) e)
  where
    equal : (o : Ordering) → is_eq o ≡ true → o ≡ Equal
    equal Equal h = refl
    equal Less h = absurd (true≢false (sym h))
    equal Greater h = absurd (true≢false (sym h))

pub same_name_itself : (a : List ℕ) → same_name a a ≡ true
same_name_itself a = ap is_eq (tied_itself nat_list_cmp_total a)

pub same_name_flips : (a b : List ℕ) → same_name a b ≡ same_name b a
same_name_flips a b = flips a b

pub same_kind_itself : (k : Kind) → same_kind k k ≡ true
same_kind_itself K.Byte = refl
same_kind_itself _ = refl

-- a kind stands in the list of all kinds at its number
pub at_number : (k : Kind) → (kind_number k < length kinds) × (get_or kinds (kind_number k) K.Whole ≡ k)
at_number K.Byte = (omega arith, refl)
at_number _ = (omega arith, refl)

pub same_kind_is : (a b : Kind) → same_kind a b ≡ true → a ≡ b
same_kind_is a b e = sym (at_number a).1 ∙ ap (λ n. get_or kinds n K.Whole) (eqb-true (kind_number a) (kind_number b) e) ∙ (at_number b).1
