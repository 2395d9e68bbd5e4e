-- A map that has as many names of Must fields as there are Must fields lacks none.
use Rattle.std.proofs.Common.{◌≡◌, ◌≤◌, ℕ, ◌+◌, List, [], ◌∷◌, Bool, true, false, true≢false, Option, Some, None, refl, sym, ap, ◌∙◌, subst, arith}
use Rattle.std.specs.Prelude.{not, ◌||◌, ◌&&◌, is_some, count_by, if◌then◌else◌}
use Rattle.std.specs.List.{AllByRecursion}
use Rattle.std.specs.Map.{keys_of}
use Rattle.std.specs.Ordering.{ordering_reverse}
use Rattle.std.specs.declared.cmp.Ordering.TheVariants.{Less, Greater}
use Rattle.std.proofs.lemmas.Cmp.{nat_list_cmp_total}
use Rattle.std.proofs.lemmas.List.Sums.{sum_by-cons}
use Rattle.std.proofs.lemmas.Map.Keys.{sorted_head, sorted_tail}
use Rattle.mig_model.specs.declared.presence.Presence.{Presence}
use Rattle.mig_model.specs.Plain.{Plain}
use Rattle.mig_model.specs.Names.{by_bytes, Ascends, under, same_name}
use Rattle.mig_model.specs.Inhabits.{Entries}
use Rattle.mig_model.specs.Place.{missing}
use Rattle.mig_model.specs.Template.{Template, Field, fields_of, is_must}
use Rattle.mig_model.specs.Record.{musts_in}
use Rattle.mig_row.specs.Row.{is_must_field, musts_among}
use Rattle.mig_model.proofs.SameNames.{same_name_is, same_name_itself}
use Rattle.mig_model.proofs.OneOrder.{not_itself}

abbrev bit : Bool → ℕ
bit b = if b then 1 else 0

-- how many names of a map pass
abbrev names_among : (List ℕ → Bool) → Entries → ℕ
names_among q [] = 0
names_among q (e ∷ es) = bit (q e.0) + names_among q es

counted : (q : List ℕ → Bool) (es : Entries) → count_by (λ (e : List ℕ × Plain). q e.0) es ≡ names_among q es
counted q [] = refl
counted q (e ∷ es) = sum_by-cons (λ (x : List ℕ × Plain). bit (q x.0)) e es ∙ ap (λ i. bit (q e.0) + i) (counted q es)

-- one name has its own answer
abbrev but_at : List ℕ → Bool → (List ℕ → Bool) → List ℕ → Bool
but_at x b q n = if same_name n x then b else q n

bit_least : (b : Bool) → 0 ≤ bit b
bit_least b = omega arith

-- a name that isn't there plays no part
without_name : (x : List ℕ) (b : Bool) (q : List ℕ → Bool) (es : Entries) → AllByRecursion (λ y. by_bytes x y ≡ Less) (keys_of es) → names_among (but_at x b q) es ≡ names_among q es
without_name x b q [] h = refl
without_name x b q (e ∷ es) h = by (same_name e.0 x) refl (without_name x b q es h.1)
  where
    by : (c : Bool) → same_name e.0 x ≡ c → names_among (but_at x b q) es ≡ names_among q es → bit (if c then b else q e.0) + names_among (but_at x b q) es ≡ bit (q e.0) + names_among q es
    by true k rest = absurd (not_itself x (subst (λ y. by_bytes x y ≡ Less) (same_name_is e.0 x k) h.0))
    by false k rest = ap (λ i. bit (q e.0) + i) rest

name_swapped : (x y : List ℕ) (c : Bool) → same_name y x ≡ c → same_name x y ≡ c
name_swapped x y true k = ap (λ z. same_name x z) (same_name_is y x k) ∙ same_name_itself x
name_swapped x y false k = by (same_name x y) refl
  where
    by : (d : Bool) → same_name x y ≡ d → d ≡ false
    by false j = refl
    by true j = absurd (true≢false (sym (ap (λ z. same_name y z) (same_name_is x y j) ∙ same_name_itself y) ∙ k))

-- a name adds at most one, and only where it is there and passes
with_name : (x : List ℕ) (b : Bool) (q : List ℕ → Bool) (es : Entries) → Ascends es → names_among (but_at x b q) es ≤ bit (b && is_some (under x es)) + names_among q es
with_name x b q [] s = omega arith
with_name x b q (e ∷ es) s = by (same_name e.0 x) refl (with_name x b q es (sorted_tail by_bytes e.0 (keys_of es) s))
  where
    here : same_name e.0 x ≡ true → names_among (but_at x b q) es ≡ names_among q es
    here k = without_name x b q es (subst (λ y. AllByRecursion (λ z. by_bytes y z ≡ Less) (keys_of es)) (same_name_is e.0 x k) (sorted_head by_bytes e.0 (keys_of es) s))

    one : (c : Bool) → bit c ≡ bit (c && true)
    one true = refl
    one false = refl

    by : (c : Bool) → same_name e.0 x ≡ c → names_among (but_at x b q) es ≤ bit (b && is_some (under x es)) + names_among q es
        → bit (if c then b else q e.0) + names_among (but_at x b q) es ≤ bit (b && is_some (if same_name x e.0 then Some e.1 else under x es)) + (bit (q e.0) + names_among q es)
    by true k rest = rw (name_swapped x e.0 true k) (omega (arith, here k, one b))
    by false k rest = rw (name_swapped x e.0 false k) (omega (arith, rest))

same_names : (p q : List ℕ → Bool) → ((n : List ℕ) → p n ≡ q n) → (es : Entries) → names_among p es ≡ names_among q es
same_names p q h [] = refl
same_names p q h (e ∷ es) = λ i. bit (h e.0 i) + same_names p q h es i

no_names : (es : Entries) → names_among (λ n. false) es ≡ 0
no_names [] = refl
no_names (e ∷ es) = omega (arith, no_names es)

one_field : (b : Bool) (s : Presence × Template) (o : Option (Presence × Template)) → is_must_field (if b then Some s else o) ≡ (if b then is_must s.0 else is_must_field o)
one_field true s o = refl
one_field false s o = refl

abbrev passes : List Field → List ℕ → Bool
passes fs n = is_must_field (under n fs)

first_field : (g : Field) (fs : List Field) (es : Entries) → musts_among (g ∷ fs) es ≡ names_among (but_at g.0 (is_must g.1.0) (passes fs)) es
first_field g fs es = counted (passes (g ∷ fs)) es ∙ same_names (passes (g ∷ fs)) (but_at g.0 (is_must g.1.0) (passes fs)) (λ n. one_field (same_name n g.0) g.1 (under n fs)) es

first_must : (g : Field) (fs : List Field) → musts_in (g ∷ fs) ≡ bit (is_must g.1.0) + musts_in fs
first_must g fs = sum_by-cons (λ (f : Field). bit (is_must f.1.0)) g fs

no_more : (m t : Bool) → bit (m && t) ≤ bit m
no_more true true = omega arith
no_more true false = omega arith
no_more false t = omega arith

-- no more names are those of Must fields than there are Must fields
among_bound : (fs : List Field) (es : Entries) → Ascends es → musts_among fs es ≤ musts_in fs
among_bound [] es s = omega (arith, counted (λ n. false) es, no_names es)
among_bound (g ∷ fs) es s =
    let m = is_must g.1.0 in
    omega (arith, first_field g fs es, with_name g.0 m (passes fs) es s, no_more m (is_some (under g.0 es)), among_bound fs es s, counted (passes fs) es, first_must g fs)

not_missing : (m t : Bool) → bit m ≤ bit (m && t) → (not m || t) ≡ true
not_missing true true l = refl
not_missing true false l = absurd (omega (arith, l))
not_missing false t l = refl

pub none_missing : (fs : List Field) (es : Entries) → Ascends es → musts_among fs es ≡ musts_in fs → missing (fields_of fs) es ≡ None
none_missing [] es s e = refl
none_missing (g ∷ fs) es s e =
    let m = is_must g.1.0 in
    let t = is_some (under g.0 es) in
    let adds = with_name g.0 m (passes fs) es s in
    let bound = among_bound fs es s in
    let first = first_field g fs es in
    let behind = counted (passes fs) es in
    let must = first_must g fs in
    let here : (not m || t) ≡ true = not_missing m t (omega (arith, e, adds, bound, first, behind, must)) in
    let rest : musts_among fs es ≡ musts_in fs = omega (arith, e, adds, bound, first, behind, must, no_more m t) in
    rw here (none_missing fs es s rest)
