-- What a file stands for is within the bounds of the format, and edits of a map keep it so.
use Rattle.std.proofs.Common.{◌≡◌, ℕ, zero, suc, ◌<◌, ◌^◌, List, [], ◌∷◌, length, Some, refl, sym, ap, subst, arith, cond, Bool, true, false}
use Rattle.std.specs.Ordering.{is_eq, match_ordering}
use Rattle.std.specs.declared.cmp.Ordering.{Ordering}
use Rattle.std.specs.declared.cmp.Ordering.TheVariants.{Less, Equal, Greater}
use Rattle.std.specs.List.{AllByRecursion}
use Rattle.std.proofs.lemmas.Option.{same_Some}
use Rattle.std.proofs.lemmas.List.Sorted.{All-permutation}
use Rattle.std.proofs.lemmas.List.Elements.{recursion_from_All, All-from_recursion}
use Rattle.mig_model.specs.Plain as plain
use Rattle.mig_model.specs.Plain.{Plain, trees_of, Pairs, no_pair, pair, pairs_of, items, entries}
use Rattle.mig_model.specs.Kinds.{IsMap, items_of_trees, get_in, removed, put_in}
use Rattle.mig_model.specs.Names.{by_bytes, without, under, put}
use Rattle.mig_nbt.specs.declared.tag.Tag.{Tag}
use Rattle.mig_nbt.specs.declared.tag.Tag.TheVariants as T
use Rattle.mig_nbt.specs.Format.{IsText, Leaf, Payloads, IsList, Tags, IsCompound, Payload, NbtSave}
use Rattle.mig_tree.proofs.Places.{pairs_back}
use Rattle.mig_nbt.specs.Writing.{tag_of_plain, element_of, IsName, AreOf, IsSpelled, AreSpelled, ArePairsSpelled}

-- a spelled tree of a tag
abbrev pub IsOf : Tag → Plain → Type 0
IsOf k t = IsSpelled t × (tag_of_plain t ≡ k)

name_is : (b s : List ℕ) → IsText b s → IsName s
name_is b s p = (p.5, omega (arith, p.3, p.4))

here : (k : Tag) (t u : Plain) → t ≡ u → IsOf k u → IsOf k t
here k t u e p = subst (IsOf k) (sym e) p

leaf_is : (k : Tag) (b : List ℕ) (t : Plain) → Leaf k b t → IsOf k t
leaf_is T.Byte b t p = here T.Byte t _ p.2 (tt, refl)
leaf_is T.Short b t p = here T.Short t _ p.2 (tt, refl)
leaf_is T.Int b t p = here T.Int t _ p.2 (tt, refl)
leaf_is T.Long b t p = here T.Long t _ p.2 (tt, refl)
leaf_is T.Float b t p = here T.Float t _ p.2 (tt, refl)
leaf_is T.Double b t p = here T.Double t _ p.2 (tt, refl)
leaf_is T.Text b t p = here T.Text t _ p.2 (name_is b p.0 p.1, refl)
leaf_is T.ByteArray b t p = let a = p.1 in here T.ByteArray t _ p.2 (omega (arith, a.3, a.4), refl)
leaf_is T.IntArray b t p = let a = p.1 in here T.IntArray t _ p.2 ((a.1, a.4, a.3), refl)
leaf_is T.LongArray b t p = let a = p.1 in here T.LongArray t _ p.2 ((a.1, a.4, a.3), refl)
leaf_is _ b t p = absurd p

-- a spelled pair of a map
abbrev pub IsPair : List ℕ × Plain → Type 0
IsPair q = IsName q.0 × IsSpelled q.1

abbrev pub ArePairs : List (List ℕ × Plain) → Type 0
ArePairs qs = ArePairsSpelled (pairs_of qs)

pairs_each : (qs : List (List ℕ × Plain)) → AllByRecursion IsPair qs → ArePairs qs
pairs_each [] a = tt
pairs_each (q ∷ qs) a = (a.0.0, a.0.1, pairs_each qs a.1)

module _ (P : Tag → List ℕ → Plain → Type 0) (each : (k : Tag) (b : List ℕ) (t : Plain) → P k b t → IsOf k t) where
  payloads_are : (k : Tag) (b : List ℕ) (ts : List Plain) → Payloads (P k) b ts → AreOf k (trees_of ts) × AreSpelled (trees_of ts)
  payloads_are k b [] p = (tt, tt)
  payloads_are k b (t ∷ ts) p = let one = each k p.0 t p.3 in let rest = payloads_are k p.1 ts p.4 in ((one.1, rest.0), (one.0, rest.1))

  -- the first element's tag is that of all
  elements_are : (k : Tag) (ts : List Plain) → AreOf k (trees_of ts) → AreOf (element_of (trees_of ts)) (trees_of ts)
  elements_are k [] a = tt
  elements_are k (t ∷ ts) a = subst (λ (j : Tag). AreOf j (trees_of (t ∷ ts))) (sym a.0) a

  list_is : (b : List ℕ) (t : Plain) → IsList P b t → IsOf T.Items t
  list_is b t p =
      let ts = p.4 in
      let all = payloads_are p.0 p.3 ts p.9 in
      let few : length (items (trees_of ts)) < 2 ^ 31 = omega (arith, p.7, p.8, ap length (items_of_trees ts)) in
      here T.Items t _ p.10 ((few, elements_are p.0 ts all.0, all.1), refl)

  tags_are : (qs : List (List ℕ × Plain)) (b : List ℕ) → Tags P b qs → AllByRecursion IsPair qs
  tags_are [] b p = tt
  tags_are (q ∷ qs) b p = ((name_is p.1 q.0 p.5, (each p.0 p.2 q.1 p.6).0), tags_are qs p.3 p.7)

  compound_is : (b : List ℕ) (t : Plain) → IsCompound P b t → IsOf T.Compound t
  compound_is b t p =
      let qs = p.0 in
      let ps = p.1 in
      let all = recursion_from_All IsPair ps (All-permutation IsPair qs ps p.3 (All-from_recursion IsPair qs (tags_are qs b p.2))) in
      here T.Compound t _ p.5 (pairs_each ps all, refl)

payload_is : (d : ℕ) (k : Tag) (b : List ℕ) (t : Plain) → Payload d k b t → IsOf k t
payload_is zero k b t p = leaf_is k b t p
payload_is (suc d) T.Items b t p = list_is (Payload d) (payload_is d) b t p
payload_is (suc d) T.Compound b t p = compound_is (Payload d) (payload_is d) b t p
payload_is (suc d) k b t p = leaf_is k b t p

compound_map : (t : Plain) → tag_of_plain t ≡ T.Compound → IsMap t
compound_map (plain.map ps) e = tt
compound_map _ e = absurd cc

pub save_spelled : (b name : List ℕ) (t : Plain) → NbtSave b name t → IsName name × IsMap t × IsSpelled t
save_spelled b name t p = let one = payload_is 512 T.Compound p.1 t p.4 in (name_is p.0 name p.3, compound_map t one.1, one.0)

-- ---- edits
pub pairs_without : (x : List ℕ) (es : List (List ℕ × Plain)) → ArePairs es → ArePairs (without x es)
pairs_without x [] a = a
pairs_without x (e ∷ es) a = by (is_eq (by_bytes x e.0)) (pairs_without x es a.2)
  where
    by : (b : Bool) → ArePairs (without x es) → ArePairs (cond b es (e ∷ without x es))
    by true rest = a.2
    by false rest = (a.0, a.1, rest)

pub pairs_with : (x : List ℕ) (t : Plain) (es : List (List ℕ × Plain)) → IsName x → IsSpelled t → ArePairs es → ArePairs (put x t es)
pairs_with x t [] n s a = (n, s, tt)
pairs_with x t (e ∷ es) n s a = by (by_bytes x e.0) (pairs_with x t es n s a.2)
  where
    by : (r : Ordering) → ArePairs (put x t es) → ArePairs (match_ordering r ((x, t) ∷ e ∷ es) ((e.0, t) ∷ es) (e ∷ put x t es))
    by Less rest = (n, s, a)
    by Equal rest = (a.0, s, a.2)
    by Greater rest = (a.0, a.1, rest)

pub found_spelled : (x : List ℕ) (es : List (List ℕ × Plain)) (t : Plain) → ArePairs es → under x es ≡ Some t → IsSpelled t
found_spelled x [] t a e = absurd cc
found_spelled x (u ∷ es) t a e = by (is_eq (by_bytes x u.0)) (found_spelled x es t a.2) e
  where
    by : (b : Bool) → (under x es ≡ Some t → IsSpelled t) → cond b (Some u.1) (under x es) ≡ Some t → IsSpelled t
    by true rest h = subst IsSpelled (same_Some u.1 t h) a.1
    by false rest h = rest h

pub removed_spelled : (x : List ℕ) (t : Plain) → IsSpelled t → IsSpelled (removed x t)
removed_spelled x (plain.map ps) a = pairs_without x (entries ps) (subst ArePairsSpelled (sym (pairs_back ps)) a)
removed_spelled x _ a = a

pub put_spelled : (x : List ℕ) (u t : Plain) → IsMap t → IsName x → IsSpelled u → IsSpelled t → IsSpelled (put_in x u t)
put_spelled x u (plain.map ps) m n s a = pairs_with x u (entries ps) n s (subst ArePairsSpelled (sym (pairs_back ps)) a)
put_spelled x u _ m n s a = absurd m

pub got_spelled : (x : List ℕ) (u t : Plain) → get_in x t ≡ Some u → IsSpelled t → IsSpelled u
got_spelled x u (plain.map ps) e a = found_spelled x (entries ps) u (subst ArePairsSpelled (sym (pairs_back ps)) a) e
got_spelled x u _ e a = absurd cc
