-- What is written is read again.
use Rattle.std.proofs.Common.{◌≡◌, ℕ, zero, suc, ◌*◌, ◌^◌, ◌≤◌, ◌<◌, List, ◌++◌, length, refl, sym, ap, subst, ◌∙◌, arith}
use Rattle.std.specs.Prelude.{◌/◌}
use Rattle.std.specs.Int.{w8, w16, w32, w64, to_be_bytes, cast_unsigned}
use Rattle.std.proofs.Math.Facts.{Fits-of_z}
use Rattle.std.proofs.lemmas.Nat.{from_be_bytes-to_be_bytes_2, from_be_bytes-to_be_bytes_4, from_be_bytes-to_be_bytes_8}
use Rattle.std.proofs.lemmas.Int.{to_z-of_z}
use Rattle.mig_model.specs.Plain.{Plain, byte, short, int, long, float, double, text, bytes, ints, longs, list, map, Trees, no_tree, tree, Pairs, no_pair, pair, entries, items}
use Rattle.mig_model.specs.Kinds.{IsMap}
use Rattle.mig_tree.proofs.Places.{trees_back, pairs_back}
use Rattle.mig_nbt.specs.declared.tag.Tag.{Tag}
use Rattle.mig_nbt.specs.declared.tag.Tag.TheVariants as T
use Rattle.mig_nbt.specs.Format.{Number, IsText, IsArray, Leaf, Payloads, Tags, Payload}
use Rattle.mig_nbt.specs.Writing.{tag_of_plain, element_of, text_bytes, payload, payloads, tags, IsName, AreOf, IsSpelled, AreSpelled, ArePairsSpelled}
use Rattle.mig_model.specs.Keeps.{Keeps, AllKeep, AllPairsKeep}
use Rattle.std.proofs.lemmas.List.Sorted.{IsPermutation-refl}
use Rattle.mig_nbt.specs.Law.{levels, trees_levels, pairs_levels, RoundTrip}

-- ---- numbers
number8 : (n : ℕ) → n < 2 ^ 8 → Number w8 (to_be_bytes w8 n) n
number8 n l = (refl, omega arith)

number16 : (n : ℕ) → n < 2 ^ 16 → Number w16 (to_be_bytes w16 n) n
number16 n l = (refl, sym (from_be_bytes-to_be_bytes_2 n l))

number32 : (n : ℕ) → n < 2 ^ 32 → Number w32 (to_be_bytes w32 n) n
number32 n l = (refl, sym (from_be_bytes-to_be_bytes_4 n l))

number64 : (n : ℕ) → n < 2 ^ 64 → Number w64 (to_be_bytes w64 n) n
number64 n l = (refl, sym (from_be_bytes-to_be_bytes_8 n l))

-- ---- payloads
leaf_any : (d : ℕ) (k : Tag) (b : List ℕ) (t : Plain) → Leaf k b t → Payload d k b t
leaf_any zero k b t p = p
leaf_any (suc d) T.Items b t p = absurd p
leaf_any (suc d) T.Compound b t p = absurd p
leaf_any (suc d) _ b t p = p

is_text : (s : List ℕ) → IsName s → IsText (text_bytes s) s
is_text s p = (to_be_bytes w16 (length s), length s, number16 (length s) p.1, p.1, refl, p.0, refl)

elements : (size : ℕ) (x : List ℕ) (n m : ℕ) → length x ≡ n * size → m ≡ n → n < 2 ^ 31 → IsArray size (to_be_bytes w32 m ++ x) x
elements size x n m e same l = (to_be_bytes w32 m, m, number32 m (omega arith), omega arith, e ∙ ap (λ (k : ℕ). k * size) (sym same), refl)

mutual
  pay : (t : Plain) (d : ℕ) → Keeps t → IsSpelled t → levels t ≤ d → Payload d (tag_of_plain t) (payload t) t
  pay (byte z) d k s l = leaf_any d T.Byte _ _ (cast_unsigned w8 z, number8 _ (omega (arith, Fits-of_z {w = w8} {z = z} k)), ap byte (sym (to_z-of_z w8 z k)))
  pay (short z) d k s l = leaf_any d T.Short _ _ (cast_unsigned w16 z, number16 _ (omega (arith, Fits-of_z {w = w16} {z = z} k)), ap short (sym (to_z-of_z w16 z k)))
  pay (int z) d k s l = leaf_any d T.Int _ _ (cast_unsigned w32 z, number32 _ (omega (arith, Fits-of_z {w = w32} {z = z} k)), ap int (sym (to_z-of_z w32 z k)))
  pay (long z) d k s l = leaf_any d T.Long _ _ (cast_unsigned w64 z, number64 _ (omega (arith, Fits-of_z {w = w64} {z = z} k)), ap long (sym (to_z-of_z w64 z k)))
  pay (float n) d k s l = leaf_any d T.Float _ _ (n, number32 n k, refl)
  pay (double n) d k s l = leaf_any d T.Double _ _ (n, number64 n k, refl)
  pay (text x) d k s l = leaf_any d T.Text _ _ (x, is_text x s, refl)
  pay (bytes x) d k s l = leaf_any d T.ByteArray _ _ (x, (to_be_bytes w32 (length x), length x, number32 (length x) (omega (arith, s)), s, omega arith, refl), refl)
  pay (ints x) d k s l = leaf_any d T.IntArray _ _ (x, elements 4 x s.0 (length x / 4) s.1 (omega (arith, s.1)) s.2, refl)
  pay (longs x) d k s l = leaf_any d T.LongArray _ _ (x, elements 8 x s.0 (length x / 8) s.1 (omega (arith, s.1)) s.2, refl)
  pay (list ts) zero k s l = absurd (omega arith)
  pay (list ts) (suc d) k s l =
      (element_of ts, to_be_bytes w32 (length (items ts)), length (items ts), payloads ts, items ts, refl, number32 _ (omega (arith, s.0)), s.0, refl, pay_all ts d (element_of ts) k.1 s.2 s.1 (omega arith), ap list (sym (trees_back ts)))
  pay (map ps) zero k s l = absurd (omega arith)
  pay (map ps) (suc d) k s l = (entries ps, entries ps, pay_pairs ps d k.2 s (omega arith), IsPermutation-refl (entries ps), k.0, ap map (sym (pairs_back ps)))
  pay _ d k s l = absurd s

  pay_all : (ts : Trees) (d : ℕ) (e : Tag) → AllKeep ts → AreSpelled ts → AreOf e ts → trees_levels ts ≤ d → Payloads (Payload d e) (payloads ts) (items ts)
  pay_all no_tree d e k s a l = refl
  pay_all (tree t ts) d e k s a l = (payload t, payloads ts, refl, subst (λ (j : Tag). Payload d j (payload t) t) a.0 (pay t d k.0 s.0 (omega arith)), pay_all ts d e k.1 s.1 a.1 (omega arith))

  pay_pairs : (ps : Pairs) (d : ℕ) → AllPairsKeep ps → ArePairsSpelled ps → pairs_levels ps ≤ d → Tags (Payload d) (tags ps) (entries ps)
  pay_pairs no_pair d k s l = refl
  pay_pairs (pair name t ps) d k s l = (tag_of_plain t, text_bytes name, payload t, tags ps, refl, is_text name s.0, pay t d k.1 s.1 (omega arith), pay_pairs ps d k.2 s.2 (omega arith))

pub round_trip : RoundTrip
round_trip name t n m s k l b = (text_bytes name, payload t, refl, is_text name n, compound t m (pay t 512 k s l), b)
  where
    compound : (t : Plain) → IsMap t → Payload 512 (tag_of_plain t) (payload t) t → Payload 512 T.Compound (payload t) t
    compound (map ps) m p = p
    compound _ m p = absurd m
