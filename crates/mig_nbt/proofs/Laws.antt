-- What is read is spelled so, and what is spelled so is read.
use Rattle.std.proofs.Common.{◌≡◌, ◌⊎◌, inl, inr, ℕ, zero, suc, ◌*◌, ◌^◌, ◌≤◌, List, [], ◌∷◌, ◌++◌, length, take, drop, Bool, true, false, cond, Option, Some, None, refl, sym, ap, subst, ◌∙◌, append_assoc, arith}
use Rattle.std.specs.Prelude.{nat_lt, nat_le, ◌||◌, ◌==◌}
use Rattle.std.specs.Int.{Width, w8, w16, w32, w64, byte_len, from_be_bytes, cast_signed}
use Rattle.std.proofs.lemmas.Bool.{ltb-false, le-ltb, lt-leb, leb-false, eqb-true}
use Rattle.std.proofs.lemmas.List.{nil_from_length, take_at, drop_at, take-append-drop, length-append, length-take, append-nil}
use Rattle.mig_model.specs.declared.limits.TheConstants.{MOST_SAVE_BYTES}
use Rattle.mig_model.specs.Plain as plain
use Rattle.mig_model.specs.Plain.{Plain, trees_of, pairs_of}
use Rattle.mig_model.specs.Names.{gathered}
use Rattle.mig_model.proofs.Ascending.{gathered_sound, gathered_complete}
use Rattle.mig_nbt.specs.declared.tag.Tag.{Tag}
use Rattle.mig_nbt.specs.declared.tag.Tag.TheVariants.{End, Byte, Short, Int, Long, Float, Double, ByteArray, Text, Items, Compound, IntArray, LongArray}
use Rattle.mig_nbt.specs.Format.{tag_number, Number, IsText, IsArray, Leaf, Payloads, IsList, Tags, IsCompound, Payload, NbtSave}
use Rattle.mig_nbt.proofs.Loops.{going}
use Rattle.mig_nbt.specs.Reading.{◌>>=◌, Read, seen, number_at, tag_of, tag_at, are_groups, text_at, array_at, leaf_at, payloads_at, list_at, is_end, is_compound, tags_at, map_at, payload_at, save_at}
use Rattle.mig_nbt.proofs.Groups.{groups_pass, groups_of}
use Rattle.std.proofs.lemmas.Option.{same_Some}
use Rattle.mig_model.proofs.Bools.{split_or}
use Rattle.mig_model.proofs.Options.{pass_some, chosen}

bind_some : {A B : Type 0} (r : Option A) (f : A → Option B) (y : B) → (r >>= f) ≡ Some y → (x : A) × (r ≡ Some x) × (f x ≡ Some y)
bind_some (Some x) f y e = (x, refl, e)
bind_some None f y e = absurd cc

guard_some : {A : Type 0} (b : Bool) (r : Option A) (y : A) → cond b None r ≡ Some y → (b ≡ false) × (r ≡ Some y)
guard_some true r y e = absurd cc
guard_some false r y e = (refl, e)

-- a value in front of the rest
abbrev pub InFront : (List ℕ → Type 0) → List ℕ → List ℕ → Type 0
InFront P bytes rest = (b : List ℕ) × (bytes ≡ b ++ rest) × P b

abbrev Found : {A : Type 0} → (List ℕ → A → Type 0) → List ℕ → A × List ℕ → Type 0
Found P bytes x = InFront (λ b. P b x.0) bytes x.1

-- what was found is what is told
told : {A : Type 0} (P : List ℕ → A → Type 0) (bytes : List ℕ) (x y : A × List ℕ) → Some x ≡ Some y → Found P bytes x → Found P bytes y
told P bytes x y e p = subst (Found P bytes) (same_Some x y e) p

-- ---- tags

tag_step : (n i : ℕ) (t : Tag) (r : Option Tag) (k : Tag) → tag_number t ≡ i → (r ≡ Some k → n ≡ tag_number k) → cond (n == i) (Some t) r ≡ Some k → n ≡ tag_number k
tag_step n i t r k it later e = elim (chosen (n == i) (Some t) r (Some k) e) [
  | inl p ↦ let same : n ≡ i = grind (arith, p.0) in same ∙ sym it ∙ ap tag_number (same_Some t k p.1)
  | inr p ↦ later p.1
]

tag_is : (n : ℕ) (k : Tag) → tag_of n ≡ Some k → n ≡ tag_number k
tag_is n k =
    tag_step n 0 End _ k refl (tag_step n 1 Byte _ k refl (tag_step n 2 Short _ k refl (tag_step n 3 Int _ k refl (tag_step n 4 Long _ k refl (tag_step n 5 Float _ k refl (tag_step n 6 Double _ k refl
    (tag_step n 7 ByteArray _ k refl (tag_step n 8 Text _ k refl (tag_step n 9 Items _ k refl (tag_step n 10 Compound _ k refl (tag_step n 11 IntArray _ k refl (tag_step n 12 LongArray _ k refl (λ e. absurd cc)))))))))))))

tag_again : (k : Tag) → tag_of (tag_number k) ≡ Some k
tag_again End = refl
tag_again _ = refl

tag_sound : (bytes : List ℕ) (k : Tag) (rest : List ℕ) → tag_at bytes ≡ Some (k, rest) → bytes ≡ tag_number k ∷ rest
unfolding tag_at
tag_sound [] k rest e = absurd cc
tag_sound (n ∷ ns) k rest e =
    let b = bind_some (tag_of n) (λ k. Some (k, ns)) (k, rest) e in
    subst (λ (x : Tag × List ℕ). n ∷ ns ≡ tag_number x.0 ∷ x.1) (same_Some (b.0, ns) (k, rest) b.2) (ap (λ m. m ∷ ns) (tag_is n b.0 b.1))

tag_complete : (k : Tag) (rest : List ℕ) → tag_at (tag_number k ∷ rest) ≡ Some (k, rest)
unfolding tag_at
tag_complete k rest = rw (tag_again k) refl

-- ---- numbers
number_sound : (w : Width) (bytes : List ℕ) (n : ℕ) (rest : List ℕ) → number_at w bytes ≡ Some (n, rest) → InFront (λ b. Number w b n) bytes rest
number_sound w bytes n rest e =
    let k = byte_len w in
    let g = guard_some (nat_lt (length bytes) k) (Some (from_be_bytes w (take k bytes), drop k bytes)) (n, rest) e in
    let long : k ≤ length bytes = ltb-false (length bytes) k g.0 in
    told (Number w) bytes (from_be_bytes w (take k bytes), drop k bytes) (n, rest) g.1 (take k bytes, sym (take-append-drop k bytes), (omega (arith, length-take k bytes), refl))

number_complete : (w : Width) (b : List ℕ) (n : ℕ) (rest : List ℕ) → Number w b n → number_at w (b ++ rest) ≡ Some (n, rest)
number_complete w b n rest h =
    let long : nat_lt (length (b ++ rest)) (byte_len w) ≡ false = le-ltb _ _ (omega (arith, length-append b rest, h.0)) in
    rw (long, take_at b rest (byte_len w) h.0, drop_at b rest (byte_len w) h.0, h.1) refl

-- a part, and then another
then_part : (bytes b middle c rest : List ℕ) → bytes ≡ b ++ middle → middle ≡ c ++ rest → bytes ≡ (b ++ c) ++ rest
then_part bytes b middle c rest p q = p ∙ ap (λ (l : List ℕ). b ++ l) q ∙ sym (append_assoc b c rest)

-- ---- texts and arrays

text_sound : (bytes s rest : List ℕ) → text_at bytes ≡ Some (s, rest) → InFront (λ b. IsText b s) bytes rest
unfolding text_at
text_sound bytes s rest e =
    let b = bind_some (number_at w16 bytes) (λ n. cond (nat_le (2 ^ 16) n.0 || nat_lt (length n.1) n.0) None (cond (are_groups (take n.0 n.1)) (Some (take n.0 n.1, drop n.0 n.1)) None)) (s, rest) e in
    let n = b.0.0 in
    let l = b.0.1 in
    let h = number_sound w16 bytes n l b.1 in
    let g = guard_some (nat_le (2 ^ 16) n || nat_lt (length l) n) (cond (are_groups (take n l)) (Some (take n l, drop n l)) None) (s, rest) b.2 in
    let neither_is = split_or (nat_le (2 ^ 16) n) (nat_lt (length l) n) g.0 in
    let u = pass_some (are_groups (take n l)) (Some (take n l, drop n l)) (s, rest) g.1 in
    let long : n ≤ length l = ltb-false (length l) n neither_is.1 in
    told IsText bytes (take n l, drop n l) (s, rest) u.1 (
      h.0 ++ take n l,
      then_part bytes h.0 l (take n l) (drop n l) h.1 (sym (take-append-drop n l)),
      (h.0, n, h.2, leb-false (2 ^ 16) n neither_is.0, omega (arith, length-take n l), groups_of (take n l) u.0, refl),
    )

text_complete : (b s rest : List ℕ) → IsText b s → text_at (b ++ rest) ≡ Some (s, rest)
unfolding text_at
text_complete b s rest p =
    let h = p.0 in
    let n = p.1 in
    let whole : b ++ rest ≡ h ++ (s ++ rest) = ap (λ (l : List ℕ). l ++ rest) p.6 ∙ append_assoc h s rest in
    let few : nat_le (2 ^ 16) n ≡ false = lt-leb _ _ p.3 in
    let long : nat_lt (length (s ++ rest)) n ≡ false = le-ltb _ _ (omega (arith, length-append s rest, p.4)) in
    rw (whole, number_complete w16 h n (s ++ rest) p.2, few, long, take_at s rest n p.4, drop_at s rest n p.4, groups_pass s p.5) refl

array_sound : (size : ℕ) (bytes s rest : List ℕ) → array_at size bytes ≡ Some (s, rest) → InFront (λ b. IsArray size b s) bytes rest
unfolding array_at
array_sound size bytes s rest e =
    let b = bind_some (number_at w32 bytes) (λ n. cond (nat_le (2 ^ 31) n.0) None (cond (nat_lt (length n.1) (n.0 * size)) None (Some (take (n.0 * size) n.1, drop (n.0 * size) n.1)))) (s, rest) e in
    let n = b.0.0 in
    let k = n * size in
    let l = b.0.1 in
    let h = number_sound w32 bytes n l b.1 in
    let g = guard_some (nat_le (2 ^ 31) n) (cond (nat_lt (length l) k) None (Some (take k l, drop k l))) (s, rest) b.2 in
    let u = guard_some (nat_lt (length l) k) (Some (take k l, drop k l)) (s, rest) g.1 in
    let long : k ≤ length l = ltb-false (length l) k u.0 in
    told (IsArray size) bytes (take k l, drop k l) (s, rest) u.1
    (h.0 ++ take k l, then_part bytes h.0 l (take k l) (drop k l) h.1 (sym (take-append-drop k l)), (h.0, n, h.2, leb-false (2 ^ 31) n g.0, omega (arith, length-take k l), refl))

array_complete : (size : ℕ) (b s rest : List ℕ) → IsArray size b s → array_at size (b ++ rest) ≡ Some (s, rest)
unfolding array_at
array_complete size b s rest p =
    let h = p.0 in
    let n = p.1 in
    let whole : b ++ rest ≡ h ++ (s ++ rest) = ap (λ (l : List ℕ). l ++ rest) p.5 ∙ append_assoc h s rest in
    let few : nat_le (2 ^ 31) n ≡ false = lt-leb _ _ p.3 in
    let long : nat_lt (length (s ++ rest)) (n * size) ≡ false = le-ltb _ _ (omega (arith, length-append s rest, p.4)) in
    rw (whole, number_complete w32 h n (s ++ rest) p.2, few, long, take_at s rest (n * size) p.4, drop_at s rest (n * size) p.4) refl

-- ---- leaves
module _ {A : Type 0} (f : A → Plain) (P : List ℕ → A → Type 0) where
  seen_sound : (bytes : List ℕ) (read : Read A) (t : Plain) (rest : List ℕ) → ((a : A) (r : List ℕ) → read ≡ Some (a, r) → InFront (λ b. P b a) bytes r) → seen f read ≡ Some (t, rest)
      → InFront (λ b. (a : A) × P b a × (t ≡ f a)) bytes rest
  seen_sound bytes read t rest sound e =
      let b = bind_some read (λ x. Some (f x.0, x.1)) (t, rest) e in
      let p = sound b.0.0 b.0.1 b.1 in
      told (λ b t. (a : A) × P b a × (t ≡ f a)) bytes (f b.0.0, b.0.1) (t, rest) b.2 (p.0, p.1, (b.0.0, p.2, refl))

leaf_sound : (k : Tag) (bytes : List ℕ) (t : Plain) (rest : List ℕ) → leaf_at k bytes ≡ Some (t, rest) → InFront (λ b. Leaf k b t) bytes rest
unfolding leaf_at
leaf_sound Byte bytes t rest e = seen_sound (λ n. plain.byte (cast_signed w8 n)) (λ b n. Number w8 b n) bytes (number_at w8 bytes) t rest (number_sound w8 bytes) e
leaf_sound Short bytes t rest e = seen_sound (λ n. plain.short (cast_signed w16 n)) (λ b n. Number w16 b n) bytes (number_at w16 bytes) t rest (number_sound w16 bytes) e
leaf_sound Int bytes t rest e = seen_sound (λ n. plain.int (cast_signed w32 n)) (λ b n. Number w32 b n) bytes (number_at w32 bytes) t rest (number_sound w32 bytes) e
leaf_sound Long bytes t rest e = seen_sound (λ n. plain.long (cast_signed w64 n)) (λ b n. Number w64 b n) bytes (number_at w64 bytes) t rest (number_sound w64 bytes) e
leaf_sound Float bytes t rest e = seen_sound plain.float (λ b n. Number w32 b n) bytes (number_at w32 bytes) t rest (number_sound w32 bytes) e
leaf_sound Double bytes t rest e = seen_sound plain.double (λ b n. Number w64 b n) bytes (number_at w64 bytes) t rest (number_sound w64 bytes) e
leaf_sound Text bytes t rest e = seen_sound plain.text IsText bytes (text_at bytes) t rest (text_sound bytes) e
leaf_sound ByteArray bytes t rest e = seen_sound plain.bytes (IsArray 1) bytes (array_at 1 bytes) t rest (array_sound 1 bytes) e
leaf_sound IntArray bytes t rest e = seen_sound plain.ints (IsArray 4) bytes (array_at 4 bytes) t rest (array_sound 4 bytes) e
leaf_sound LongArray bytes t rest e = seen_sound plain.longs (IsArray 8) bytes (array_at 8 bytes) t rest (array_sound 8 bytes) e
leaf_sound _ bytes t rest e = absurd cc

seen_complete : {A : Type 0} (f : A → Plain) (read : Read A) (a : A) (t : Plain) (rest : List ℕ) → t ≡ f a → read ≡ Some (a, rest) → seen f read ≡ Some (t, rest)
seen_complete f read a t rest p e = rw (e, p) refl

leaf_complete : (k : Tag) (b : List ℕ) (t : Plain) (rest : List ℕ) → Leaf k b t → leaf_at k (b ++ rest) ≡ Some (t, rest)
unfolding leaf_at
leaf_complete Byte b t rest p = seen_complete _ _ p.0 t rest p.2 (number_complete w8 b p.0 rest p.1)
leaf_complete Short b t rest p = seen_complete _ _ p.0 t rest p.2 (number_complete w16 b p.0 rest p.1)
leaf_complete Int b t rest p = seen_complete _ _ p.0 t rest p.2 (number_complete w32 b p.0 rest p.1)
leaf_complete Long b t rest p = seen_complete _ _ p.0 t rest p.2 (number_complete w64 b p.0 rest p.1)
leaf_complete Float b t rest p = seen_complete _ _ p.0 t rest p.2 (number_complete w32 b p.0 rest p.1)
leaf_complete Double b t rest p = seen_complete _ _ p.0 t rest p.2 (number_complete w64 b p.0 rest p.1)
leaf_complete Text b t rest p = seen_complete _ _ p.0 t rest p.2 (text_complete b p.0 rest p.1)
leaf_complete ByteArray b t rest p = seen_complete _ _ p.0 t rest p.2 (array_complete 1 b p.0 rest p.1)
leaf_complete IntArray b t rest p = seen_complete _ _ p.0 t rest p.2 (array_complete 4 b p.0 rest p.1)
leaf_complete LongArray b t rest p = seen_complete _ _ p.0 t rest p.2 (array_complete 8 b p.0 rest p.1)
leaf_complete _ b t rest p = absurd p

-- ---- what is inside
module _ (P : Tag → List ℕ → Plain → Type 0) (value : Tag → List ℕ → Read Plain)
    (sound : (k : Tag) (bytes : List ℕ) (t : Plain) (rest : List ℕ) → value k bytes ≡ Some (t, rest) → InFront (λ b. P k b t) bytes rest) where
  payloads_sound : (k : Tag) (n : ℕ) (bytes : List ℕ) (ts : List Plain) (rest : List ℕ) → payloads_at (value k) n bytes ≡ Some (ts, rest) → InFront (λ b. (length ts ≡ n) × Payloads (P k) b ts) bytes rest
  unfolding payloads_at
  payloads_sound k zero bytes ts rest e =
      told (λ b ts. (length ts ≡ 0) × Payloads (P k) b ts) bytes ([], bytes) (ts, rest) e ([], refl, (refl, refl))
  payloads_sound k (suc n) bytes ts rest e =
      let a = bind_some (value k bytes) (λ t. payloads_at (value k) n t.1 >>= λ us. Some (t.0 ∷ us.0, us.1)) (ts, rest) e in
      let t = a.0.0 in
      let b = bind_some (payloads_at (value k) n a.0.1) (λ us. Some (t ∷ us.0, us.1)) (ts, rest) a.2 in
      let us = b.0.0 in
      let first = sound k bytes t a.0.1 a.1 in
      let others = payloads_sound k n a.0.1 us b.0.1 b.1 in
      told (λ b ts. (length ts ≡ suc n) × Payloads (P k) b ts) bytes (t ∷ us, b.0.1) (ts, rest) b.2
      (first.0 ++ others.0, then_part bytes first.0 a.0.1 others.0 b.0.1 first.1 others.1, (ap suc others.2.0, (first.0, others.0, refl, first.2, others.2.1)))

  list_sound : (bytes : List ℕ) (t : Plain) (rest : List ℕ) → list_at value bytes ≡ Some (t, rest) → InFront (λ b. IsList P b t) bytes rest
  unfolding list_at
  list_sound bytes t rest e =
      let a = bind_some (tag_at bytes) (λ e. number_at w32 e.1 >>= λ n. cond (nat_le (2 ^ 31) n.0) None (payloads_at (value e.0) n.0 n.1 >>= λ ts. Some (plain.list (trees_of ts.0), ts.1))) (t, rest) e in
      let k = a.0.0 in
      let b = bind_some (number_at w32 a.0.1) (λ n. cond (nat_le (2 ^ 31) n.0) None (payloads_at (value k) n.0 n.1 >>= λ ts. Some (plain.list (trees_of ts.0), ts.1))) (t, rest) a.2 in
      let n = b.0.0 in
      let g = guard_some (nat_le (2 ^ 31) n) (payloads_at (value k) n b.0.1 >>= λ ts. Some (plain.list (trees_of ts.0), ts.1)) (t, rest) b.2 in
      let d = bind_some (payloads_at (value k) n b.0.1) (λ ts. Some (plain.list (trees_of ts.0), ts.1)) (t, rest) g.1 in
      let ts = d.0.0 in
      let first = tag_sound bytes k a.0.1 a.1 in
      let h = number_sound w32 a.0.1 n b.0.1 b.1 in
      let c = payloads_sound k n b.0.1 ts d.0.1 d.1 in
      let inner : a.0.1 ≡ (h.0 ++ c.0) ++ d.0.1 = then_part a.0.1 h.0 b.0.1 c.0 d.0.1 h.1 c.1 in
      told (IsList P) bytes (plain.list (trees_of ts), d.0.1) (t, rest) d.2 (
        tag_number k ∷ (h.0 ++ c.0),
        first ∙ ap (λ (l : List ℕ). tag_number k ∷ l) inner,
        (k, h.0, n, c.0, ts, refl, h.2, leb-false (2 ^ 31) n g.0, c.2.0, c.2.1, refl),
      )

  abbrev later : ℕ → Tag → List ℕ × List ℕ → Plain × List ℕ → Read (List (List ℕ × Plain))
  later n k s t = tags_at value n t.1 >>= λ us. Some ((s.0, t.0) ∷ us.0, us.1)

  tags_sound : (n : ℕ) (bytes : List ℕ) (qs : List (List ℕ × Plain)) (rest : List ℕ) → tags_at value n bytes ≡ Some (qs, rest) → InFront (λ b. Tags P b qs) bytes rest
  unfolding tags_at
  tags_sound zero bytes qs rest e = absurd cc
  tags_sound (suc n) bytes qs rest e =
      let a = bind_some (tag_at bytes) (λ k. cond (is_end k.0) (Some ([], k.1)) (text_at k.1 >>= λ s. value k.0 s.1 >>= later n k.0 s)) (qs, rest) e in
      let k = a.0.0 in
      let first = tag_sound bytes k a.0.1 a.1 in
      elim (chosen (is_end k) (Some ([], a.0.1)) (text_at a.0.1 >>= λ s. value k s.1 >>= later n k s) (Some (qs, rest)) a.2) [
        | inl p ↦
            let z : tag_number k ≡ 0 = ends k p.0 in
            told (Tags P) bytes ([], a.0.1) (qs, rest) p.1 (0 ∷ [], first ∙ ap (λ (n : ℕ). n ∷ a.0.1) z, refl)
        | inr p ↦
            let b = bind_some (text_at a.0.1) (λ s. value k s.1 >>= later n k s) (qs, rest) p.1 in
            let s = b.0.0 in
            let d = bind_some (value k b.0.1) (later n k b.0) (qs, rest) b.2 in
            let t = d.0.0 in
            let m = bind_some (tags_at value n d.0.1) (λ us. Some ((s, t) ∷ us.0, us.1)) (qs, rest) d.2 in
            let name = text_sound a.0.1 s b.0.1 b.1 in
            let tree = sound k b.0.1 t d.0.1 d.1 in
            let more = tags_sound n d.0.1 m.0.0 m.0.1 m.1 in
            let inner : b.0.1 ≡ (tree.0 ++ more.0) ++ m.0.1 = then_part b.0.1 tree.0 d.0.1 more.0 m.0.1 tree.1 more.1 in
            let whole : a.0.1 ≡ (name.0 ++ (tree.0 ++ more.0)) ++ m.0.1 = then_part a.0.1 name.0 b.0.1 (tree.0 ++ more.0) m.0.1 name.1 inner in
            told (Tags P) bytes ((s, t) ∷ m.0.0, m.0.1) (qs, rest) m.2 (
              tag_number k ∷ (name.0 ++ (tree.0 ++ more.0)),
              first ∙ ap (λ (l : List ℕ). tag_number k ∷ l) whole,
              (k, name.0, tree.0, more.0, refl, name.2, tree.2, more.2),
            )
      ]
    where
      ends : (k : Tag) → is_end k ≡ true → tag_number k ≡ 0
      ends End e = refl
      ends _ e = absurd cc

  map_sound : (bytes : List ℕ) (t : Plain) (rest : List ℕ) → map_at value bytes ≡ Some (t, rest) → InFront (λ b. IsCompound P b t) bytes rest
  unfolding map_at
  map_sound bytes t rest e =
      let a = bind_some (tags_at value (length bytes) bytes) (λ qs. gathered qs.0 >>= λ ps. Some (plain.map (pairs_of ps), qs.1)) (t, rest) e in
      let qs = a.0.0 in
      let g = bind_some (gathered qs) (λ ps. Some (plain.map (pairs_of ps), a.0.1)) (t, rest) a.2 in
      let ps = g.0 in
      let known = gathered_sound qs ps g.1 in
      let b = tags_sound (length bytes) bytes qs a.0.1 a.1 in
      told (IsCompound P) bytes (plain.map (pairs_of ps), a.0.1) (t, rest) g.2 (b.0, b.1, (qs, ps, b.2, known.0, known.1, refl))

-- ---- the other way
module _ (P : Tag → List ℕ → Plain → Type 0) (value : Tag → List ℕ → Read Plain)
    (complete : (k : Tag) (b : List ℕ) (t : Plain) (rest : List ℕ) → P k b t → value k (b ++ rest) ≡ Some (t, rest))
    (no_end : (b : List ℕ) (t : Plain) → P End b t → ⊥) where
  payloads_complete : (k : Tag) (ts : List Plain) (b rest : List ℕ) → Payloads (P k) b ts → payloads_at (value k) (length ts) (b ++ rest) ≡ Some (ts, rest)
  unfolding payloads_at
  payloads_complete k [] b rest p = ap (λ (l : List ℕ). Some ([], l ++ rest)) p
  payloads_complete k (t ∷ ts) b rest p =
      let whole : b ++ rest ≡ p.0 ++ (p.1 ++ rest) = ap (λ (l : List ℕ). l ++ rest) p.2 ∙ append_assoc p.0 p.1 rest in
      rw (whole, complete k p.0 t (p.1 ++ rest) p.3, payloads_complete k ts p.1 rest p.4) refl

  list_complete : (b : List ℕ) (t : Plain) (rest : List ℕ) → IsList P b t → list_at value (b ++ rest) ≡ Some (t, rest)
  unfolding list_at
  list_complete b t rest p =
      let k = p.0 in
      let h = p.1 in
      let n = p.2 in
      let c = p.3 in
      let ts = p.4 in
      let whole : b ++ rest ≡ tag_number k ∷ (h ++ (c ++ rest)) = ap (λ (l : List ℕ). l ++ rest) p.5 ∙ ap (λ (l : List ℕ). tag_number k ∷ l) (append_assoc h c rest) in
      let few : nat_le (2 ^ 31) n ≡ false = lt-leb _ _ p.7 in
      let inner : payloads_at (value k) n (c ++ rest) ≡ Some (ts, rest) = subst (λ (m : ℕ). payloads_at (value k) m (c ++ rest) ≡ Some (ts, rest)) p.8 (payloads_complete k ts c rest p.9) in
      rw (whole, tag_complete k (h ++ (c ++ rest)), number_complete w32 h n (c ++ rest) p.6, few, inner, p.10) refl

  tags_complete : (n : ℕ) (qs : List (List ℕ × Plain)) (b rest : List ℕ) → length b ≤ n → Tags P b qs → tags_at value n (b ++ rest) ≡ Some (qs, rest)
  unfolding tags_at
  tags_complete zero [] b rest l p = absurd (omega (arith, ap length p))
  tags_complete zero (x ∷ qs) b rest l p = absurd (omega (arith, ap length p.4))
  tags_complete (suc n) [] b rest l p =
      let whole : b ++ rest ≡ 0 ∷ rest = ap (λ (l : List ℕ). l ++ rest) p in
      rw (whole, tag_complete End rest) refl
  tags_complete (suc n) (x ∷ qs) b rest l p =
      let k = p.0 in
      let c = p.1 in
      let d = p.2 in
      let e = p.3 in
      let s = x.0 in
      let t = x.1 in
      let whole : b ++ rest ≡ tag_number k ∷ (c ++ (d ++ (e ++ rest))) = ap (λ (l : List ℕ). l ++ rest) p.4 ∙ ap (λ (l : List ℕ). tag_number k ∷ l) (append_assoc c (d ++ e) rest ∙ ap (λ (l : List ℕ). c ++ l) (append_assoc d e rest)) in
      let shorter : length e ≤ n = omega (arith, ap length p.4, length-append c (d ++ e), length-append d e) in
      let goes : is_end k ≡ false = going k (λ same. no_end d t (subst (λ (j : Tag). P j d t) same p.6)) in
      rw (whole, tag_complete k (c ++ (d ++ (e ++ rest))), goes, text_complete c s (d ++ (e ++ rest)) p.5, complete k d t (e ++ rest) p.6, tags_complete n qs e rest shorter p.7) refl

  map_complete : (b : List ℕ) (t : Plain) (rest : List ℕ) → IsCompound P b t → map_at value (b ++ rest) ≡ Some (t, rest)
  unfolding map_at
  map_complete b t rest p =
      let qs = p.0 in
      let ps = p.1 in
      let inner : tags_at value (length (b ++ rest)) (b ++ rest) ≡ Some (qs, rest) = tags_complete (length (b ++ rest)) qs b rest (omega (arith, length-append b rest)) p.2 in
      rw (inner, gathered_complete qs ps p.3 p.4, p.5) refl

payload_sound : (d : ℕ) (k : Tag) (bytes : List ℕ) (t : Plain) (rest : List ℕ) → payload_at d k bytes ≡ Some (t, rest) → InFront (λ b. Payload d k b t) bytes rest
unfolding payload_at
payload_sound zero k bytes t rest e = leaf_sound k bytes t rest e
payload_sound (suc d) Items bytes t rest e = list_sound (Payload d) (payload_at d) (payload_sound d) bytes t rest e
payload_sound (suc d) Compound bytes t rest e = map_sound (Payload d) (payload_at d) (payload_sound d) bytes t rest e
payload_sound (suc d) k bytes t rest e = leaf_sound k bytes t rest e

no_payload_ends : (d : ℕ) (b : List ℕ) (t : Plain) → Payload d End b t → ⊥
no_payload_ends zero b t p = p
no_payload_ends (suc d) b t p = p

payload_complete : (d : ℕ) (k : Tag) (b : List ℕ) (t : Plain) (rest : List ℕ) → Payload d k b t → payload_at d k (b ++ rest) ≡ Some (t, rest)
unfolding payload_at
payload_complete zero k b t rest p = leaf_complete k b t rest p
payload_complete (suc d) Items b t rest p = list_complete (Payload d) (payload_at d) (payload_complete d) (no_payload_ends d) b t rest p
payload_complete (suc d) Compound b t rest p = map_complete (Payload d) (payload_at d) (payload_complete d) (no_payload_ends d) b t rest p
payload_complete (suc d) k b t rest p = leaf_complete k b t rest p

pub save_sound : (bytes name : List ℕ) (t : Plain) → save_at bytes ≡ Some (name, t) → NbtSave bytes name t
unfolding save_at
save_sound bytes name t e =
    let g = guard_some (nat_lt MOST_SAVE_BYTES (length bytes)) (tag_at bytes >>= λ k. cond (is_compound k.0) (text_at k.1 >>= λ s. payload_at 512 Compound s.1 >>= λ t. cond (length t.1 == 0) (Some (s.0, t.0)) None) None) (name, t) e in
    let a = bind_some (tag_at bytes) (λ k. cond (is_compound k.0) (text_at k.1 >>= λ s. payload_at 512 Compound s.1 >>= λ t. cond (length t.1 == 0) (Some (s.0, t.0)) None) None) (name, t) g.1 in
    let k = a.0.0 in
    let u = pass_some (is_compound k) (text_at a.0.1 >>= λ s. payload_at 512 Compound s.1 >>= λ t. cond (length t.1 == 0) (Some (s.0, t.0)) None) (name, t) a.2 in
    let b = bind_some (text_at a.0.1) (λ s. payload_at 512 Compound s.1 >>= λ t. cond (length t.1 == 0) (Some (s.0, t.0)) None) (name, t) u.1 in
    let s = b.0.0 in
    let d = bind_some (payload_at 512 Compound b.0.1) (λ t. cond (length t.1 == 0) (Some (s, t.0)) None) (name, t) b.2 in
    let v = pass_some (length d.0.1 == 0) (Some (s, d.0.0)) (name, t) d.2 in
    let is : (s, d.0.0) ≡ (name, t) = same_Some (s, d.0.0) (name, t) v.1 in
    let first = tag_sound bytes k a.0.1 a.1 in
    let named = text_sound a.0.1 s b.0.1 b.1 in
    let inner = payload_sound 512 Compound b.0.1 d.0.0 d.0.1 d.1 in
    let ten : tag_number k ≡ 10 = tens k u.0 in
    let last : d.0.1 ≡ [] = nil_from_length d.0.1 (eqb-true (length d.0.1) 0 v.0) in
    let tail : b.0.1 ≡ inner.0 = inner.1 ∙ ap (λ (l : List ℕ). inner.0 ++ l) last ∙ append-nil inner.0 in
    let whole : bytes ≡ 10 ∷ (named.0 ++ inner.0) = first ∙ (λ i. ten i ∷ named.1 i) ∙ ap (λ (l : List ℕ). 10 ∷ (named.0 ++ l)) tail in
    (named.0, inner.0, whole, subst (λ (x : List ℕ × Plain). IsText named.0 x.0) is named.2, subst (λ (x : List ℕ × Plain). Payload 512 Compound inner.0 x.1) is inner.2, ltb-false MOST_SAVE_BYTES (length bytes) g.0)
  where
    tens : (k : Tag) → is_compound k ≡ true → tag_number k ≡ 10
    tens Compound e = refl
    tens _ e = absurd cc

pub save_complete : (bytes name : List ℕ) (t : Plain) → NbtSave bytes name t → save_at bytes ≡ Some (name, t)
unfolding save_at
save_complete bytes name t p =
    let c = p.0 in
    let d = p.1 in
    let short : nat_lt MOST_SAVE_BYTES (length bytes) ≡ false = le-ltb _ _ p.5 in
    let inner : payload_at 512 Compound d ≡ Some (t, []) = ap (payload_at 512 Compound) (sym (append-nil d)) ∙ payload_complete 512 Compound d t [] p.4 in
    rw (short, p.2, tag_complete Compound (c ++ d), text_complete c name d p.3, inner) refl
