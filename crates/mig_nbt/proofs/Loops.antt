-- Reading one payload, or one named tag, after another, as a loop does.
use Rattle.std.proofs.Common.{◌≡◌, ℕ, suc, ◌-◌, ◌+◌, ◌≤◌, ◌<◌, List, [], ◌∷◌, ◌++◌, length, false, Option, Some, None, refl, sym, ap, ◌∙◌, append_assoc, arith}
use Rattle.std.proofs.lemmas.List.{append-nil}
use Rattle.mig_model.specs.Plain as plain
use Rattle.mig_model.specs.Plain.{Plain, pairs_of}
use Rattle.mig_model.specs.Names.{gathered}
use Rattle.mig_nbt.specs.declared.error.NbtError.{NbtError}
use Rattle.mig_nbt.specs.declared.error.NbtError.TheVariants as errors
use Rattle.mig_nbt.specs.declared.tag.Tag.{Tag}
use Rattle.mig_nbt.specs.declared.tag.Tag.TheVariants.{End}
use Rattle.mig_nbt.specs.Reading.{◌>>=◌, Fails, Read, payloads_at, tags_at, map_at, tag_at, text_at, is_end, leaf_at, payload_at}

-- what was read before, and what is still read
abbrev pub ahead : {A : Type 0} → List A → Read (List A) → Read (List A)
ahead front read = read >>= λ x. Some (front ++ x.0, x.1)

module _ {A : Type 0} where
  regroup : (front : List A) (t : A) (read : Read (List A)) → ahead front (read >>= λ x. Some (t ∷ x.0, x.1)) ≡ ahead (front ++ t ∷ []) read
  regroup front t (Some x) = ap (λ (ts : List A). Some (ts, x.1)) (simp append_assoc)
  regroup front t None = refl

module _ (value : List ℕ → Read Plain) where
  pub payloads_go_on : (front : List Plain) (count i : ℕ) (bytes : List ℕ) (t : Plain) (after : List ℕ) (total : Read (List Plain)) → i < count → value bytes ≡ Some (t, after)
      → ahead front (payloads_at value (count - i) bytes) ≡ total → ahead (front ++ t ∷ []) (payloads_at value (count - (i + 1)) after) ≡ total
  unfolding payloads_at
  payloads_go_on front count i bytes t after total lt h so_far =
      let k : count - i ≡ suc (count - (i + 1)) = omega arith in
      let one : ahead front (payloads_at value (count - i) bytes) ≡ ahead (front ++ t ∷ []) (payloads_at value (count - (i + 1)) after) = rw (k, h) (regroup front t (payloads_at value (count - (i + 1)) after)) in
      sym one ∙ so_far

  pub payloads_end : (e : NbtError) (front : List Plain) (count i : ℕ) (bytes : List ℕ) (total : Read (List Plain)) → i < count → Fails e (value bytes)
      → ahead front (payloads_at value (count - i) bytes) ≡ total → Fails e total
  unfolding payloads_at
  payloads_end errors.Memory front count i bytes total lt h so_far = tt
  payloads_end errors.Wrong front count i bytes total lt h so_far =
      let k : count - i ≡ suc (count - (i + 1)) = omega arith in
      let one : ahead front (payloads_at value (count - i) bytes) ≡ None = rw (k, h) refl in
      sym so_far ∙ one

  pub payloads_done : (front : List Plain) (count i : ℕ) (bytes : List ℕ) (total : Read (List Plain)) → count ≤ i → ahead front (payloads_at value (count - i) bytes) ≡ total → total ≡ Some (front, bytes)
  unfolding payloads_at
  payloads_done front count i bytes total le so_far =
      let k : count - i ≡ 0 = omega arith in
      let one : ahead front (payloads_at value (count - i) bytes) ≡ Some (front, bytes) = rw k (ap (λ (ts : List Plain). Some (ts, bytes)) (append-nil front)) in
      sym so_far ∙ one

module _ (value : Tag → List ℕ → Read Plain) where
  module _ (count i : ℕ) (front : List (List ℕ × Plain)) (bytes : List ℕ) (total : Read (List (List ℕ × Plain))) where
    -- one turn is open
    opened : i < count → ahead front (tags_at value (count - i) bytes) ≡ total → ahead front (tags_at value (suc (count - (i + 1))) bytes) ≡ total
    opened lt so_far = ap (λ (k : ℕ). ahead front (tags_at value k bytes)) (omega arith) ∙ so_far

    pub tags_done : count ≤ i → ahead front (tags_at value (count - i) bytes) ≡ total → total ≡ None
    unfolding tags_at
    tags_done le so_far =
        let k : count - i ≡ 0 = omega arith in
        let one : ahead front (tags_at value (count - i) bytes) ≡ None = rw k refl in
        sym so_far ∙ one

    module _ (lt : i < count) (so_far : ahead front (tags_at value (count - i) bytes) ≡ total) where
      pub no_tag : (e : NbtError) → Fails e (tag_at bytes) → Fails e total
      unfolding tags_at
      no_tag errors.Memory h = tt
      no_tag errors.Wrong h =
          let one : ahead front (tags_at value (suc (count - (i + 1))) bytes) ≡ None = rw h refl in
          sym (opened lt so_far) ∙ one

      pub at_end : (after : List ℕ) → tag_at bytes ≡ Some (End, after) → total ≡ Some (front, after)
      unfolding tags_at
      at_end after h =
          let one : ahead front (tags_at value (suc (count - (i + 1))) bytes) ≡ Some (front, after) = rw h (ap (λ (qs : List (List ℕ × Plain)). Some (qs, after)) (append-nil front)) in
          sym (opened lt so_far) ∙ one

      module _ (k : Tag) (after : List ℕ) (h : tag_at bytes ≡ Some (k, after)) (goes : is_end k ≡ false) where
        pub no_name : (e : NbtError) → Fails e (text_at after) → Fails e total
        unfolding tags_at
        no_name errors.Memory n = tt
        no_name errors.Wrong n =
            let one : ahead front (tags_at value (suc (count - (i + 1))) bytes) ≡ None = rw (h, goes, n) refl in
            sym (opened lt so_far) ∙ one

        module _ (s behind : List ℕ) (n : text_at after ≡ Some (s, behind)) where
          pub no_tree : (e : NbtError) → Fails e (value k behind) → Fails e total
          unfolding tags_at
          no_tree errors.Memory v = tt
          no_tree errors.Wrong v =
              let one : ahead front (tags_at value (suc (count - (i + 1))) bytes) ≡ None = rw (h, goes, n, v) refl in
              sym (opened lt so_far) ∙ one

          pub tags_go_on : (t : Plain) (rest : List ℕ) → value k behind ≡ Some (t, rest) → ahead (front ++ (s, t) ∷ []) (tags_at value (count - (i + 1)) rest) ≡ total
          unfolding tags_at
          tags_go_on t rest v =
              let one : ahead front (tags_at value (suc (count - (i + 1))) bytes) ≡ ahead (front ++ (s, t) ∷ []) (tags_at value (count - (i + 1)) rest)
              = rw (h, goes, n, v) (regroup front (s, t) (tags_at value (count - (i + 1)) rest)) in
              sym one ∙ opened lt so_far

-- the pairs that were read make a map, or none
pub gathers : (value : Tag → List ℕ → Read Plain) (bytes : List ℕ) (qs : List (List ℕ × Plain)) (rest : List ℕ) (all : Option (List (List ℕ × Plain)))
    → tags_at value (length bytes) bytes ≡ Some (qs, rest) → gathered qs ≡ all → map_at value bytes ≡ (all >>= λ ps. Some (plain.map (pairs_of ps), rest))
unfolding map_at
gathers value bytes qs rest all h g = rw (h, g) refl

pub no_levels : (n : ℕ) (k : Tag) (bytes : List ℕ) → n ≡ 0 → leaf_at k bytes ≡ None → payload_at n k bytes ≡ None
unfolding payload_at
no_levels n k bytes z h = rw z h

pub going : (k : Tag) → (k ≡ End → ⊥) → is_end k ≡ false
going End h = absurd (h refl)
going _ h = refl
