-- A map of which every pair was read.
use Rattle.std.proofs.Common.{◌≡◌, ℕ, List, [], ◌∷◌, ◌++◌, Bool, true, false, true≢false, Option, Some, None, refl, sym, ap, ◌∙◌, subst, append_assoc}
use Rattle.std.proofs.lemmas.Bool.{false_from_ne_true}
use Rattle.std.proofs.lemmas.List.Folds.{list_any-append}
use Rattle.std.specs.Prelude.{IsPermutation, not, ◌||◌, ◌&&◌, is_some, if◌then◌else◌}
use Rattle.std.specs.List.{filter, AllByRecursion}
use Rattle.std.specs.List.Sorted.{IsStrictlySortedBy}
use Rattle.std.specs.Map.{keys_of}
use Rattle.std.specs.declared.cmp.Ordering.TheVariants.{Less}
use Rattle.std.proofs.lemmas.List.Sorted.{IsPermutation-refl, IsPermutation-sym, IsPermutation-trans, IsPermutation-cons, IsPermutation-middle}
use Rattle.mig_model.specs.Plain.{Plain}
use Rattle.mig_model.specs.Names.{by_bytes, Ascends, under, has_twice, same_name, is_among}
use Rattle.mig_model.specs.Inhabits.{Entries, has_musts}
use Rattle.mig_model.specs.Family.{Family}
use Rattle.mig_model.specs.Place.{Wrong, sooner, place_under, missing}
use Rattle.mig_model.specs.declared.presence.Presence.{Presence}
use Rattle.mig_model.specs.Template.{Template, Field, fields_of, is_must}
use Rattle.mig_template.proofs.Found.{among_is_found}
use Rattle.mig_template.proofs.Names.{keys_moved, apart_from_first}
use Rattle.mig_template.proofs.Sorted.{once_if_ascends}
use Rattle.mig_value.specs.Typed.{in_order}
use Rattle.mig_value.specs.Parts.{RecordParts, IsRecordValue}
use Rattle.mig_value.proofs.Orders.{in_order_named}
use Rattle.mig_write.specs.Lists.{pairs_in}
use Rattle.std.specs.Ordering.{is_lt}
use Rattle.mig_codec.specs.Parted.{IsRow, IsRowRead, is_tagged, tag_names}
use Rattle.mig_row.specs.Row.{Row, Belongs, common, tagged, cased, unknown, is_tag, belongs, missing_in}
use Rattle.mig_row.proofs.Belonging.{by_tests}
use Rattle.mig_codec.proofs.Gathered.{Gathered, those, is_common, is_cased, is_unknown}
use Rattle.mig_write.proofs.Pairs.{slot_keys, pair_keys}
use Rattle.mig_model.proofs.Bools.{split_or, left_or, right_or}
use Rattle.mig_model.proofs.SameNames.{same_name_is, same_name_itself}
use Rattle.mig_laws.proofs.Exact.{sooner_none}

-- pairs of some names ascend where all do
all_those : (P : List ℕ → Type 0) (q : List ℕ × Plain → Bool) (es : Entries) → AllByRecursion P (keys_of es) → AllByRecursion P (keys_of (filter q es))
all_those P q [] h = tt
all_those P q (e ∷ es) h = by (q e) (all_those P q es h.1)
  where
    by : (b : Bool) → AllByRecursion P (keys_of (filter q es)) → AllByRecursion P (keys_of (if b then e ∷ filter q es else filter q es))
    by true rest = (h.0, rest)
    by false rest = rest

those_named : (q : List ℕ × Plain → Bool) (es : Entries) → Ascends es → Ascends (filter q es)
unfolding IsStrictlySortedBy
those_named q [] s = tt
those_named q (e ∷ es) s = by (q e) (those_named q es s.1)
  where
    by : (b : Bool) → Ascends (filter q es) → Ascends (if b then e ∷ filter q es else filter q es)
    by true rest = (all_those (λ y. by_bytes e.0 y ≡ Less) q es s.0, rest)
    by false rest = rest

-- the pairs by where they belong
abbrev parted : Row → Entries → Entries
parted row es = those is_common row es ++ (those is_tagged row es ++ (those is_cased row es ++ those is_unknown row es))

to_front : (xs ys : Entries) (e : List ℕ × Plain) (all : Entries) → IsPermutation all (xs ++ ys) → IsPermutation (e ∷ all) (xs ++ e ∷ ys)
to_front xs ys e all p = IsPermutation-trans _ _ _ (IsPermutation-cons e all (xs ++ ys) p) (IsPermutation-sym _ _ (IsPermutation-middle xs e ys))

-- a pair goes to the front of where it belongs
placed_in : (e : List ℕ × Plain) (es cs ts ks us : Entries) (b : Belongs) → IsPermutation es (cs ++ (ts ++ (ks ++ us)))
    → IsPermutation (e ∷ es) ((if is_common b then e ∷ cs else cs) ++ ((if is_tagged b then e ∷ ts else ts) ++ ((if is_cased b then e ∷ ks else ks) ++ (if is_unknown b then e ∷ us else us))))
placed_in e es cs ts ks us (common V) p = IsPermutation-cons e es (cs ++ (ts ++ (ks ++ us))) p
placed_in e es cs ts ks us tagged p = to_front cs (ts ++ (ks ++ us)) e es p
placed_in e es cs ts ks us (cased V) p = subst (IsPermutation (e ∷ es)) (append_assoc cs ts (e ∷ (ks ++ us))) (to_front (cs ++ ts) (ks ++ us) e es (subst (IsPermutation es) (sym (append_assoc cs ts (ks ++ us))) p))
placed_in e es cs ts ks us unknown p =
    subst (IsPermutation (e ∷ es)) (append_assoc cs (ts ++ ks) (e ∷ us) ∙ ap (λ l. cs ++ l) (append_assoc ts ks (e ∷ us)))
    (to_front (cs ++ (ts ++ ks)) us e es (subst (IsPermutation es) (sym (append_assoc cs (ts ++ ks) us ∙ ap (λ l. cs ++ l) (append_assoc ts ks us))) p))

parts_permute : (row : Row) (es : Entries) → IsPermutation es (parted row es)
parts_permute row [] = IsPermutation-refl []
parts_permute row (e ∷ es) = placed_in e es (those is_common row es) (those is_tagged row es) (those is_cased row es) (those is_unknown row es) (belongs row e.0) (parts_permute row es)

module _ (f : Family) (row : Row) (es : Entries) (p : RecordParts) (g : Gathered f row es p) (named : Ascends es) where
  pairs_are : pairs_in p ≡ parted row es
  pairs_are = λ i. g.fields i ++ (g.tag i ++ (g.cases i ++ g.others i))

  same_pairs : IsPermutation es (pairs_in p)
  same_pairs = subst (IsPermutation es) (sym pairs_are) (parts_permute row es)

  pub record_end : IsRecordValue p
  record_end = record {
    fields = subst (IsStrictlySortedBy by_bytes) (ap keys_of (sym g.fields) ∙ slot_keys p.fields) (those_named (λ e. is_common (belongs row e.0)) es named);
    cased = subst (IsStrictlySortedBy by_bytes) (ap keys_of (sym g.cases) ∙ slot_keys p.cased) (those_named (λ e. is_cased (belongs row e.0)) es named);
    rest = subst (IsStrictlySortedBy by_bytes) (ap keys_of (sym g.others) ∙ slot_keys p.rest) (those_named (λ e. is_unknown (belongs row e.0)) es named);
    distinct = ap has_twice (sym (pair_keys p)) ∙ sym (keys_moved es (pairs_in p) same_pairs) ∙ once_if_ascends es named;
  }

  pub pairs_end : in_order (pairs_in p) ≡ es
  pairs_end = in_order_named (pairs_in p) es (IsPermutation-sym es (pairs_in p) same_pairs) named

-- what is found among all pairs is found among those of its kind
pub found_those : (q : Belongs → Bool) (row : Row) (es : Entries) (x : List ℕ) → q (belongs row x) ≡ true → under x (those q row es) ≡ under x es
found_those q row [] x h = refl
found_those q row (e ∷ es) x h = by (q (belongs row e.0)) refl (same_name x e.0) refl (found_those q row es x h)
  where
    by : (b : Bool) → q (belongs row e.0) ≡ b → (c : Bool) → same_name x e.0 ≡ c → under x (those q row es) ≡ under x es → under x (if b then e ∷ those q row es else those q row es) ≡ (if c then Some e.1 else under x es)
    by true k c l rest = (λ i. if l i then Some e.1 else under x (those q row es)) ∙ ap (λ o. if c then Some e.1 else o) rest
    by false k true l rest = absurd (true≢false (sym h ∙ ap (λ m. q (belongs row m)) (same_name_is x e.0 l) ∙ k))
    by false k false l rest = rest

abbrev All : (List ℕ → Type 0) → List Field → Type 0
All Q fs = (n : List ℕ) → is_among (keys_of fs) n ≡ true → Q n

musts_there : (q : Belongs → Bool) (row : Row) (es : Entries) (fs : List Field) → All (λ n. q (belongs row n) ≡ true) fs → missing (fields_of fs) es ≡ None → has_musts (fields_of fs) (those q row es) ≡ true
musts_there q row es [] h e = refl
musts_there q row es (g ∷ fs) h e =
    let here : q (belongs row g.0) ≡ true = h g.0 (ap (λ b. b || is_among (keys_of fs) g.0) (same_name_itself g.0)) in
    let same : under g.0 (those q row es) ≡ under g.0 es = found_those q row es g.0 here in
    by (not (is_must g.1.0) || is_some (under g.0 es)) (ap (λ o. not (is_must g.1.0) || is_some o) same) e (λ k. musts_there q row es fs (λ n m. h n (right_or (same_name n g.0) (is_among (keys_of fs) n) m)) k)
  where
    by : (b : Bool) → (not (is_must g.1.0) || is_some (under g.0 (those q row es))) ≡ b → (if b then missing (fields_of fs) es else Some (g.0, [])) ≡ None → (missing (fields_of fs) es ≡ None → has_musts (fields_of fs) (those q row es) ≡ true)
        → ((not (is_must g.1.0) || is_some (under g.0 (those q row es))) && has_musts (fields_of fs) (those q row es)) ≡ true
    by true k e' rest = (λ i. k i && rest e' i)
    by false k e' rest = absurd cc

once_behind : (ms ns : List (List ℕ)) → has_twice (ms ++ ns) ≡ false → has_twice ns ≡ false
once_behind [] ns h = h
once_behind (m ∷ ms) ns h = once_behind ms ns (split_or (is_among (ms ++ ns) m) (has_twice (ms ++ ns)) h).1

or_front : (ms ns : List (List ℕ)) (x : List ℕ) → is_among ns x ≡ true → is_among (ms ++ ns) x ≡ true
or_front ms ns x h = list_any-append (same_name x) ms ns ∙ right_or (is_among ms x) (is_among ns x) h

or_last : (ms ns : List (List ℕ)) (x : List ℕ) → is_among ms x ≡ true → is_among (ms ++ ns) x ≡ true
or_last ms ns x h = list_any-append (same_name x) ms ns ∙ left_or (is_among ms x) (is_among ns x) h

common_if : (b : Bool) (o u : Option (Presence × Template)) → b ≡ false → is_some o ≡ true → is_common (by_tests b o u) ≡ true
common_if true o u h k = absurd (true≢false h)
common_if false (Some s) u h k = refl
common_if false None u h k = absurd (true≢false (sym k))

cased_if : (b : Bool) (o u : Option (Presence × Template)) → b ≡ false → is_some o ≡ false → is_some u ≡ true → is_cased (by_tests b o u) ≡ true
cased_if true o u h k l = absurd (true≢false h)
cased_if false (Some s) u h k l = absurd (true≢false k)
cased_if false None (Some s) h k l = refl
cased_if false None None h k l = absurd (true≢false (sym l))

pub or_false : (b : Bool) → (b || false) ≡ false → b ≡ false
or_false true e = e
or_false false e = e

module _ (f : Family) (row : Row) (is : IsRow f row) where
  tag_apart : (n : List ℕ) → is_among (tag_names row.tag) n ≡ false → is_tag row.tag n ≡ false
  tag_apart n = by row.tag
    where
      by : (o : Option (List ℕ)) → is_among (tag_names o) n ≡ false → is_tag o n ≡ false
      by None h = refl
      by (Some tag) h = or_false (same_name n tag) h

  tag_among : (n : List ℕ) → is_tag row.tag n ≡ true → is_among (tag_names row.tag) n ≡ true
  tag_among n = by row.tag
    where
      by : (o : Option (List ℕ)) → is_tag o n ≡ true → is_among (tag_names o) n ≡ true
      by None h = absurd (true≢false (sym h))
      by (Some tag) h = left_or (same_name n tag) false h

  common_there : All (λ n. is_common (belongs row n) ≡ true) row.fields
  common_there n h =
      let once : has_twice (tag_names row.tag ++ keys_of row.fields) ≡ false = once_behind (keys_of row.cased) (tag_names row.tag ++ keys_of row.fields) is.apart in
      common_if (is_tag row.tag n) (under n row.fields) (under n row.cased)
      (tag_apart n (apart_from_first (tag_names row.tag) (keys_of row.fields) n once h)) (among_is_found n row.fields ∙ h)

  cased_there : All (λ n. is_cased (belongs row n) ≡ true) row.cased
  cased_there n h =
      let others = tag_names row.tag ++ keys_of row.fields in
      let apart : is_among others n ≡ true → ⊥ = λ k. absurd (true≢false (sym h ∙ apart_from_first (keys_of row.cased) others n is.apart k)) in
      cased_if (is_tag row.tag n) (under n row.fields) (under n row.cased)
      (false_from_ne_true (is_tag row.tag n) (λ k. apart (or_last (tag_names row.tag) (keys_of row.fields) n (tag_among n k))))
      (false_from_ne_true (is_some (under n row.fields)) (λ k. apart (or_front (tag_names row.tag) (keys_of row.fields) n (sym (among_is_found n row.fields) ∙ k))))
      (among_is_found n row.cased ∙ h)

-- where no Must field is missing, the map is read
pub row_end : (f : Family) (row : Row) (es : Entries) (p : RecordParts) → Gathered f row es p → Ascends es → IsRow f row → missing_in row es ≡ None → IsRowRead f row es p
row_end f row es p g named is none =
    let both = sooner_none (missing (fields_of row.fields) es) (missing (fields_of row.cased) es) none in
    record {
      right = λ i. place_under (sooner (g.right i) (none i));
      fields = g.fields_fit;
      cased = g.cases_fit;
      rest = g.others_fit;
      field_musts = ap (has_musts (fields_of row.fields)) g.fields ∙ musts_there is_common row es row.fields (common_there f row is) both.0;
      cased_musts = ap (has_musts (fields_of row.cased)) g.cases ∙ musts_there is_cased row es row.cased (cased_there f row is) both.1;
      tag = g.tag;
      pairs = pairs_end f row es p g named;
      counted = g.counted;
    }
