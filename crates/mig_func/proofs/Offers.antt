-- What each operation makes of fields, from the list that the code gives.
use Rattle.std.proofs.Common.{◌≡◌, ℕ, List, [], ◌∷◌, ◌++◌, Bool, true, false, true≢false, ◌||◌, Option, Some, None, refl, sym, ap, subst₂, ◌∙◌, arith, ◌≤◌, length, map, take}
use Rattle.std.specs.Prelude.{not, ◌&&◌, option_map, option_and_then}
use Rattle.std.specs.List.{list_any, filter}
use Rattle.std.specs.Map.{keys_of}
use Rattle.std.proofs.lemmas.List.{take_all}
use Rattle.std.proofs.lemmas.List.Folds.{list_any-append}
use Rattle.std.proofs.lemmas.List.Sorted.{IsPermutation-refl, IsPermutation-trans, IsPermutation-append_comm}
use Rattle.mig_model.specs.declared.presence.Presence.TheVariants.{Must, May}
use Rattle.mig_model.specs.declared.rest.Rest.{Rest}
use Rattle.mig_model.specs.declared.kind.Kind.{Kind}
use Rattle.mig_model.specs.Names.{Ascends, has_twice, same_name, is_among, under, has, without, put, put_all, bring, moved}
use Rattle.mig_model.specs.Fields.{if_so}
use Rattle.mig_model.specs.Template.{Field, is_open}
use Rattle.mig_model.specs.Record.{IsOrderOf}
use Rattle.mig_template.proofs.Names.{twice_in_both}
use Rattle.mig_template.proofs.Sorted.{once_if_ascends}
use Rattle.mig_field.specs.FieldFn.{Fill, fill_template, rename, drop, add, learn, forget}
use Rattle.mig_field.specs.NewRecord.{FieldType, is_clear, can_be_learned, learned, at_field}
use Rattle.mig_func.specs.New.{has_clash, IsNew, NoneTaken, Offers}
use Rattle.mig_func.proofs.Tests.{neither, any_either, any_alike, any_swap}
use Rattle.mig_model.proofs.Edits.{under-without, under-filter, ascends-filter, under-put, put_without, ascends-put, ascends-put_all, ascends-without, same_under, among_is, none_of, none_among, put_all-permutes, order_all}
use Rattle.std.proofs.Math.Bool.{or-false}
use Rattle.std.proofs.lemmas.Bool.{not-true}
use Rattle.mig_model.proofs.Bools.{split_and}
use Rattle.mig_model.proofs.SameNames.{same_name_is, same_name_itself}
use Rattle.mig_model.proofs.Entries.{keys_append}

-- ---- names
-- what the code was told of a name
pub has_told : {A : Type 0} (es : List (List ℕ × A)) (x m : List ℕ) (told b : Bool) → told ≡ is_among (keys_of es) m → m ≡ x → told ≡ b → has x es ≡ b
has_told es x m told b h e k = sym (among_is es x) ∙ ap (is_among (keys_of es)) (sym e) ∙ sym h ∙ k

-- a name that is there isn't taken
pub taken_not : {A : Type 0} (taken : List ℕ → Bool) (es : List (List ℕ × A)) (n : List ℕ) → list_any taken (keys_of es) ≡ false → has n es ≡ true → taken n ≡ false
taken_not taken es n h k = none_of taken (keys_of es) h n (among_is es n ∙ k)

pub none_taken : {A : Type 0} (taken : List ℕ → Bool) (es : List (List ℕ × A)) → ((n : List ℕ) → has n es ≡ true → taken n ≡ false) → list_any taken (keys_of es) ≡ false
none_taken taken es h = none_among taken (keys_of es) (λ n k. h n (sym (among_is es n) ∙ k))

pub without-none : {A : Type 0} (x : List ℕ) (es : List (List ℕ × A)) → Ascends es → under x es ≡ None → without x es ≡ es
without-none x es s h = same_under (without x es) es (ascends-without x es s) s (λ n. grind (arith, under-without x es n s, same_name_is n x, h))

pub put-without : {A : Type 0} (x : List ℕ) (a : A) (es : List (List ℕ × A)) → Ascends es → put x a (without x es) ≡ put x a es
put-without x a es s =
    same_under (put x a (without x es)) (put x a es) (ascends-put x a (without x es) (ascends-without x es s)) (ascends-put x a es s)
    (λ n. grind (arith, put_without x a es n s, under-put x a es n))

pub gone : {A : Type 0} (x : List ℕ) (es : List (List ℕ × A)) → Ascends es → under x (without x es) ≡ None
gone x es s = grind (arith, under-without x es x s, same_name_itself x)

-- the pairs of other names
filter-without : {A : Type 0} (x : List ℕ) (es : List (List ℕ × A)) → Ascends es → filter (λ e. not (same_name e.0 x)) es ≡ without x es
filter-without x es s =
    same_under (filter (λ e. not (same_name e.0 x)) es) (without x es) (ascends-filter (λ n. not (same_name n x)) es s) (ascends-without x es s)
    (λ n. grind (arith, under-filter (λ m. not (same_name m x)) es n, under-without x es n s))

-- the pairs of other names, kept one by one of all that are there
pub all_but : {X A : Type 0} (view : X → List ℕ × A) (x : List ℕ) (xs : List X) (i : ℕ) (es : List (List ℕ × A)) → length xs ≤ i → map view xs ≡ es → Ascends es → filter (λ e. not (same_name e.0 x)) (map view (take i xs)) ≡ without x es
all_but {X} {A} view x xs i es past is s =
    ap (λ l. filter (λ (e : List ℕ × A). not (same_name e.0 x)) (map view l)) (take_all i xs past) ∙ ap (filter (λ (e : List ℕ × A). not (same_name e.0 x))) is ∙ filter-without x es s

-- what is among the rest was there
pub still_has : {A : Type 0} (x n : List ℕ) (es : List (List ℕ × A)) → Ascends es → has n (without x es) ≡ true → has n es ≡ true
still_has x n es s h = grind (arith, under-without x es n s)

-- ---- more fields behind others
pub clash_is : (taken : List ℕ → Bool) (base ads : List Field) → Ascends base → NoneTaken taken base → has_twice (keys_of ads) ≡ false → has_clash taken (base ++ ads) ≡ list_any (λ n. has n base || taken n) (keys_of ads)
clash_is taken base ads s free once =
    let K = keys_of base in
    let L = keys_of ads in
    let twice : has_twice (K ++ L) ≡ list_any (is_among K) L = twice_in_both K L (once_if_ascends base s) once ∙ any_swap L K in
    let any : list_any taken (K ++ L) ≡ list_any taken L = list_any-append taken K L ∙ ap (λ b. b || list_any taken L) free in
    ap (λ ks. has_twice ks || list_any taken ks) (keys_append base ads)
    ∙ (λ i. twice i || any i)
    ∙ any_either (is_among K) taken L
    ∙ any_alike (λ n. is_among K n || taken n) (λ n. has n base || taken n) L (λ n. ap (λ b. b || taken n) (among_is base n))

pub offered : (b : Bool) (fs es : List Field) (taken : List ℕ → Bool) → has_clash taken es ≡ not b → (b ≡ true → IsOrderOf es fs) → IsNew (if_so b fs) taken es
offered true fs es taken h o = record { made = λ k. (fs, refl, o refl); none = λ k. absurd (true≢false (sym k ∙ h)) }
offered false fs es taken h o = record { made = λ k. absurd (true≢false (sym h ∙ k)); none = λ k. refl }

-- one more
pub new_one : (base : List Field) (x : List ℕ) (t : FieldType) (taken : List ℕ → Bool) → Ascends base → NoneTaken taken base → IsNew (if_so (not (has x base) && not (taken x)) (put x t base)) taken (base ++ (x, t) ∷ [])
new_one base x t taken s free =
    offered (not (has x base) && not (taken x)) (put x t base) (base ++ (x, t) ∷ []) taken
    (clash_is taken base ((x, t) ∷ []) s free refl ∙ neither (has x base) (taken x))
    (λ k. let apart : has x base ≡ false = not-true (has x base) (split_and (not (has x base)) (not (taken x)) k).0 in
    order_all base ((x, t) ∷ []) s refl (or-false (has x base) ∙ apart))

-- none more
pub new_none : (base : List Field) (taken : List ℕ → Bool) → Ascends base → NoneTaken taken base → IsNew (Some base) taken base
new_none base taken s free =
    offered true base base taken (λ i. once_if_ascends base s i || free i) (λ k. record { same = IsPermutation-refl base; ascend = s })

free_without : (x : List ℕ) (fs : List Field) (taken : List ℕ → Bool) → Ascends fs → NoneTaken taken fs → NoneTaken taken (without x fs)
free_without x fs taken s free = none_taken taken (without x fs) (λ n k. taken_not taken fs n free (still_has x n fs s k))

-- the same of what is equal to these
pub new_same : (o q : Option (List Field)) (taken : List ℕ → Bool) (es ds : List Field) → o ≡ q → es ≡ ds → IsNew q taken ds → IsNew o taken es
new_same o q taken es ds e f h = subst₂ (λ x l. IsNew x taken l) (sym e) (sym f) h

-- ---- the operations
pub rename_offers : (r : Rest) (x y : List ℕ) (t : FieldType) (fs es : List Field) → Ascends fs → under x fs ≡ Some t → has y fs ≡ false → es ≡ without x fs ++ (y, t) ∷ [] → Offers (rename x y) r fs es
rename_offers r x y t fs es s there free_y is taken free =
    let base = without x fs in
    let none : under y base ≡ None = grind (arith, under-without x fs y s, free_y) in
    let test : (has x fs && (not (has y fs) && not (taken y))) ≡ (not (has y base) && not (taken y)) = grind (arith, none, there, free_y) in
    let made : moved x y fs ≡ put y t base = (λ i. bring y (there i) (without y base)) ∙ ap (put y t) (without-none y base (ascends-without x fs s) none) in
    new_same _ _ taken es (base ++ (y, t) ∷ []) (λ i. if_so (test i) (made i)) is (new_one base y t taken (ascends-without x fs s) (free_without x fs taken s free))

pub drop_offers : (r : Rest) (x : List ℕ) (fs es : List Field) → Ascends fs → has x fs ≡ true → es ≡ without x fs → Offers (drop x) r fs es
drop_offers r x fs es s there is taken free =
    new_same _ _ taken es (without x fs) (ap (λ b. if_so b (without x fs)) there) is (new_none (without x fs) taken (ascends-without x fs s) (free_without x fs taken s free))

pub forget_offers : (r : Rest) (x : List ℕ) (fs es : List Field) → Ascends fs → has x fs ≡ true → is_open r ≡ true → es ≡ without x fs → Offers (forget x) r fs es
forget_offers r x fs es s there open_rest is taken free =
    new_same _ _ taken es (without x fs) (λ i. if_so (there i && open_rest i) (without x fs)) is (new_none (without x fs) taken (ascends-without x fs s) (free_without x fs taken s free))

-- one more field, where nothing else stands against it
one_more_offers : (x : List ℕ) (t : FieldType) (b : Bool) (fs es : List Field) (taken : List ℕ → Bool) → Ascends fs → b ≡ true → es ≡ fs ++ (x, t) ∷ [] → NoneTaken taken fs → IsNew (if_so ((not (has x fs) && not (taken x)) && b) (put x t fs)) taken es
one_more_offers x t b fs es taken s h is free =
    let test : ((not (has x fs) && not (taken x)) && b) ≡ (not (has x fs) && not (taken x)) = grind (arith, h) in
    new_same _ _ taken es (fs ++ (x, t) ∷ []) (ap (λ c. if_so c (put x t fs)) test) is (new_one fs x t taken s free)

pub add_offers : (r : Rest) (x : List ℕ) (c : Fill) (fs es : List Field) → Ascends fs → is_clear (fill_template c) ≡ true → es ≡ fs ++ (x, (Must, fill_template c)) ∷ [] → Offers (add x c) r fs es
add_offers r x c fs es s clear is taken free = one_more_offers x (Must, fill_template c) (is_clear (fill_template c)) fs es taken s clear is free

pub learn_offers : (r : Rest) (x : List ℕ) (k : Option Kind) (fs es : List Field) → Ascends fs → is_open r ≡ true → can_be_learned k ≡ true → es ≡ fs ++ (x, (May, learned k)) ∷ [] → Offers (learn x k) r fs es
learn_offers r x k fs es s open_rest can is taken free = one_more_offers x (May, learned k) (is_open r && can_be_learned k) fs es taken s (λ i. open_rest i && can i) is free

-- another presence and template at a field that is there
pub replaced_offers : (x : List ℕ) (t : FieldType) (fs es : List Field) (taken : List ℕ → Bool) → Ascends fs → has x fs ≡ true → es ≡ without x fs ++ (x, t) ∷ [] → NoneTaken taken fs → IsNew (Some (put x t fs)) taken es
replaced_offers x t fs es taken s there is free =
    let base = without x fs in
    let test : true ≡ (not (has x base) && not (taken x)) = grind (arith, gone x fs s, taken_not taken fs x free there) in
    new_same _ _ taken es (base ++ (x, t) ∷ []) (λ i. if_so (test i) (sym (put-without x t fs s) i)) is (new_one base x t taken (ascends-without x fs s) (free_without x fs taken s free))

-- what a field function makes of one field stands in its place
pub at_is : (x : List ℕ) (f : FieldType → Option FieldType) (fs : List Field) (s t : FieldType) → under x fs ≡ Some s → f s ≡ Some t → at_field x f fs ≡ Some (put x t fs)
at_is x f fs s t h k = ap (option_and_then (λ u. option_map (λ w. put x w fs) (f u))) h ∙ ap (option_map (λ w. put x w fs)) k
