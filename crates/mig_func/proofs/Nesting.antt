-- What `nest` and `unnest` make of fields.
use Rattle.std.proofs.Common.{◌≡◌, ℕ, List, [], ◌∷◌, ◌++◌, Bool, true, false, ◌||◌, Option, Some, None, refl, sym, ap, subst, ◌∙◌, arith}
use Rattle.std.specs.Prelude.{not, ◌&&◌, is_some, map, option_and_then, IsPermutation}
use Rattle.std.specs.List.{list_any, list_all}
use Rattle.std.specs.Map.{keys_of}
use Rattle.mig_model.specs.declared.presence.Presence.{Presence}
use Rattle.mig_model.specs.declared.presence.Presence.TheVariants.{Must}
use Rattle.mig_model.specs.declared.rest.Rest.{Rest}
use Rattle.mig_model.specs.declared.rest.Rest.TheVariants.{Open}
use Rattle.mig_model.specs.Names.{Ascends, has_twice, same_name, is_among, under, has, without, put, put_all, those, others}
use Rattle.mig_model.specs.Fields.{if_so}
use Rattle.mig_model.specs.Template.{rec, Field, fields_of, Choice, no_choice}
use Rattle.std.proofs.lemmas.List.Sorted.{IsPermutation-refl}
use Rattle.mig_model.proofs.OneOrder.{one_order}
use Rattle.mig_model.specs.Record.{Cases, RecordParts, IsRecordOf, IsChoiceOf, choice_of, record_of}
use Rattle.mig_template.proofs.Views.{field_list_of}
use Rattle.mig_field.specs.FieldFn.{nest, unnest}
use Rattle.mig_field.specs.NewRecord.{FieldType, Scoped, can_nest, is_some_name, unnested, unnest_slot, inner_fields}
use Rattle.mig_func.specs.New.{NoneTaken, Offers, has_clash}
use Rattle.mig_func.proofs.Tests.{any_either, any_alike, not_all}
use Rattle.mig_model.proofs.Edits.{under-without, under-others, ascends-without, ascends-others, all_names, order_all}
use Rattle.mig_func.proofs.Offers.{new_one, new_same, none_taken, taken_not, clash_is, offered, still_has}
use Rattle.mig_model.proofs.Bools.{split_or}
use Rattle.mig_model.proofs.SameNames.{same_name_is}

others_has : (xs : List (List ℕ)) (n : List ℕ) (fs : List Field) → has n (others xs fs) ≡ true → has n fs ≡ true
others_has xs n fs h = grind (arith, under-others xs fs n)

abbrev nest_slot : List (List ℕ) → List Field → FieldType
nest_slot xs fs = (Must, rec (fields_of (those xs fs)) no_choice Open)

pub nest_offers : (r : Rest) (xs : List (List ℕ)) (y : List ℕ) (fs es : List Field) → Ascends fs → is_some_name xs ≡ true → has_twice xs ≡ false → list_all (λ x. has x fs) xs ≡ true
    → es ≡ others xs fs ++ (y, (Must, rec (fields_of (those xs fs)) no_choice Open)) ∷ [] → Offers (nest xs y) r fs es
nest_offers r xs y fs es s some once all is taken free =
    let base = others xs fs in
    let free_base : NoneTaken taken base = none_taken taken base (λ n k. taken_not taken fs n free (others_has xs n fs k)) in
    let here : is_among xs y ≡ true → taken y ≡ false = λ e. taken_not taken fs y free (all_names (λ x. has x fs) xs all y e) in
    let test : can_nest xs y (record { fields = fs; taken = taken }) ≡ (not (has y base) && not (taken y)) = grind (arith, under-others xs fs y, here, some, once, all) in
    new_same _ _ taken es (base ++ (y, nest_slot xs fs) ∷ []) (ap (λ b. if_so b (put y (nest_slot xs fs) base)) test) is (new_one base y (nest_slot xs fs) taken (ascends-others xs fs s) free_base)

-- ---- unnest
unnested-keys : (p : Presence) (gs : List Field) → keys_of (map (unnested p) gs) ≡ keys_of gs
unnested-keys p [] = refl
unnested-keys p (g ∷ gs) = ap (λ ks. g.0 ∷ ks) (unnested-keys p gs)

abbrev unnest_test : List ℕ → List Field → (List ℕ → Bool) → List ℕ → Bool
unnest_test y fs taken n = same_name n y || (not (has n fs) && not (taken n))

pub unnest_is : (r : Rest) (y : List ℕ) (p : Presence) (gs : List Field) (c : Choice) (q : Rest) (fs : List Field) (taken : List ℕ → Bool) → c ≡ no_choice → under y fs ≡ Some (p, rec (fields_of gs) c q)
    → option_and_then (λ t. option_and_then (unnest_slot y (record { fields = fs; taken = taken }) t.0) (inner_fields t.1)) (under y fs) ≡ if_so (list_all (unnest_test y fs taken) (keys_of gs)) (put_all (map (unnested p) gs) (without y fs))
unnest_is r y p gs c q fs taken none there =
    let s : Scoped = record { fields = fs; taken = taken } in
    ap (option_and_then (λ t. option_and_then (unnest_slot y s t.0) (inner_fields t.1))) there
    ∙ ap (λ d. option_and_then (unnest_slot y s p) (inner_fields (rec (fields_of gs) d q))) none
    ∙ ap (unnest_slot y s p) (field_list_of gs)

pub unnest_offers : (r : Rest) (y : List ℕ) (p : Presence) (gs : List Field) (c : Choice) (q : Rest) (fs es : List Field) → Ascends fs → c ≡ no_choice → under y fs ≡ Some (p, rec (fields_of gs) c q) → has_twice (keys_of gs) ≡ false
    → es ≡ without y fs ++ map (unnested p) gs → Offers (unnest y) r fs es
unnest_offers r y p gs c q fs es s none there once is taken free =
    let base = without y fs in
    let ads = map (unnested p) gs in
    let sb = ascends-without y fs s in
    let free_base : NoneTaken taken base = none_taken taken base (λ n k. taken_not taken fs n free (still_has y n fs s k)) in
    let once_ads : has_twice (keys_of ads) ≡ false = ap has_twice (unnested-keys p gs) ∙ once in
    let test = unnest_test y fs taken in
    let taken_y : taken y ≡ false = taken_not taken fs y free (ap is_some there) in
    let clash : has_clash taken (base ++ ads) ≡ list_any (λ n. has n base || taken n) (keys_of ads) = clash_is taken base ads sb free_base once_ads in
    let not_b : has_clash taken (base ++ ads) ≡ not (list_all test (keys_of gs)) =
    clash
    ∙ ap (list_any (λ n. has n base || taken n)) (unnested-keys p gs)
    ∙ any_alike (λ n. has n base || taken n) (λ n. not (test n)) (keys_of gs) (λ n. grind (arith, under-without y fs n s, same_name_is n y, taken_y))
    ∙ sym (not_all test (keys_of gs)) in
    new_same _ _ taken es (base ++ ads) (unnest_is r y p gs c q fs taken none there) is
    (offered (list_all test (keys_of gs)) (put_all ads base) (base ++ ads) taken not_b
    (λ k. order_all base ads sb once_ads
    (split_or (list_any (λ n. has n base) (keys_of ads)) (list_any taken (keys_of ads))
    (any_either (λ n. has n base) taken (keys_of ads) ∙ sym clash ∙ not_b ∙ ap not k)).0))

no_choice_is : (c : Option Cases) → IsChoiceOf None c → c ≡ None
no_choice_is None h = refl
no_choice_is (Some c) h = absurd h

-- a record of fields that ascend
pub inner_is : (fs es : List Field) (p : RecordParts) → Ascends fs → es ≡ fs → IsRecordOf es None Open p → record_of p ≡ rec (fields_of fs) no_choice Open
inner_is fs es p s is h =
    let same : p.fields ≡ fs = one_order es p.fields fs h.fields.same (subst (λ (l : List Field). IsPermutation es l) is (IsPermutation-refl es)) h.fields.ascend s in
    let none : p.choice ≡ None = no_choice_is p.choice h.choice in
    λ i. rec (fields_of (same i)) (choice_of (none i)) (sym h.rest_is i)
