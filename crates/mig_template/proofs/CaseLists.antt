-- Cases in order, one more at a time.
use Rattle.std.proofs.Common.{◌≡◌, ℕ, suc, ◌||◌, List, [], ◌∷◌, ◌++◌, Bool, true, false, Option, Some, None, length, refl, sym, ap, ◌∙◌}
use Rattle.std.specs.Prelude.{IsPermutation, ◌==◌}
use Rattle.std.specs.List.{list_any}
use Rattle.std.specs.Map.{keys_of}
use Rattle.std.proofs.lemmas.List.Sorted.{IsPermutation-refl, IsPermutation-cons, IsPermutation-map, IsPermutation-append, list_any-IsPermutation, length_permutation}
use Rattle.mig_model.specs.Template.{Field}
use Rattle.mig_model.specs.Names.{has_twice, is_among}
use Rattle.mig_template.specs.declared.fault.RecordFault.{RecordFault}
use Rattle.mig_template.specs.declared.fault.RecordFault.TheVariants.{TwiceNamed, NoCase, Memory}
use Rattle.mig_template.specs.Fault.{IsRecordFault}
use Rattle.std.proofs.lemmas.List.Folds.{list_any-append}
use Rattle.mig_model.specs.Record.{Case, Cases, IsOrderOf, FieldsOrdered, CasesOrdered, has_twice_in, is_twice_in, is_twice_named, has_no_case}
use Rattle.mig_template.proofs.Names.{twice_moved, keys_moved}
use Rattle.mig_model.proofs.Bools.{right_or, both_false}

pub ordered_more : (gs ds : List Case) (g d : Case) → FieldsOrdered gs ds → g.0 ≡ d.0 → IsOrderOf g.1 d.1 → FieldsOrdered (gs ++ g ∷ []) (ds ++ d ∷ [])
ordered_more [] [] g d h l o = (l, o, tt)
ordered_more (x ∷ gs) (y ∷ ds) g d h l o = (h.0, h.1, ordered_more gs ds g d h.2 l o)
ordered_more _ _ g d h l o = absurd h

pub none_more : (p : Case → Bool) (gs : List Case) (g : Case) → list_any p gs ≡ false → p g ≡ false → list_any p (gs ++ g ∷ []) ≡ false
none_more p gs g h k = list_any-append p gs (g ∷ []) ∙ (λ i. h i || (k i || false))

keys_ordered : (gs ds : List Case) → FieldsOrdered gs ds → keys_of gs ≡ keys_of ds
keys_ordered [] [] h = refl
keys_ordered (g ∷ gs) (d ∷ ds) h = λ i. h.0 i ∷ keys_ordered gs ds h.2 i
keys_ordered _ _ h = absurd h

any_ordered : (ms ns : List (List ℕ)) → IsPermutation ms ns → (gs ds : List Case) → FieldsOrdered gs ds → list_any (has_twice_in ms) gs ≡ list_any (has_twice_in ns) ds
any_ordered ms ns p [] [] h = refl
any_ordered ms ns p (g ∷ gs) (d ∷ ds) h =
    let here : has_twice (keys_of g.1 ++ ms) ≡ has_twice (keys_of d.1 ++ ns) =
    twice_moved (keys_of g.1 ++ ms) (keys_of d.1 ++ ns) (IsPermutation-append (keys_of g.1) (keys_of d.1) ms ns (IsPermutation-map (λ f. f.0) g.1 d.1 h.1.same) p) in
    λ i. here i || any_ordered ms ns p gs ds h.2 i
any_ordered ms ns p _ _ h = absurd h

any_moved : (ms ns : List (List ℕ)) → IsPermutation ms ns → (gs : List Case) → list_any (has_twice_in ms) gs ≡ list_any (has_twice_in ns) gs
any_moved ms ns p [] = refl
any_moved ms ns p (g ∷ gs) =
    let here : has_twice (keys_of g.1 ++ ms) ≡ has_twice (keys_of g.1 ++ ns) =
    twice_moved (keys_of g.1 ++ ms) (keys_of g.1 ++ ns) (IsPermutation-append (keys_of g.1) (keys_of g.1) ms ns (IsPermutation-refl (keys_of g.1)) p) in
    λ i. here i || any_moved ms ns p gs i

-- order changes nothing about names that are there twice
pub twice_in_parts : (others : List (List ℕ)) (gs ds cs : List Case) → FieldsOrdered gs ds → IsPermutation ds cs → is_twice_in others gs ≡ is_twice_in others cs
twice_in_parts others gs ds cs h p =
    let any : list_any (has_twice_in others) gs ≡ list_any (has_twice_in others) cs = any_ordered others others (IsPermutation-refl others) gs ds h ∙ list_any-IsPermutation (has_twice_in others) ds cs p in
    let twice : has_twice (keys_of gs) ≡ has_twice (keys_of cs) = ap has_twice (keys_ordered gs ds h) ∙ keys_moved ds cs p in
    λ i. any i || twice i

pub named_moved : (fs hs : List Field) → IsPermutation fs hs → (c : Option Cases) → is_twice_named fs c ≡ is_twice_named hs c
named_moved fs hs p None = keys_moved fs hs p
named_moved fs hs p (Some c) =
    let others : IsPermutation (c.0 ∷ keys_of fs) (c.0 ∷ keys_of hs) = IsPermutation-cons c.0 (keys_of fs) (keys_of hs) (IsPermutation-map (λ f. f.0) fs hs p) in
    let twice : has_twice (c.0 ∷ keys_of fs) ≡ has_twice (c.0 ∷ keys_of hs) = twice_moved (c.0 ∷ keys_of fs) (c.0 ∷ keys_of hs) others in
    let any = any_moved (c.0 ∷ keys_of fs) (c.0 ∷ keys_of hs) others c.1 in
    λ i. twice i || (any i || has_twice (keys_of c.1))

pub tag_once : (fs : List Field) (tag : List ℕ) → is_among (keys_of fs) tag ≡ false → has_twice (keys_of fs) ≡ false → has_twice (tag ∷ keys_of fs) ≡ false
tag_once fs tag h k = λ i. h i || k i

lengths : (gs ds : List Case) → FieldsOrdered gs ds → length gs ≡ length ds
lengths [] [] h = refl
lengths (g ∷ gs) (d ∷ ds) h = ap suc (lengths gs ds h.2)
lengths _ _ h = absurd h

pub as_many : (gs cs : List Case) → CasesOrdered gs cs → length gs ≡ length cs
as_many gs cs h = lengths gs h.0 h.1.0 ∙ sym (length_permutation h.0 cs h.1.1.same)

pub keys_twice : (others : List (List ℕ)) (gs ds cs : List Case) → FieldsOrdered gs ds → IsPermutation ds cs → has_twice (keys_of cs) ≡ true → is_twice_in others gs ≡ true
keys_twice others gs ds cs h p twice = right_or (list_any (has_twice_in others) gs) (has_twice (keys_of gs)) (ap has_twice (keys_ordered gs ds h) ∙ keys_moved ds cs p ∙ twice)

pub keys_once : (others : List (List ℕ)) (gs ds cs : List Case) → FieldsOrdered gs ds → IsPermutation ds cs → list_any (has_twice_in others) gs ≡ false → has_twice (keys_of cs) ≡ false → is_twice_in others gs ≡ false
keys_once others gs ds cs h p none once = both_false (list_any (has_twice_in others) gs) (has_twice (keys_of gs)) none (ap has_twice (keys_ordered gs ds h) ∙ keys_moved ds cs p ∙ once)

-- what a new record is told by, once its common fields are in order
module _ (fs hs : List Field) (o : Option Cases) (tag : List ℕ) (gs : List Case) (kept : Bool) (same : IsPermutation fs hs) (is : o ≡ Some (tag, gs, kept)) where
  abbrev others : List (List ℕ)
  others = tag ∷ keys_of hs

  moved : is_twice_named fs o ≡ (has_twice others || is_twice_in others gs)
  moved = ap (is_twice_named fs) is ∙ named_moved fs hs same (Some (tag, gs, kept))

  pub tag_twice : is_among (keys_of hs) tag ≡ true → is_twice_named fs o ≡ true
  tag_twice h = moved ∙ ap (λ b. (b || has_twice (keys_of hs)) || is_twice_in others gs) h

  pub none_twice : has_twice others ≡ false → is_twice_in others gs ≡ false → is_twice_named fs o ≡ false
  none_twice free once = moved ∙ both_false (has_twice others) (is_twice_in others gs) free once

  -- what is at fault in the cases is at fault in the record
  pub fault_more : (e : RecordFault) → IsRecordFault e (is_twice_in others gs) false → IsRecordFault e (is_twice_named fs o) (has_no_case o)
  fault_more TwiceNamed h = moved ∙ right_or (has_twice others) (is_twice_in others gs) h
  fault_more NoCase h = absurd cc
  fault_more Memory h = tt

  pub cases_counted : (cs : List Case) (n : ℕ) → CasesOrdered gs cs → length cs ≡ n → has_no_case o ≡ (n == 0)
  cases_counted cs n ordered many = ap has_no_case is ∙ ap (λ m. m == 0) (as_many gs cs ordered ∙ many)
