-- The pairs of an object, one after another.
use Rattle.std.proofs.Common.{◌≡◌, ℕ, ◌+◌, ◌<◌, length, drop, get_or, List, [], ◌∷◌, ◌++◌, Some, None, Option, option_map, option_and_then, string_bytes, string_cmp, Less, refl, sym, ap, ◌∙◌, append_assoc, subst}
use Rattle.std.specs.List.{AllByRecursion}
use Rattle.std.specs.List.Sorted.{IsStrictlySortedBy}
use Rattle.std.specs.Map.{keys_of}
use Rattle.serde_json.specs.declared.value.Value.{Value}
use Rattle.serde_json.specs.View.{view, items_view, members_view}
use Rattle.serde_json.proofs.Views.{Entry}
use Rattle.mig_model.specs.Plain.{Plain}
use Rattle.mig_model.specs.Names.{by_bytes, Ascends}
use Rattle.std.specs.Prelude.{IsUtf8}
use Rattle.mig_model.specs.Plain.{trees_of, pairs_of}
use Rattle.mig_tree.proofs.Places.{drop_here}
use Rattle.mig_json.specs.Save.{tree_of, trees_in, pairs_in}
use Rattle.mig_json.specs.Kinds.{IsJson, AreJson, ArePairsJson}
use Rattle.mig_model.specs.Keeps.{IsShort, Keeps, AllPairsKeep}
use Rattle.mig_json.specs.Lending.{ahead}
use Rattle.std.proofs.lemmas.Option.{same_Some}

abbrev pub Pair : Type 0
Pair = List ℕ × Plain

-- a pair before the others
abbrev joined : List ℕ → Option Plain → Option (List Pair) → Option (List Pair)
joined k t ps = option_and_then (λ x. option_map (λ xs. (k, x) ∷ xs) ps) t

record Split (k : List ℕ) (t : Option Plain) (ps : Option (List Pair)) (all : List Pair) : Type 0 where
  pub first : Plain
  pub others : List Pair
  pub first_is : t ≡ Some first
  pub others_are : ps ≡ Some others
  pub all_are : all ≡ (k, first) ∷ others

split : (k : List ℕ) (t : Option Plain) (ps : Option (List Pair)) (all : List Pair) → joined k t ps ≡ Some all → Split k t ps all
split k None ps all e = absurd cc
split k (Some x) None all e = absurd cc
split k (Some x) (Some xs) all e = record { first = x; others = xs; first_is = refl; others_are = refl; all_are = sym (same_Some ((k, x) ∷ xs) all e) }

joins : (k : List ℕ) (t : Option Plain) (ps : Option (List Pair)) (x : Plain) (xs : List Pair) → t ≡ Some x → ps ≡ Some xs → joined k t ps ≡ Some ((k, x) ∷ xs)
joins k t ps x xs e f = rw (e, f) refl

pub pairs_push : (done : List Entry) (e : Entry) (ps : List Pair) (t : Plain) → pairs_in (members_view done) ≡ Some ps → tree_of (view e.1) ≡ Some t
    → pairs_in (members_view (done ++ e ∷ [])) ≡ Some (ps ++ (string_bytes e.0, t) ∷ [])
pairs_push [] e ps t h is =
    let none : [] ≡ ps = same_Some [] ps h in
    subst (λ (xs : List Pair). joined (string_bytes e.0) (tree_of (view e.1)) (Some []) ≡ Some (xs ++ (string_bytes e.0, t) ∷ [])) none (rw is refl)
pairs_push (d ∷ done) e ps t h is =
    let s = split (string_bytes d.0) (tree_of (view d.1)) (pairs_in (members_view done)) ps h in
    let later = pairs_push done e s.others t s.others_are is in
    let named : joined (string_bytes d.0) (tree_of (view d.1)) (pairs_in (members_view (done ++ e ∷ []))) ≡ Some ((string_bytes d.0, s.first) ∷ (s.others ++ (string_bytes e.0, t) ∷ [])) = joins (string_bytes d.0) (tree_of (view d.1)) (pairs_in (members_view (done ++ e ∷ []))) s.first (s.others ++ (string_bytes e.0, t) ∷ []) s.first_is later in
    subst (λ (xs : List Pair). joined (string_bytes d.0) (tree_of (view d.1)) (pairs_in (members_view (done ++ e ∷ []))) ≡ Some (xs ++ (string_bytes e.0, t) ∷ [])) (sym s.all_are) named

regroup : (front : List Pair) (p : Pair) (found : Option (List Pair)) → ahead front (option_map (λ xs. p ∷ xs) found) ≡ ahead (front ++ p ∷ []) found
regroup front p (Some xs) = ap (λ (ps : List Pair). Some ps) (sym (append_assoc front (p ∷ []) xs))
regroup front p None = refl

pub pairs_ahead : (front : List Pair) (e : Entry) (left : List Entry) (t : Plain) (total : Option (List Pair)) → tree_of (view e.1) ≡ Some t
    → ahead front (pairs_in (members_view (e ∷ left))) ≡ total → ahead (front ++ (string_bytes e.0, t) ∷ []) (pairs_in (members_view left)) ≡ total
pairs_ahead front e left t total is h =
    let one : ahead front (joined (string_bytes e.0) (tree_of (view e.1)) (pairs_in (members_view left))) ≡ ahead front (option_map (λ xs. (string_bytes e.0, t) ∷ xs) (pairs_in (members_view left))) = rw is refl in
    sym (regroup front (string_bytes e.0, t) (pairs_in (members_view left))) ∙ sym one ∙ h

above : (k : List ℕ) (es : List Entry) (ps : List Pair) → pairs_in (members_view es) ≡ Some ps → AllByRecursion (λ y. by_bytes k (string_bytes y) ≡ Less) (keys_of es)
    → AllByRecursion (λ y. by_bytes k y ≡ Less) (keys_of ps)
above k [] ps h all = subst (λ (xs : List Pair). AllByRecursion (λ y. by_bytes k y ≡ Less) (keys_of xs)) (same_Some [] ps h) tt
above k (e ∷ es) ps h all =
    let s = split (string_bytes e.0) (tree_of (view e.1)) (pairs_in (members_view es)) ps h in
    subst (λ (xs : List Pair). AllByRecursion (λ y. by_bytes k y ≡ Less) (keys_of xs)) (sym s.all_are) (all.0, above k es s.others s.others_are all.1)

-- an object's names ascend by bytes
pub pairs_named : (es : List Entry) (ps : List Pair) → pairs_in (members_view es) ≡ Some ps → IsStrictlySortedBy string_cmp (keys_of es) → Ascends ps
unfolding IsStrictlySortedBy
pairs_named [] ps h sorted = subst (λ (xs : List Pair). Ascends xs) (same_Some [] ps h) tt
pairs_named (e ∷ es) ps h sorted =
    let s = split (string_bytes e.0) (tree_of (view e.1)) (pairs_in (members_view es)) ps h in
    subst (λ (xs : List Pair). Ascends xs) (sym s.all_are) (above (string_bytes e.0) es s.others s.others_are sorted.0, pairs_named es s.others s.others_are sorted.1)

pub json_push : (ts : List Plain) (t : Plain) → AreJson (trees_of ts) → IsJson t → AreJson (trees_of (ts ++ t ∷ []))
json_push [] t h p = (p, tt)
json_push (x ∷ ts) t h p = (h.0, json_push ts t h.1 p)

pub pair_json_push : (ps : List Pair) (k : List ℕ) (t : Plain) → ArePairsJson (pairs_of ps) → IsUtf8 k → IsJson t → ArePairsJson (pairs_of (ps ++ (k, t) ∷ []))
pair_json_push [] k t h u p = (u, p, tt)
pair_json_push (x ∷ ps) k t h u p = (h.0, h.1, pair_json_push ps k t h.2 u p)

pub pair_keep_push : (ps : List Pair) (k : List ℕ) (t : Plain) → AllPairsKeep (pairs_of ps) → IsShort k → Keeps t → AllPairsKeep (pairs_of (ps ++ (k, t) ∷ []))
pair_keep_push [] k t h s p = (s, p, tt)
pair_keep_push (x ∷ ps) k t h s p = (h.0, h.1, pair_keep_push ps k t h.2 s p)

item_before : (front : List Plain) (t : Plain) (o : Option Plain) (found : Option (List Plain)) → o ≡ Some t → ahead front (option_and_then (λ x. option_map (λ xs. x ∷ xs) found) o) ≡ ahead (front ++ t ∷ []) found
item_before front t o (Some xs) e = rw e (ap (λ (ts : List Plain). Some ts) (sym (append_assoc front (t ∷ []) xs)))
item_before front t o None e = rw e refl

pub items_ahead : (front : List Plain) (vs : List Value) (i : ℕ) (v : Value) (t : Plain) (total : Option (List Plain)) → i < length vs → v ≡ get_or vs i v → tree_of (view v) ≡ Some t
    → ahead front (trees_in (items_view (drop i vs))) ≡ total → ahead (front ++ t ∷ []) (trees_in (items_view (drop (i + 1) vs))) ≡ total
items_ahead front vs i v t total l is e h =
    let parted : drop i vs ≡ v ∷ drop (i + 1) vs = drop_here vs i v l is in
    let one = item_before front t (tree_of (view v)) (trees_in (items_view (drop (i + 1) vs))) e in
    sym one ∙ sym (ap (λ (ws : List Value). ahead front (trees_in (items_view ws))) parted) ∙ h
