-- The tests' slots ascend, and the chain takes the tests' nodes.
use Rattle.std.proofs.Common.{◌≡◌, ◌∙◌, refl, sym, ap, subst, ℕ, List, [], ◌∷◌, map}
use Rattle.std.specs.List.Sorted.{IsStrictlySortedBy}
use Rattle.mig_model.specs.Names.{Ascends}
use Rattle.mig_value.specs.declared.slots.Slot.{Slot}
use Rattle.mig_value.specs.Typed.{Typed, left, right, list, items_of}
use Rattle.mig_value.specs.View.{slot_of}
use Rattle.mig_path.specs.declared.side.Side.TheVariants.{Left}
use Rattle.mig_path.specs.Path.{Path, Takes}
use Rattle.optic_tests.specs.Chain.{in_case, in_node, chain, case_value, full_node, bare_node}

pub one_name : (xs : List Slot) (s : Slot) → xs ≡ s ∷ [] → Ascends (map slot_of xs)
unfolding IsStrictlySortedBy
one_name xs s e = subst (λ (l : List Slot). Ascends (map slot_of l)) (sym e) (tt, tt)

-- ---- the nodes
abbrev l : List ℕ
l = 108 ∷ []

abbrev k : List ℕ
k = 107 ∷ []

abbrev rest : Path
rest = in_case l (97 ∷ []) Left

pub on_left : (p v w : Typed) → p ≡ case_value l v → v ≡ left w → Takes rest p
on_left p v w e f = subst (λ (u : Typed). Takes rest u) (sym (e ∙ ap (case_value l) f)) (refl, ((refl, ((tt, (tt, tt)), tt)), tt))

pub on_right : (p v w : Typed) → p ≡ case_value l v → v ≡ right w → Takes rest p
on_right p v w e f = subst (λ (u : Typed). Takes rest u) (sym (e ∙ ap (case_value l) f)) (refl, ((refl, ((tt, tt), tt)), tt))

pub other_case : (p v : Typed) → p ≡ case_value k v → Takes rest p
other_case p v e = subst (λ (u : Typed). Takes rest u) (sym e) (refl, tt)

full : (v : Typed) → Takes rest v → Takes (in_node (109 ∷ []) rest) (full_node v)
full v h = (tt, ((tt, (h, tt)), tt))

bare : Takes (in_node (109 ∷ []) rest) bare_node
bare = (tt, ((tt, tt), tt))

pub taken : (vs : List Typed) (p q r : Typed) → vs ≡ full_node p ∷ full_node q ∷ full_node r ∷ bare_node ∷ [] → Takes rest p → Takes rest q → Takes rest r → Takes chain (list (items_of vs))
taken vs p q r e f g h =
    subst (λ (ws : List Typed). Takes chain (list (items_of ws))) (sym e) (tt, (full p f, (full q g, (full r h, (bare, tt)))))
