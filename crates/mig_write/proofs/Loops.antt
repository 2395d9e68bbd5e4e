-- What a loop over values or slots has written so far, and how much is left of them.
use Rattle.std.proofs.Common.{◌≡◌, suc, ◌+◌, ◌<◌, ◌≤◌, List, [], ◌∷◌, ◌++◌, map, refl, ap, arith}
use Rattle.mig_model.specs.Plain.{Plain, trees_of}
use Rattle.mig_value.specs.Typed.{Typed, items_of, out, out_items, out_slots, slots_of, typed_size, item_list_size, slot_list_size}
use Rattle.mig_value.specs.View.{typed_of, slot_of}
use Rattle.mig_value.specs.declared.value.Value.{Value}
use Rattle.mig_value.specs.declared.slots.Slot.{Slot}
use Rattle.mig_value.specs.Nodes.{every, nodes}
use Rattle.mig_write.specs.Lists.{item_nodes, slot_nodes}

pub item_more : (ts : List Plain) (vs : List Typed) (t : Plain) (v : Typed) → trees_of ts ≡ out_items (items_of vs) → t ≡ out v → trees_of (ts ++ t ∷ []) ≡ out_items (items_of (vs ++ v ∷ []))
item_more [] [] t v h e = ap (λ u. trees_of (u ∷ [])) e
item_more [] (w ∷ vs) t v h e = absurd cc
item_more (u ∷ ts) [] t v h e = absurd cc
item_more (u ∷ ts) (w ∷ vs) t v h e =
    let first : u ≡ out w = cc in
    let rest : trees_of ts ≡ out_items (items_of vs) = cc in
    let more = item_more ts vs t v rest e in
    cc

pub slot_more : (ss : List Slot) (s : Slot) → out_slots (slots_of (map slot_of (ss ++ s ∷ []))) ≡ out_slots (slots_of (map slot_of ss)) ++ (s.name, out (typed_of s.value)) ∷ []
slot_more [] s = refl
slot_more (r ∷ ss) s = ap (λ l. (r.name, out (typed_of r.value)) ∷ l) (slot_more ss s)

pub items_weigh : (xs rest : List Value) (x : Value) → item_list_size (map typed_of (xs ++ x ∷ rest)) ≡ item_list_size (map typed_of xs) + suc (typed_size (typed_of x) + item_list_size (map typed_of rest))
items_weigh [] rest x = omega arith
items_weigh (y ∷ xs) rest x = omega (arith, items_weigh xs rest x)

pub slots_weigh : (xs rest : List Slot) (x : Slot) → slot_list_size (map slot_of (xs ++ x ∷ rest)) ≡ slot_list_size (map slot_of xs) + suc (typed_size (typed_of x.value) + slot_list_size (map slot_of rest))
slots_weigh [] rest x = omega arith
slots_weigh (y ∷ xs) rest x = omega (arith, slots_weigh xs rest x)

pub items_count : (xs rest : List Value) (x : Value) → item_nodes every (map typed_of (xs ++ x ∷ rest)) ≡ item_nodes every (map typed_of xs) + (nodes every (typed_of x) + item_nodes every (map typed_of rest))
items_count [] rest x = omega arith
items_count (y ∷ xs) rest x = omega (arith, items_count xs rest x)

pub slots_count : (xs rest : List Slot) (x : Slot) → slot_nodes every (map slot_of (xs ++ x ∷ rest)) ≡ slot_nodes every (map slot_of xs) + (nodes every (typed_of x.value) + slot_nodes every (map slot_of rest))
slots_count [] rest x = omega arith
slots_count (y ∷ xs) rest x = omega (arith, slots_count xs rest x)

-- the size and the nodes of the item in hand among all
pub item_smaller : (all xs : List Value) (x : Value) → (rest : List Value) × (all ≡ xs ++ x ∷ rest) → typed_size (typed_of x) < item_list_size (map typed_of all)
item_smaller all xs x s = omega (arith, ap (λ (l : List Value). item_list_size (map typed_of l)) s.1, items_weigh xs s.0 x)

pub slot_smaller : (all xs : List Slot) (x : Slot) → (rest : List Slot) × (all ≡ xs ++ x ∷ rest) → typed_size (typed_of x.value) < slot_list_size (map slot_of all)
slot_smaller all xs x s = omega (arith, ap (λ (l : List Slot). slot_list_size (map slot_of l)) s.1, slots_weigh xs s.0 x)

pub item_counted : (all xs : List Value) (x : Value) → (rest : List Value) × (all ≡ xs ++ x ∷ rest) → item_nodes every (map typed_of xs) + nodes every (typed_of x) ≤ item_nodes every (map typed_of all)
item_counted all xs x s = omega (arith, ap (λ (l : List Value). item_nodes every (map typed_of l)) s.1, items_count xs s.0 x)

pub slot_counted : (all xs : List Slot) (x : Slot) → (rest : List Slot) × (all ≡ xs ++ x ∷ rest) → slot_nodes every (map slot_of xs) + nodes every (typed_of x.value) ≤ slot_nodes every (map slot_of all)
slot_counted all xs x s = omega (arith, ap (λ (l : List Slot). slot_nodes every (map slot_of l)) s.1, slots_count xs s.0 x)
