-- A typed value as plain data, and the tree that it stands for.
use Rattle.std.specs.Prelude.{ℕ, suc, ◌+◌, List, [], ◌∷◌, ◌++◌, Option, Some, None}
use Rattle.mig_model.specs.Plain as plain
use Rattle.mig_model.specs.Plain.{Plain, Trees, no_tree, tree, pairs_of}
use Rattle.mig_model.specs.Names.{put}

-- the tag's name, and the literal that stands there
abbrev pub Tag : Type 0
Tag = List ℕ × List ℕ

mutual
  -- a leaf or a tree that isn't looked into, a list, a side of a sum, a record, and a tree of a named type.
  -- A record has the fields that are there, the tag, the fields of its case that are there, and the unknown ones
  pub data Typed : Type 0 where
    atom : Plain → Typed
    list : Items → Typed
    left : Typed → Typed
    right : Typed → Typed
    rec : Slots → Option Tag → Slots → Slots → Typed
    point : List ℕ → Typed → Typed

  pub data Items : Type 0 where
    no_item : Items
    item : Typed → Items → Items

  pub data Slots : Type 0 where
    no_slot : Slots
    slot : List ℕ → Typed → Slots → Slots

-- a name and a value
abbrev pub Slot : Type 0
Slot = List ℕ × Typed

abbrev pub items_of : List Typed → Items
items_of [] = no_item
items_of (v ∷ vs) = item v (items_of vs)

abbrev pub items : Items → List Typed
items no_item = []
items (item v vs) = v ∷ items vs

abbrev pub slots_of : List Slot → Slots
slots_of [] = no_slot
slots_of (s ∷ ss) = slot s.0 s.1 (slots_of ss)

abbrev pub slots : Slots → List Slot
slots no_slot = []
slots (slot n v ss) = (n, v) ∷ slots ss

-- pairs in the order of their names
abbrev pub in_order : List (List ℕ × Plain) → List (List ℕ × Plain)
in_order [] = []
in_order (p ∷ ps) = put p.0 p.1 (in_order ps)

abbrev pub tag_pair : Option Tag → List (List ℕ × Plain)
tag_pair None = []
tag_pair (Some t) = (t.0, plain.text t.1) ∷ []

-- the tree that a value stands for; that of a record is the map of all its pairs with the tag
abbrev mutual
  pub out : Typed → Plain
  out (atom t) = t
  out (list vs) = plain.list (out_items vs)
  out (left v) = out v
  out (right v) = out v
  out (rec fs tag cs rs) = plain.map (pairs_of (in_order (out_slots fs ++ (tag_pair tag ++ (out_slots cs ++ out_slots rs)))))
  out (point n v) = out v

  pub out_items : Items → Trees
  out_items no_item = no_tree
  out_items (item v vs) = tree (out v) (out_items vs)

  pub out_slots : Slots → List (List ℕ × Plain)
  out_slots no_slot = []
  out_slots (slot n v ss) = (n, out v) ∷ out_slots ss

-- how many values there are at all depths, a slot counted as one more
abbrev mutual
  pub typed_size : Typed → ℕ
  typed_size (atom t) = 1
  typed_size (list vs) = suc (items_size vs)
  typed_size (left v) = suc (typed_size v)
  typed_size (right v) = suc (typed_size v)
  typed_size (rec fs tag cs rs) = suc (suc (suc (slots_size fs + (slots_size cs + slots_size rs))))
  typed_size (point n v) = suc (suc (typed_size v))

  pub items_size : Items → ℕ
  items_size no_item = 0
  items_size (item v vs) = suc (typed_size v + items_size vs)

  pub slots_size : Slots → ℕ
  slots_size no_slot = 0
  slots_size (slot n v ss) = suc (typed_size v + slots_size ss)

abbrev pub item_list_size : List Typed → ℕ
item_list_size vs = items_size (items_of vs)

abbrev pub slot_list_size : List Slot → ℕ
slot_list_size ss = slots_size (slots_of ss)
