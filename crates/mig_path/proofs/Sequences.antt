-- The items of a list, as a list and as those of a typed value.
use Rattle.std.proofs.Common.{◌≡◌, ap, refl, List, [], ◌∷◌}
use Rattle.mig_value.specs.Typed.{Typed, Items, no_item, item, items, items_of}

pub list_of_items : (vs : Items) → items_of (items vs) ≡ vs
list_of_items no_item = refl
list_of_items (item v vs) = ap (item v) (list_of_items vs)
