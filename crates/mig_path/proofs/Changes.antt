-- What is done away from the foci doesn't matter.
use Rattle.std.proofs.Common.{◌≡◌, ◌∙◌, sym, ap, ap₂, refl, ℕ, List, [], ◌∷◌, ◌++◌, map, Bool, true, false, Option, Some, None}
use Rattle.std.specs.Prelude.{option_to_list, if◌then◌else◌}
use Rattle.std.specs.List.{flat_map, AllByRecursion}
use Rattle.mig_value.specs.Typed.{Typed, list, left, right, point, items, items_of}
use Rattle.mig_path.specs.declared.side.Side.TheVariants.{Left, Right}
use Rattle.mig_path.specs.Fields.{value_under, with_value_under, has_literal}
use Rattle.mig_path.specs.Path.{Path, here, field_at, may_field, case_of, each, side, cross, then_, Takes, foci, over, over_field}

-- the two do the same at each value
abbrev pub Agree : (Typed → Typed) → (Typed → Typed) → List Typed → Type 0
Agree f g ws = AllByRecursion (λ w. f w ≡ g w) ws

field_reads : (x : List ℕ) (f g : Typed → Typed) (v : Typed) (o : Option Typed) → Agree f g (option_to_list o) → over_field x f o v ≡ over_field x g o v
field_reads x f g v None h = refl
field_reads x f g v (Some w) h = ap (λ (u : Typed). with_value_under x u v) h.0

case_reads : (f g : Typed → Typed) (v : Typed) (b : Bool) → Agree f g (if b then v ∷ [] else []) → (if b then f v else v) ≡ (if b then g v else v)
case_reads f g v true h = h.0
case_reads f g v false h = refl

map_reads : (f g : Typed → Typed) (ws : List Typed) → Agree f g ws → map f ws ≡ map g ws
map_reads f g [] h = refl
map_reads f g (w ∷ ws) h = ap₂ (λ (x : Typed) (l : List Typed). x ∷ l) h.0 (map_reads f g ws h.1)

front : (f g : Typed → Typed) (us ws : List Typed) → Agree f g (us ++ ws) → Agree f g us
front f g [] ws h = tt
front f g (u ∷ us) ws h = (h.0, front f g us ws h.1)

back : (f g : Typed → Typed) (us ws : List Typed) → Agree f g (us ++ ws) → Agree f g ws
back f g [] ws h = h
back f g (u ∷ us) ws h = back f g us ws h.1

each_reads : (q : Path) (f g : Typed → Typed) → ((v : Typed) → Agree f g (foci q v) → over q f v ≡ over q g v) → (ws : List Typed) → Agree f g (flat_map (foci q) ws) → Agree (over q f) (over q g) ws
each_reads q f g k [] h = tt
each_reads q f g k (w ∷ ws) h = (k w (front f g (foci q w) (flat_map (foci q) ws) h), each_reads q f g k ws (back f g (foci q w) (flat_map (foci q) ws) h))

-- a change depends on what is done at the foci alone
pub over_reads : (o : Path) (f g : Typed → Typed) (v : Typed) → Agree f g (foci o v) → over o f v ≡ over o g v
over_reads here f g v h = h.0
over_reads (field_at x) f g v h = field_reads x f g v (value_under x v) h
over_reads (may_field x) f g v h = field_reads x f g v (value_under x v) h
over_reads (case_of l) f g v h = case_reads f g v (has_literal l v) h
over_reads each f g (list vs) h = ap (λ (l : List Typed). list (items_of l)) (map_reads f g (items vs) h)
over_reads each f g v h = refl
over_reads (side Left) f g (left v) h = ap left h.0
over_reads (side Left) f g v h = refl
over_reads (side Right) f g (right v) h = ap right h.0
over_reads (side Right) f g v h = refl
over_reads cross f g (point n v) h = ap (point n) h.0
over_reads cross f g v h = refl
over_reads (then_ p q) f g v h = over_reads p (over q f) (over q g) v (each_reads q f g (over_reads q f g) (foci p v) h)
