-- A value with something done at its foci is that of its rest and the changed foci.
use Rattle.std.proofs.Common.{◌≡◌, ◌∙◌, sym, ap, ap₂, refl, ℕ, suc, List, [], ◌∷◌, ◌++◌, length, map, take, drop, Bool, true, false, Option, Some, None, arith}
use Rattle.std.specs.Prelude.{option_to_list, if◌then◌else◌}
use Rattle.std.specs.List.{flat_map, AllByRecursion}
use Rattle.mig_value.specs.Typed.{Typed, list, left, right, point, items, items_of}
use Rattle.mig_path.specs.declared.side.Side.TheVariants.{Left, Right}
use Rattle.mig_path.specs.Fields.{null, value_under, has_literal}
use Rattle.mig_path.specs.Path.{Path, here, field_at, may_field, case_of, each, side, cross, then_, Takes, foci, over, over_field}
use Rattle.mig_path.specs.Rest.{whole, stays, rest_for, field_rest, part_of, groups_of, join, joins, AreFormed, total, group_count, FitsFoci}
use Rattle.std.proofs.lemmas.List.{length-append, map-append, map-id}
use Rattle.mig_path.proofs.Sequences.{list_of_items}
use Rattle.mig_path.proofs.Records.{with_with, with_same}

-- ---- the value of the changed foci
field_over : (x : List ℕ) (f : Typed → Typed) (o : Option Typed) (v : Typed) → join (field_rest x o v) (map f (option_to_list o)) ≡ over_field x f o v
field_over x f None v = refl
field_over x f (Some w) v = with_with x (f w) null v

case_over : (b : Bool) (f : Typed → Typed) (v : Typed) → join (if b then whole else stays v) (map f (if b then v ∷ [] else [])) ≡ if b then f v else v
case_over true f v = refl
case_over false f v = refl

take_all : {A B : Type 0} (f : A → B) (xs : List A) (ys : List B) → take (length xs) (map f xs ++ ys) ≡ map f xs
take_all f [] ys = refl
take_all f (x ∷ xs) ys = ap (λ l. f x ∷ l) (take_all f xs ys)

drop_all : {A B : Type 0} (f : A → B) (xs : List A) (ys : List B) → drop (length xs) (map f xs ++ ys) ≡ ys
drop_all f [] ys = refl
drop_all f (x ∷ xs) ys = drop_all f xs ys

joins_over : (q : Path) (f : Typed → Typed) → ((v : Typed) → Takes q v → join (rest_for q v) (map f (foci q v)) ≡ over q f v) → (ws : List Typed) → AllByRecursion (Takes q) ws → joins (groups_of (map (part_of q) ws)) (map f (flat_map (foci q) ws)) ≡ map (over q f) ws
joins_over q f h [] t = refl
joins_over q f h (w ∷ ws) t =
    rw (map-append f (foci q w) (flat_map (foci q) ws), take_all f (foci q w) (map f (flat_map (foci q) ws)), drop_all f (foci q w) (map f (flat_map (foci q) ws)))
    (ap₂ (λ (x : Typed) (l : List Typed). x ∷ l) (h w t.0) (joins_over q f h ws t.1))

pub join_over : (o : Path) (f : Typed → Typed) (v : Typed) → Takes o v → join (rest_for o v) (map f (foci o v)) ≡ over o f v
join_over here f v t = refl
join_over (field_at x) f v t = field_over x f (value_under x v) v
join_over (may_field x) f v t = field_over x f (value_under x v) v
join_over (case_of l) f v t = case_over (has_literal l v) f v
join_over each f (list vs) t = refl
join_over each f v t = absurd t
join_over (side Left) f (left v) t = refl
join_over (side Left) f (right v) t = refl
join_over (side Right) f (left v) t = refl
join_over (side Right) f (right v) t = refl
join_over (side s) f v t = absurd t
join_over cross f (point n v) t = refl
join_over cross f v t = absurd t
join_over (then_ p q) f v t = ap (join (rest_for p v)) (joins_over q f (join_over q f) (foci p v) t.1) ∙ join_over p (over q f) v t.0

-- ---- nothing done
field_same : (x : List ℕ) (o : Option Typed) (v : Typed) → value_under x v ≡ o → over_field x (λ w. w) o v ≡ v
field_same x None v e = refl
field_same x (Some w) v e = with_same x w v e

case_same : (b : Bool) (v : Typed) → (if b then v else v) ≡ v
case_same true v = refl
case_same false v = refl

each_same : (g : Typed → Typed) (P : Typed → Type 0) → ((w : Typed) → P w → g w ≡ w) → (ws : List Typed) → AllByRecursion P ws → map g ws ≡ map (λ (w : Typed). w) ws
each_same g P k [] h = refl
each_same g P k (w ∷ ws) h = ap₂ (λ (x : Typed) (l : List Typed). x ∷ l) (k w h.0) (each_same g P k ws h.1)

pub over_same : (o : Path) (v : Typed) → Takes o v → over o (λ w. w) v ≡ v
over_same here v t = refl
over_same (field_at x) v t = field_same x (value_under x v) v refl
over_same (may_field x) v t = field_same x (value_under x v) v refl
over_same (case_of l) v t = case_same (has_literal l v) v
over_same each (list vs) t = ap (λ (l : List Typed). list (items_of l)) (map-id (items vs)) ∙ ap list (list_of_items vs)
over_same each v t = absurd t
over_same (side Left) (left v) t = refl
over_same (side Left) (right v) t = refl
over_same (side Right) (left v) t = refl
over_same (side Right) (right v) t = refl
over_same (side s) v t = absurd t
over_same cross (point n v) t = refl
over_same cross v t = absurd t
over_same (then_ p q) v t =
    sym (join_over p (over q (λ w. w)) v t.0)
    ∙ ap (join (rest_for p v)) (each_same (over q (λ w. w)) (Takes q) (over_same q) (foci p v) t.1)
    ∙ join_over p (λ w. w) v t.0
    ∙ over_same p v t.0

pub parted : (o : Path) (v : Typed) → Takes o v → join (rest_for o v) (foci o v) ≡ v
parted o v t = ap (join (rest_for o v)) (sym (map-id (foci o v))) ∙ join_over o (λ w. w) v t ∙ over_same o v t

-- ---- a rest wants as many foci as there are
field_fits : (x : List ℕ) (o : Option Typed) (v : Typed) → FitsFoci (field_rest x o v) (length (option_to_list o))
field_fits x None v = (tt, refl)
field_fits x (Some w) v = (tt, refl)

case_fits : (b : Bool) (v : Typed) → FitsFoci (if b then whole else stays v) (length (if b then v ∷ [] else []))
case_fits true v = (tt, refl)
case_fits false v = (tt, refl)

-- the groups of values and the foci of all
pub record Grouped (q : Path) (ws : List Typed) : Type 0 where
  pub formed : AreFormed (groups_of (map (part_of q) ws))
  pub enough : length (flat_map (foci q) ws) ≡ total (groups_of (map (part_of q) ws))
  pub as_many : group_count (groups_of (map (part_of q) ws)) ≡ length ws

grouped : (q : Path) → ((v : Typed) → Takes q v → FitsFoci (rest_for q v) (length (foci q v))) → (ws : List Typed) → AllByRecursion (Takes q) ws → Grouped q ws
grouped q h [] t = record { formed = tt; enough = refl; as_many = refl }
grouped q h (w ∷ ws) t =
    let rest = grouped q h ws t.1 in
    let here = h w t.0 in
    record {
      formed = (here.0, here.1, rest.formed);
      enough = omega (arith, rest.enough, length-append (foci q w) (flat_map (foci q) ws));
      as_many = ap suc rest.as_many;
    }

pub fits : (o : Path) (v : Typed) → Takes o v → FitsFoci (rest_for o v) (length (foci o v))
fits here v t = (tt, refl)
fits (field_at x) v t = field_fits x (value_under x v) v
fits (may_field x) v t = field_fits x (value_under x v) v
fits (case_of l) v t = case_fits (has_literal l v) v
fits each (list vs) t = (tt, refl)
fits each v t = absurd t
fits (side Left) (left v) t = (tt, refl)
fits (side Left) (right v) t = (tt, refl)
fits (side Right) (left v) t = (tt, refl)
fits (side Right) (right v) t = (tt, refl)
fits (side s) v t = absurd t
fits cross (point n v) t = (tt, refl)
fits cross v t = absurd t
fits (then_ p q) v t =
    let first = fits p v t.0 in
    let rest = grouped q (fits q) (foci p v) t.1 in
    ((first.0, rest.as_many ∙ first.1, rest.formed), rest.enough)
