-- The chain of optics that the tests try, and the items of the list that it is tried on.
use Rattle.std.specs.Prelude.{ℕ, List, [], ◌∷◌, None, Some}
use Rattle.mig_value.specs.Typed.{Typed, rec, point, slot, no_slot}
use Rattle.mig_path.specs.declared.side.Side.{Side}
use Rattle.mig_path.specs.declared.side.Side.TheVariants.{Left}
use Rattle.mig_path.specs.Path.{Path, here, field_at, may_field, case_of, each, side, cross, then_}

-- in each node, where it has the field m, where that is of the case l, the field a where that is on the side s
abbrev pub in_case : List ℕ → List ℕ → Side → Path
in_case l a s = then_ (case_of l) (then_ (field_at a) (then_ (side s) here))

abbrev pub in_node : List ℕ → Path → Path
in_node m o = then_ cross (then_ (may_field m) o)

-- the chain that is tried
abbrev pub chain : Path
chain = then_ each (in_node (109 ∷ []) (in_case (108 ∷ []) (97 ∷ []) Left))

-- a record value of a literal under the tag `t`, whose case has the field `a`
abbrev pub case_value : List ℕ → Typed → Typed
case_value l v = rec no_slot (Some (116 ∷ [], l)) (slot (97 ∷ []) v no_slot) no_slot

-- a node whose body has the field `m`, and one whose body has no field
abbrev pub full_node : Typed → Typed
full_node v = point (110 ∷ []) (rec (slot (109 ∷ []) v no_slot) None no_slot no_slot)

abbrev pub bare_node : Typed
bare_node = point (110 ∷ []) (rec no_slot None no_slot no_slot)
