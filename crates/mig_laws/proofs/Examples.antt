-- One formed family, with a point in a list and a sum: the laws' premise is met, and a wrong place is found below both.
use Rattle.std.proofs.Common.{◌≡◌, refl, ℕ, ℤ, List, [], ◌∷◌, Some, None}
use Rattle.mig_model.specs.declared.form.Form.TheVariants as F
use Rattle.mig_model.specs.declared.kind.Kind.TheVariants as K
use Rattle.mig_model.specs.declared.presence.Presence.TheVariants.{Must, May}
use Rattle.mig_model.specs.declared.rest.Rest.TheVariants.{Open, Closed}
use Rattle.mig_model.specs.Plain as plain
use Rattle.mig_model.specs.Plain.{Plain, no_tree, tree, no_pair, pair}
use Rattle.mig_model.specs.Template.{leaf, list, point, rec, sum, no_field, field, no_choice}
use Rattle.mig_model.specs.Inhabits.{Inhabits}
use Rattle.mig_model.specs.Place.{named, index, place}
use Rattle.mig_model.specs.Family.{Family, body, IsFormed}
use Rattle.mig_laws.proofs.Laws.{place_is_exact}

-- the names "b", "I", "i", "c" and "v"
abbrev bag_type : List ℕ
bag_type = 98 ∷ []

abbrev item_type : List ℕ
item_type = 73 ∷ []

abbrev items_field : List ℕ
items_field = 105 ∷ []

abbrev count_field : List ℕ
count_field = 99 ∷ []

abbrev version_name : List ℕ
version_name = 118 ∷ []

-- a bag has items, of which each may have a count that is a number or a text
abbrev bags : Family
bags = record {
  form = F.Nbt;
  version = version_name ∷ [];
  types = (bag_type, rec (field items_field Must (list (point item_type)) no_field) no_choice Open) ∷ (item_type, rec (field count_field May (sum (leaf K.Int) (leaf K.Text)) no_field) no_choice Closed) ∷ [];
  root = bag_type;
}

-- two items, the first without a count
abbrev bag : Plain → Plain
bag count = plain.map (pair items_field (plain.list (tree (plain.map no_pair) (tree (plain.map (pair count_field count no_pair)) no_tree))) no_pair)

formed : IsFormed bags
formed = refl

counted : (z : ℤ) → Inhabits bags.form (body bags) bag_type (bag (plain.int z))
counted z = (place_is_exact bags formed bag_type (bag (plain.int z))).0 refl

miscounted : (z : ℤ) → place bags bag_type (bag (plain.byte z)) ≡ Some (named items_field ∷ index 1 ∷ named count_field ∷ [])
miscounted z = refl

-- a name that the family lacks stands for any tree of the form
unnamed : (s : List ℕ) → place bags version_name (plain.text s) ≡ None
unnamed s = refl

-- a tree with items of two kinds is of no form of NBT
mixed : (z : ℤ) → place bags version_name (plain.list (tree (plain.int z) (tree (plain.byte z) no_tree))) ≡ Some []
mixed z = refl
