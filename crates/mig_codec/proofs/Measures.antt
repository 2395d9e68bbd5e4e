-- How much there is to read: points don't shrink a tree, so what is left is counted by the tree first and by the template second.
use Rattle.std.proofs.Common.{◌≡◌, ℕ, ◌+◌, ◌*◌, ◌≤◌, List, [], ◌∷◌, ◌++◌, map, false, refl, arith, ap}
use Rattle.std.proofs.Math.Nat.{mul-le-mul_right}
use Rattle.mig_model.specs.Plain.{Plain, size, items_size, entries_size}
use Rattle.mig_model.specs.Template.{Template, leaf, point}
use Rattle.mig_model.specs.Family.{Family, is_point}
use Rattle.mig_template.specs.Size.{template_size}
use Rattle.mig_tree.specs.View.{plain_of, entry_of}
use Rattle.mig_tree.specs.declared.tree.Tree.{Tree}
use Rattle.mig_tree.specs.declared.entries.Entry.{Entry}
use Rattle.mig_codec.specs.Reading.{family_size}

abbrev pub width : Family → ℕ
width f = family_size f + 2

-- a point comes before all that its body can be
abbrev pub rank : Family → Template → ℕ
rank f (point n) = family_size f + 1
rank f V = template_size V

abbrev pub work : Family → Template → Plain → ℕ
work f V t = size t * width f + rank f V

abbrev pub tree_work : Family → Plain → ℕ
tree_work f t = size t * width f + width f

abbrev pub items_work : Family → List Plain → ℕ
items_work f ts = items_size ts * width f + width f

abbrev pub entries_work : Family → List (List ℕ × Plain) → ℕ
entries_work f es = entries_size es * width f + width f

pub rank_part : (f : Family) (V : Template) → template_size V ≤ family_size f → rank f V ≤ family_size f + 1
rank_part f (leaf k) l = omega arith
rank_part f _ l = omega arith

pub rank_body : (f : Family) (V : Template) → is_point V ≡ false → template_size V ≤ family_size f → rank f V ≤ family_size f
rank_body f (point n) e l = absurd cc
rank_body f _ e l = l

pub rank_side : (f : Family) (V : Template) → is_point V ≡ false → rank f V ≡ template_size V
rank_side f (point n) e = absurd cc
rank_side f _ e = refl

-- the work on a tree is less where the tree is smaller, and no more than that on trees of which it is one
pub less_work : (f : Family) (V : Template) (t : Plain) (n : ℕ) → template_size V ≤ family_size f → size t ≤ n → work f V t + 1 ≤ n * width f + width f
less_work f V t n l s = omega (arith, rank_part f V l, mul-le-mul_right (width f) s)

pub less_tree : (f : Family) (t : Plain) (n : ℕ) → size t ≤ n → tree_work f t ≤ n * width f + width f
less_tree f t n s = omega (arith, mul-le-mul_right (width f) s)

items_weigh : (xs rest : List Tree) (x : Tree) → items_size (map plain_of (xs ++ x ∷ rest)) ≡ items_size (map plain_of xs) + (size (plain_of x) + items_size (map plain_of rest))
items_weigh [] rest x = omega arith
items_weigh (y ∷ xs) rest x = omega (arith, items_weigh xs rest x)

entries_weigh : (xs rest : List Entry) (x : Entry) → entries_size (map entry_of (xs ++ x ∷ rest)) ≡ entries_size (map entry_of xs) + (size (plain_of x.tree) + entries_size (map entry_of rest))
entries_weigh [] rest x = omega arith
entries_weigh (y ∷ xs) rest x = omega (arith, entries_weigh xs rest x)

pub item_within : (all xs : List Tree) (x : Tree) → (rest : List Tree) × (all ≡ xs ++ x ∷ rest) → size (plain_of x) ≤ items_size (map plain_of all)
item_within all xs x s = omega (arith, ap (λ (l : List Tree). items_size (map plain_of l)) s.1, items_weigh xs s.0 x)

pub entry_within : (all xs : List Entry) (x : Entry) → (rest : List Entry) × (all ≡ xs ++ x ∷ rest) → size (plain_of x.tree) ≤ entries_size (map entry_of all)
entry_within all xs x s = omega (arith, ap (λ (l : List Entry). entries_size (map entry_of l)) s.1, entries_weigh xs s.0 x)
