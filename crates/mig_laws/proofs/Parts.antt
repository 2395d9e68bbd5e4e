-- Properties of trees that pass down to the items of a list and the trees of a map.
use Rattle.std.proofs.Common.{◌≡◌, refl, sym, ℕ, suc, ◌<◌, ◌⊎◌, inl, inr, arith, List, [], ◌∷◌, true, true≢false, IsTrue}
use Rattle.mig_model.specs.declared.form.Form.{Form}
use Rattle.mig_model.specs.declared.form.Form.TheVariants as F
use Rattle.mig_model.specs.declared.kind.Kind.TheVariants as K
use Rattle.mig_model.specs.Plain as plain
use Rattle.mig_model.specs.Plain.{Plain, Trees, no_tree, tree, Pairs, no_pair, pair, items, entries}
use Rattle.mig_model.specs.Kinds.{kind_of}
use Rattle.mig_model.specs.Template.{Template, point, sum, is_of_form}
use Rattle.mig_model.specs.Inhabits.{Entries, EachItem, EachEntry, is_in_form, depth, items_depth, entries_depth}
use Rattle.mig_laws.specs.Sides.{is_guarded}
use Rattle.mig_model.proofs.Bools.{split_and}

-- each item of the list, or each tree of the map, has the property; any other tree has no parts
abbrev pub PartsHave : (Plain → Type 0) → Plain → Type 0
PartsHave R (plain.list ts) = EachItem R (items ts)
PartsHave R (plain.map ps) = EachEntry (λ n. R) (entries ps)
PartsHave R t = Unit {0}

abbrev pub PassesDown : (Plain → Type 0) → Type 0
PassesDown R = (t : Plain) → R t → PartsHave R t

-- the trees at points of a template have the property, since the tree has it, or since all of them are parts of the tree
pub record Near (R : Plain → Type 0) (V : Template) (t : Plain) : Type 0 where
  pub parts : PartsHave R t
  pub here : (is_guarded V ≡ true) ⊎ R t

module _ (R : Plain → Type 0) where
  pub near : PassesDown R → (V : Template) (t : Plain) → R t → Near R V t
  near down V t r = record { parts = down t r; here = inr r }

  pub at_point : (n : List ℕ) (t : Plain) → Near R (point n) t → R t
  at_point n t r = elim r.here [ inl g ↦ absurd (true≢false (sym g)) | inr q ↦ q ]

  pub at_sides : (V W : Template) (t : Plain) → Near R (sum V W) t → Near R V t × Near R W t
  at_sides V W t r = by r.here
    where
      by : (is_guarded (sum V W) ≡ true) ⊎ R t → Near R V t × Near R W t
      by (inl g) = let both = split_and (is_guarded V) (is_guarded W) g in (record { parts = r.parts; here = inl both.0 }, record { parts = r.parts; here = inl both.1 })
      by (inr q) = (record { parts = r.parts; here = inr q }, record { parts = r.parts; here = inr q })

-- every tree
abbrev pub Whatever : Plain → Type 0
Whatever t = Unit {0}

whatever_items : (ts : List Plain) → EachItem Whatever ts
whatever_items [] = tt
whatever_items (t ∷ ts) = (tt, whatever_items ts)

whatever_entries : (es : Entries) → EachEntry (λ n. Whatever) es
whatever_entries [] = tt
whatever_entries (e ∷ es) = (tt, whatever_entries es)

pub whatever_down : PassesDown Whatever
whatever_down (plain.list ts) r = whatever_items (items ts)
whatever_down (plain.map ps) r = whatever_entries (entries ps)
whatever_down t r = tt

-- depth
shallow_items : (d : ℕ) (ts : Trees) → items_depth ts < d → EachItem (λ u. depth u < d) (items ts)
shallow_items d no_tree l = tt
shallow_items d (tree t ts) l = (omega arith, shallow_items d ts (omega arith))

shallow_entries : (d : ℕ) (ps : Pairs) → entries_depth ps < d → EachEntry (λ n u. depth u < d) (entries ps)
shallow_entries d no_pair l = tt
shallow_entries d (pair n t ps) l = (omega arith, shallow_entries d ps (omega arith))

pub depth_down : (d : ℕ) → PassesDown (λ u. depth u < d)
depth_down d (plain.list ts) l = shallow_items d ts (omega arith)
depth_down d (plain.map ps) l = shallow_entries d ps (omega arith)
depth_down d t l = tt

-- the parts of a tree are less deep than the tree
pub parts_below : (t : Plain) → PartsHave (λ u. depth u < depth t) t
parts_below (plain.list ts) = shallow_items (suc (items_depth ts)) ts (omega arith)
parts_below (plain.map ps) = shallow_entries (suc (entries_depth ps)) ps (omega arith)
parts_below t = tt

-- at a guarded template the trees at points are less deep
pub near_below : (V : Template) (t : Plain) → is_guarded V ≡ true → Near (λ u. depth u < depth t) V t
near_below V t g = record { parts = parts_below t; here = inl g }

-- lists, maps and texts are of each form
pub shared_kinds : (form : Form) → (is_of_form form K.List ≡ true) × (is_of_form form K.Map ≡ true) × (is_of_form form K.Text ≡ true)
shared_kinds F.Nbt = (refl, refl, refl)
shared_kinds F.Json = (refl, refl, refl)

-- the root kind of a tree of the form is of the form
pub root_of_form : (form : Form) (t : Plain) → IsTrue (is_in_form form t) → is_of_form form (kind_of t) ≡ true
root_of_form form (plain.list ts) e = (shared_kinds form).0
root_of_form form (plain.map ps) e = (shared_kinds form).1
root_of_form form t e = e
