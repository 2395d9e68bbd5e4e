-- The items of a list, read one after another.
use Rattle.std.proofs.Common.{◌≡◌, ℕ, suc, ◌+◌, List, [], ◌∷◌, ◌++◌, length, Option, Some, None, refl, sym, ap, ap₂, ◌∙◌, arith, length-append}
use Rattle.std.specs.Prelude.{option_map}
use Rattle.mig_model.specs.Plain.{Plain}
use Rattle.mig_model.specs.Template.{Template}
use Rattle.mig_model.specs.Family.{Family}
use Rattle.mig_model.specs.Place.{Place, index, or_else, wrong_item}
use Rattle.mig_value.specs.Typed.{Typed, items_of}
use Rattle.mig_value.specs.Fit.{EachItem}
use Rattle.mig_value.specs.Nodes.{Test, nodes, nodes_in_items, sum_items}
use Rattle.mig_codec.specs.Reading.{IsRead, AreRead, IsTyped, wrong_part, part_nodes}
use Rattle.mig_codec.proofs.Gathered.{GatheredItems}
use Rattle.mig_write.proofs.Loops.{item_more}
use Rattle.mig_laws.proofs.Exact.{or_none}

abbrev at_index : ℕ → Option Place → Option Place
at_index j o = option_map (λ p. index j ∷ p) o

module _ (w : Plain → Option Place) where
  behind : (i : ℕ) (ts rest : List Plain) (t : Plain) (j : ℕ) → wrong_item w i ts ≡ None → i + length ts ≡ j → wrong_item w i (ts ++ t ∷ rest) ≡ or_else (at_index j (w t)) (wrong_item w (suc j) rest)
  behind i [] rest t j h e = let is : i ≡ j = omega arith in ap (λ k. or_else (at_index k (w t)) (wrong_item w (suc k) rest)) is
  behind i (u ∷ ts) rest t j h e =
      let both = or_none (at_index i (w u)) (wrong_item w (suc i) ts) h in
      (λ k. or_else (both.0 k) (wrong_item w (suc i) (ts ++ t ∷ rest))) ∙ behind (suc i) ts rest t j both.1 (omega arith)

  pub item_wrong : (ts rest : List Plain) (t : Plain) (j : ℕ) (p : Place) → wrong_item w 0 ts ≡ None → length ts ≡ j → w t ≡ Some p → wrong_item w 0 (ts ++ t ∷ rest) ≡ Some (index j ∷ p)
  item_wrong ts rest t j p h e is = behind 0 ts rest t j h (omega arith) ∙ ap (λ o. or_else (at_index j o) (wrong_item w (suc j) rest)) is

  items_right : (ts : List Plain) (t : Plain) → wrong_item w 0 ts ≡ None → w t ≡ None → wrong_item w 0 (ts ++ t ∷ []) ≡ None
  items_right ts t h is = behind 0 ts [] t (0 + length ts) h refl ∙ ap (λ o. or_else (at_index (0 + length ts) o) None) is

each_more : (Q : Typed → Type 0) (vs : List Typed) (v : Typed) → EachItem Q (items_of vs) → Q v → EachItem Q (items_of (vs ++ v ∷ []))
each_more Q [] v e q = (q, tt)
each_more Q (u ∷ vs) v e q = (e.0, each_more Q vs v e.1 q)

-- counted nodes, and one more
values_more : (q : Test) (vs : List Typed) (v : Typed) → nodes_in_items q (items_of (vs ++ v ∷ [])) ≡ nodes_in_items q (items_of vs) + nodes q v
values_more q [] v = omega arith
values_more q (u ∷ vs) v = omega (arith, values_more q vs v)

trees_more : (h : Plain → ℕ) (ts : List Plain) (t : Plain) → sum_items h (ts ++ t ∷ []) ≡ sum_items h ts + h t
trees_more h [] t = omega arith
trees_more h (u ∷ ts) t = omega (arith, trees_more h ts t)

pub one_more_item : (f : Family) (V : Template) (ts : List Plain) (vs : List Typed) (t : Plain) (v : Typed) → GatheredItems f V ts vs → IsRead f V t v → GatheredItems f V (ts ++ t ∷ []) (vs ++ v ∷ [])
one_more_item f V ts vs t v g r = record {
  right = items_right (wrong_part f V) ts t g.right r.right;
  typed = each_more (IsTyped f V) vs v g.typed r.typed;
  trees = sym (item_more ts vs t v (sym g.trees) (sym r.tree));
  count = omega (arith, g.count, length-append vs (v ∷ []), length-append ts (t ∷ []));
  counted = λ q. values_more q vs v ∙ ap₂ ◌+◌ (g.counted q) (r.counted q) ∙ sym (trees_more (part_nodes f q V) ts t);
}

pub all_items : (f : Family) (V : Template) (ts : List Plain) (vs : List Typed) → GatheredItems f V ts vs → AreRead f V ts vs
all_items f V ts vs g = record { right = g.right; typed = g.typed; trees = g.trees; counted = g.counted }
