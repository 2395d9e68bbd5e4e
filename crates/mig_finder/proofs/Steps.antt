-- What an optic of one step does to a value, its step does to the value's tree.
use Rattle.std.proofs.Common.{◌≡◌, ◌∙◌, refl, sym, ap, ap₂, subst, ℕ, List, [], ◌∷◌, ◌++◌, Bool, true, false, true≢false, Option, Some, None, MatchBool, map}
use Rattle.std.specs.Prelude.{is_some, option_to_list, if◌then◌else◌}
use Rattle.std.specs.List.{AllByRecursion}
use Rattle.std.specs.Option.{option_or}
use Rattle.std.specs.Ordering.{match_ordering, is_eq}
use Rattle.std.specs.declared.cmp.Ordering.{Ordering}
use Rattle.std.specs.declared.cmp.Ordering.TheVariants.{Less, Equal, Greater}
use Rattle.mig_model.proofs.Ascending.{flips}
use Rattle.mig_model.specs.declared.form.Form.{Form}
use Rattle.mig_model.specs.Plain as plain
use Rattle.mig_model.specs.Plain.{Plain, pairs_of, entries, tree, trees_of, each_entry}
use Rattle.mig_model.specs.Kinds.{kind_of, entries_of_pairs}
use Rattle.mig_model.specs.Inhabits.{Entries, has_tag, is_text}
use Rattle.mig_model.specs.Names.{by_bytes, put, under, same_name}
use Rattle.mig_model.specs.Template as template
use Rattle.mig_model.specs.Template.{Template, same_kind, has_kind}
use Rattle.mig_laws.specs.Sides.{is_side}
use Rattle.mig_value.specs.Typed.{Typed, atom, list, left, right, rec, Items, no_item, item, items, items_of, Slots, no_slot, slot, Tag, tag_pair, in_order, out, out_items, out_slots}
use Rattle.mig_value.specs.Fit.{ValueFits, EachSlot}
use Rattle.mig_path.specs.declared.side.Side.TheVariants.{Left, Right}
use Rattle.mig_path.specs.Fields.{value_in, with_value, value_under}
use Rattle.mig_path.specs.Path.{Path, may_field, case_of, each, side, foci, over, over_field}
use Rattle.mig_finder.specs.Ways.{Step, name, tagged, item as each_item, kinds, at_step}
use Rattle.mig_model.proofs.Bools.{split_and, left_or, right_or}
use Rattle.mig_model.proofs.SameNames.{same_name_is, same_name_itself, same_kind_itself}

-- where g changes the trees of what the optic finds as f does, it changes the value's tree as f does where the step leads
abbrev pub Does : Path → Step → Typed → Type 0
Does o s v = (g : Typed → Typed) (f : Plain → Plain) → AllByRecursion (λ w. out (g w) ≡ f (out w)) (foci o v) → out (over o g v) ≡ at_step s f (out v)

-- ---- each item of a list
items_changed : (g : Typed → Typed) (f : Plain → Plain) (vs : Items) → AllByRecursion (λ w. out (g w) ≡ f (out w)) (items vs) → out_items (items_of (map g (items vs))) ≡ trees_of (map f (plain.items (out_items vs)))
items_changed g f no_item h = refl
items_changed g f (item v vs) h = ap₂ tree h.0 (items_changed g f vs h.1)

pub does_each : (vs : Items) → Does each each_item (list vs)
does_each vs g f h = ap plain.list (items_changed g f vs h)

-- ---- the sides of a sum
-- a value of a side has a tree of one of its kinds
pub kind_there : (form : Form) (U : Typed → Type 0) (P : List ℕ → Typed → Type 0) (V : Template) (v : Typed) → is_side V ≡ true → ValueFits U P V v → has_kind form V (kind_of (out v)) ≡ true
kind_there form U P (template.leaf k) (atom t) s h = ap (same_kind k) h ∙ same_kind_itself k
kind_there form U P template.any v s h = absurd (true≢false (sym s))
kind_there form U P (template.list V) (list vs) s h = refl
kind_there form U P (template.point n) v s h = absurd (true≢false (sym s))
kind_there form U P (template.rec fs c r) (rec ss tag zs rs) s h = refl
kind_there form U P (template.sum V W) (left v) s h =
    left_or (has_kind form V (kind_of (out v))) (has_kind form W (kind_of (out v))) (kind_there form U P V v (split_and (is_side V) (is_side W) s).0 h)
kind_there form U P (template.sum V W) (right v) s h =
    right_or (has_kind form V (kind_of (out v))) (has_kind form W (kind_of (out v))) (kind_there form U P W v (split_and (is_side V) (is_side W) s).1 h)
kind_there form U P _ v s h = absurd h

module _ (form : Form) (V : Template) (v : Typed) where
  abbrev chosen : (Plain → Plain) → Bool → Plain
  chosen f b = if b then f (out v) else out v

  pub does_left : has_kind form V (kind_of (out v)) ≡ true → Does (side Left) (kinds form V) (left v)
  does_left k g f h = h.0 ∙ sym (ap (chosen f) k)

  pub does_right : has_kind form V (kind_of (out v)) ≡ true → Does (side Right) (kinds form V) (right v)
  does_right k g f h = h.0 ∙ sym (ap (chosen f) k)

  pub not_left : has_kind form V (kind_of (out v)) ≡ false → Does (side Left) (kinds form V) (right v)
  not_left k g f h = sym (ap (chosen f) k)

  pub not_right : has_kind form V (kind_of (out v)) ≡ false → Does (side Right) (kinds form V) (left v)
  not_right k g f h = sym (ap (chosen f) k)

-- ---- pairs in the order of their names
abbrev first : List ℕ → Plain → Entries → Entries
first n t es = (n, t) ∷ es

module _ (h : List ℕ → Plain → Plain) where
  put_each : (n : List ℕ) (t : Plain) (ps : Entries) → each_entry h (put n t ps) ≡ put n (h n t) (each_entry h ps)
  put_each n t [] = refl
  put_each n t (p ∷ ps) = by (by_bytes n p.0) refl (put_each n t ps)
    where
      by : (o : Ordering) → by_bytes n p.0 ≡ o → each_entry h (put n t ps) ≡ put n (h n t) (each_entry h ps) → each_entry h (match_ordering o ((n, t) ∷ p ∷ ps) ((p.0, t) ∷ ps) (p ∷ put n t ps)) ≡ match_ordering o ((n, h n t) ∷ (p.0, h p.0 p.1) ∷ each_entry h ps) ((p.0, h n t) ∷ each_entry h ps) ((p.0, h p.0 p.1) ∷ put n (h n t) (each_entry h ps))
      by Less e rest = refl
      by Equal e rest = ap (λ (m : List ℕ). first p.0 (h m t) (each_entry h ps)) (sym (same_name_is n p.0 (ap is_eq e)))
      by Greater e rest = ap (λ (l : Entries). (p.0, h p.0 p.1) ∷ l) rest

  order_each : (ps : Entries) → each_entry h (in_order ps) ≡ in_order (each_entry h ps)
  order_each [] = refl
  order_each (p ∷ ps) = put_each p.0 p.1 (in_order ps) ∙ ap (put p.0 (h p.0 p.1)) (order_each ps)

  each_append : (ps qs : Entries) → each_entry h (ps ++ qs) ≡ each_entry h ps ++ each_entry h qs
  each_append [] qs = refl
  each_append (p ∷ ps) qs = ap (λ (l : Entries). (p.0, h p.0 p.1) ∷ l) (each_append ps qs)

found_put : (x n : List ℕ) (t : Plain) (ps : Entries) → under x (put n t ps) ≡ (if same_name x n then Some t else under x ps)
found_put x n t [] = refl
found_put x n t (p ∷ ps) = by (by_bytes n p.0) refl (found_put x n t ps)
  where
    turned : (a b : Bool) → (a ≡ true → b ≡ true → ⊥) → (if a then Some p.1 else (if b then Some t else under x ps)) ≡ (if b then Some t else (if a then Some p.1 else under x ps))
    turned true true k = absurd (k refl refl)
    turned true false k = refl
    turned false b k = refl

    apart : by_bytes n p.0 ≡ Greater → same_name x p.0 ≡ true → same_name x n ≡ true → ⊥
    apart e a b =
        let same : n ≡ p.0 = sym (same_name_is x n b) ∙ same_name_is x p.0 a in
        let yes : same_name n p.0 ≡ true = subst (λ (m : List ℕ). same_name n m ≡ true) same (same_name_itself n) in
        true≢false (sym yes ∙ ap is_eq e)

    by : (o : Ordering) → by_bytes n p.0 ≡ o → under x (put n t ps) ≡ (if same_name x n then Some t else under x ps) → under x (match_ordering o ((n, t) ∷ p ∷ ps) ((p.0, t) ∷ ps) (p ∷ put n t ps)) ≡ (if same_name x n then Some t else (if same_name x p.0 then Some p.1 else under x ps))
    by Less e rest = refl
    by Equal e rest = equal_case (same_name x p.0) refl
      where
        same : n ≡ p.0
        same = same_name_is n p.0 (ap is_eq e)

        twice : (b : Bool) → (if b then Some t else under x ps) ≡ (if b then Some t else (if b then Some p.1 else under x ps))
        twice true = refl
        twice false = refl

        equal_case : (b : Bool) → same_name x p.0 ≡ b → (if same_name x p.0 then Some t else under x ps) ≡ (if same_name x n then Some t else (if same_name x p.0 then Some p.1 else under x ps))
        equal_case b i = subst (λ (m : List ℕ). (if same_name x p.0 then Some t else under x ps) ≡ (if same_name x m then Some t else (if same_name x p.0 then Some p.1 else under x ps))) (sym same) (twice (same_name x p.0))
    by Greater e rest = ap (λ (o : Option Plain). if same_name x p.0 then Some p.1 else o) rest ∙ turned (same_name x p.0) (same_name x n) (apart e)

found_in_order : (x : List ℕ) (ps : Entries) → under x (in_order ps) ≡ under x ps
found_in_order x [] = refl
found_in_order x (p ∷ ps) = found_put x p.0 p.1 (in_order ps) ∙ ap (λ (o : Option Plain). if same_name x p.0 then Some p.1 else o) (found_in_order x ps)

-- ---- slots
-- no slot has the name
abbrev pub Free : List ℕ → Slots → Type 0
Free x ss = EachSlot (λ n w. same_name x n ≡ false) ss

-- at most one has it
abbrev pub Once : List ℕ → Slots → Type 0
Once x no_slot = Unit {0}
Once x (slot n v ss) = MatchBool (same_name x n) (Free x ss) (Once x ss)

module _ (x : List ℕ) where
  not_found : (ss : Slots) → Free x ss → under x (out_slots ss) ≡ None
  not_found no_slot e = refl
  not_found (slot n v ss) e = ap (λ (b : Bool). if b then Some (out v) else under x (out_slots ss)) e.0 ∙ not_found ss e.1

  found_behind : (ss : Slots) (ps : Entries) → Free x ss → under x (out_slots ss ++ ps) ≡ under x ps
  found_behind no_slot ps e = refl
  found_behind (slot n v ss) ps e = ap (λ (b : Bool). if b then Some (out v) else under x (out_slots ss ++ ps)) e.0 ∙ found_behind ss ps e.1

  none_if_free : (ss : Slots) → Free x ss → value_in x ss ≡ None
  none_if_free no_slot e = refl
  none_if_free (slot n v ss) e = ap (λ (b : Bool). if b then Some v else value_in x ss) e.0 ∙ none_if_free ss e.1

  free_if_none : (ss : Slots) → value_in x ss ≡ None → Free x ss
  free_if_none no_slot e = tt
  free_if_none (slot n v ss) e = by (same_name x n) refl e (free_if_none ss)
    where
      by : (b : Bool) → same_name x n ≡ b → (if b then Some v else value_in x ss) ≡ None → (value_in x ss ≡ None → Free x ss) → (same_name x n ≡ false) × Free x ss
      by true i k rest = absurd cc
      by false i k rest = (i, rest k)

  module _ (f : Plain → Plain) where
    abbrev done : List ℕ → Plain → Plain
    done n u = if same_name x n then f u else u

    -- slots without the name stay
    slots_stay : (ss : Slots) → Free x ss → each_entry done (out_slots ss) ≡ out_slots ss
    slots_stay no_slot e = refl
    slots_stay (slot n v ss) e = ap₂ (λ (t : Plain) (l : Entries). (n, t) ∷ l) (ap (λ (b : Bool). if b then f (out v) else out v) e.0) (slots_stay ss e.1)

    slots_changed : (u w : Typed) (ss : Slots) → Once x ss → value_in x ss ≡ Some w → out u ≡ f (out w) → each_entry done (out_slots ss) ≡ out_slots (with_value x u ss)
    slots_changed u w no_slot o e k = absurd cc
    slots_changed u w (slot n v ss) o e k = by (same_name x n) o e (slots_changed u w ss)
      where
        by : (b : Bool) → MatchBool b (Free x ss) (Once x ss) → (if b then Some v else value_in x ss) ≡ Some w → (Once x ss → value_in x ss ≡ Some w → out u ≡ f (out w) → each_entry done (out_slots ss) ≡ out_slots (with_value x u ss)) → ◌≡◌ {A = Entries} ((n, if b then f (out v) else out v) ∷ each_entry done (out_slots ss)) (out_slots (if b then slot n u ss else slot n v (with_value x u ss)))
        by true once i rest = let is : v ≡ w = cc in ap₂ (λ (t : Plain) (l : Entries). (n, t) ∷ l) (ap (λ (a : Typed). f (out a)) is ∙ sym k) (slots_stay ss once)
        by false once i rest = ap (λ (l : Entries). (n, out v) ∷ l) (rest once i k)

    tag_stays : (tag : Option Tag) → ((t : Tag) → tag ≡ Some t → same_name x t.0 ≡ false) → each_entry done (tag_pair tag) ≡ tag_pair tag
    tag_stays None h = refl
    tag_stays (Some t) h = ap (λ (b : Bool). first t.0 (if b then f (plain.text t.1) else plain.text t.1) []) (h t refl)

-- ---- the value under a name
module _ (x : List ℕ) (ss : Slots) (tag : Option Tag) (zs rs : Slots) (no_tag : (t : Tag) → tag ≡ Some t → same_name x t.0 ≡ false) (no_rest : Free x rs) where
  abbrev value : Typed
  value = rec ss tag zs rs

  -- the pairs of a record value, changed list by list
  parts_changed : (f : Plain → Plain) (bs cs : Slots) → each_entry (done x f) (out_slots ss) ≡ out_slots bs → each_entry (done x f) (out_slots zs) ≡ out_slots cs → out (rec bs tag cs rs) ≡ at_step (name x) f (out value)
  parts_changed f bs cs a c =
      let h : List ℕ → Plain → Plain = done x f in
      let ps : Entries = out_slots ss ++ (tag_pair tag ++ (out_slots zs ++ out_slots rs)) in
      let split : each_entry h ps ≡ out_slots bs ++ (tag_pair tag ++ (out_slots cs ++ out_slots rs)) =
      each_append h (out_slots ss) (tag_pair tag ++ (out_slots zs ++ out_slots rs))
      ∙ ap₂ (λ (l m : Entries). l ++ m) a
      (each_append h (tag_pair tag) (out_slots zs ++ out_slots rs) ∙ ap₂ (λ (l m : Entries). l ++ m) (tag_stays x f tag no_tag) (each_append h (out_slots zs) (out_slots rs) ∙ ap₂ (λ (l m : Entries). l ++ m) c (slots_stay x f rs no_rest))) in
      ap (λ (l : Entries). plain.map (pairs_of (in_order l))) (sym split) ∙ ap (λ (l : Entries). plain.map (pairs_of l)) (sym (order_each h ps)) ∙ ap (λ (l : Entries). plain.map (pairs_of (each_entry h l))) (sym (entries_of_pairs (in_order ps)))

  -- nothing stands under it
  nothing_there : Free x ss → Free x zs → (f : Plain → Plain) → out value ≡ at_step (name x) f (out value)
  nothing_there a c f = parts_changed f ss zs (slots_stay x f ss a) (slots_stay x f zs c)

  -- it is a common field, which may be absent
  pub does_common : Once x ss → Free x zs → Does (may_field x) (name x) value
  does_common once free g f h = by (value_in x ss) refl
    where
      none : value_in x zs ≡ None
      none = none_if_free x zs free

      by : (o : Option Typed) → value_in x ss ≡ o → out (over_field x g (value_under x value) value) ≡ at_step (name x) f (out value)
      by None e =
          let nothing : value_under x value ≡ None = ap₂ (λ (a b : Option Typed). option_or a b) e none in
          ap (λ (o : Option Typed). out (over_field x g o value)) nothing ∙ nothing_there (free_if_none x ss e) free f
      by (Some w) e =
          let there : value_under x value ≡ Some w = ap (λ (a : Option Typed). option_or a (value_in x zs)) e in
          let same : out (g w) ≡ f (out w) = (subst (λ (o : Option Typed). AllByRecursion (λ u. out (g u) ≡ f (out u)) (option_to_list o)) there h).0 in
          ap (λ (o : Option Typed). out (over_field x g o value)) there
          ∙ ap (λ (o : Option Typed). out (if is_some o then rec (with_value x (g w) ss) tag zs rs else rec ss tag (with_value x (g w) zs) rs)) e
          ∙ parts_changed f (with_value x (g w) ss) zs (slots_changed x f (g w) w ss once e same) (slots_stay x f zs free)

  -- it is a field of the tag's case
  pub does_cased : Free x ss → Once x zs → Does (may_field x) (name x) value
  does_cased free once g f h = by (value_in x zs) refl
    where
      none : value_in x ss ≡ None
      none = none_if_free x ss free

      by : (o : Option Typed) → value_in x zs ≡ o → out (over_field x g (value_under x value) value) ≡ at_step (name x) f (out value)
      by None e =
          let nothing : value_under x value ≡ None = ap₂ (λ (a b : Option Typed). option_or a b) none e in
          ap (λ (o : Option Typed). out (over_field x g o value)) nothing ∙ nothing_there free (free_if_none x zs e) f
      by (Some w) e =
          let there : value_under x value ≡ Some w = ap₂ (λ (a b : Option Typed). option_or a b) none e in
          let same : out (g w) ≡ f (out w) = (subst (λ (o : Option Typed). AllByRecursion (λ u. out (g u) ≡ f (out u)) (option_to_list o)) there h).0 in
          ap (λ (o : Option Typed). out (over_field x g o value)) there
          ∙ ap (λ (o : Option Typed). out (if is_some o then rec (with_value x (g w) ss) tag zs rs else rec ss tag (with_value x (g w) zs) rs)) none
          ∙ parts_changed f ss (with_value x (g w) zs) (slots_stay x f ss free) (slots_changed x f (g w) w zs once e same)

-- ---- the record value itself where its tag is the literal
module _ (l : List ℕ) (ss : Slots) (t : Tag) (zs rs : Slots) (free : Free t.0 ss) where
  abbrev tagged_value : Typed
  tagged_value = rec ss (Some t) zs rs

  abbrev pairs : Entries
  pairs = out_slots ss ++ ((t.0, plain.text t.1) ∷ (out_slots zs ++ out_slots rs))

  tag_there : under t.0 (entries (pairs_of (in_order pairs))) ≡ Some (plain.text t.1)
  tag_there =
      ap (under t.0) (entries_of_pairs (in_order pairs)) ∙ found_in_order t.0 pairs ∙ found_behind t.0 ss ((t.0, plain.text t.1) ∷ (out_slots zs ++ out_slots rs)) free
      ∙ ap (λ (b : Bool). if b then Some (plain.text t.1) else under t.0 (out_slots zs ++ out_slots rs)) (same_name_itself t.0)

  literal_is : has_tag t.0 l (entries (pairs_of (in_order pairs))) ≡ same_name l t.1
  literal_is = ap (is_text l) tag_there ∙ flips t.1 l

  pub does_case : Does (case_of l) (tagged t.0 l) tagged_value
  does_case g f h = by (same_name l t.1) h ∙ sym (ap (λ (b : Bool). if b then f (out tagged_value) else out tagged_value) literal_is)
    where
      by : (b : Bool) → AllByRecursion (λ w. out (g w) ≡ f (out w)) (if b then tagged_value ∷ [] else []) → out (if b then g tagged_value else tagged_value) ≡ (if b then f (out tagged_value) else out tagged_value)
      by true k = k.0
      by false k = refl
