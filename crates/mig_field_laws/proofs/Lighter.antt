-- No function on the fields of a scope makes the count greater.
use Rattle.std.proofs.Common.{◌≡◌, ◌≤◌, ◌+◌, ℕ, List, [], ◌∷◌, Bool, true, false, Option, Some, None, refl, sym, ap, ap₂, subst, ◌∙◌, arith}
use Rattle.std.specs.Prelude.{not, ◌||◌, ◌&&◌, is_some, map, option_map, option_and_then, if◌then◌else◌}
use Rattle.std.specs.List.{list_all, filter}
use Rattle.std.specs.Map.{keys_of}
use Rattle.mig_model.specs.declared.form.Form.{Form}
use Rattle.mig_model.specs.declared.kind.Kind.{Kind}
use Rattle.mig_model.specs.declared.presence.Presence.{Presence}
use Rattle.mig_model.specs.declared.presence.Presence.TheVariants.{Must, May}
use Rattle.mig_model.specs.declared.rest.Rest.{Rest}
use Rattle.mig_model.specs.declared.rest.Rest.TheVariants.{Open}
use Rattle.mig_model.specs.Plain as plain
use Rattle.mig_model.specs.Plain.{Plain, no_tree, tree, pairs_of, entries}
use Rattle.mig_model.specs.Kinds.{entries_of_pairs}
use Rattle.mig_model.specs.Fields.{if_so}
use Rattle.mig_model.specs.Names.{Ascends, same_name, is_among, under, has, without, put, bring, put_all, moved, those, others}
use Rattle.mig_model.specs.Template.{Template, leaf, list, sum, rec, Field, Fields, fields_of, field_list, no_choice, is_must}
use Rattle.mig_model.specs.Inhabits.{Entries}
use Rattle.mig_model.specs.Leaf.{LeafFn, leaf_out, leaf_value}
use Rattle.mig_model.proofs.Bools.{split_and, left_or, right_or}
use Rattle.mig_model.proofs.Rising.{nothing_ascends}
use Rattle.mig_model.proofs.SameNames.{same_name_itself}
use Rattle.mig_model.specs.Record.{RecordParts}
use Rattle.mig_laws.proofs.Reading.{fields_of_list}
use Rattle.mig_value.specs.Nodes.{tally, sum_entries}
use Rattle.mig_field.specs.FieldFn.{Fill, constant, empty_list, fill_template, fill_tree, FieldOp, rename, drop, add, learn, forget, default, maybe, map_leaf, nest, unnest, wrap, unify}
use Rattle.mig_field.specs.NewRecord.{Scoped, FieldType, is_free, filled, lessened, learned, leaf_after, leaf_of_both, common_kind, with_template, at_field, inner_fields, can_nest, unnested, unnest_slot, new_fields}
use Rattle.mig_field.specs.SameTemplate.{same_template}
use Rattle.mig_field.specs.Act.{edit, is_learned, left_kind, unified, pairs_in, inner_names}
use Rattle.mig_model.proofs.Edits.{first, under-those, under-filter, under-bring, under-put_all, ascends-those, ascends-filter, ascends-bring, ascends-put_all, same_under, among_is}
use Rattle.mig_model.proofs.Options.{none-there}
use Rattle.mig_action.proofs.Settings.{first-none}
use Rattle.mig_field.proofs.Same.{same_is}
use Rattle.mig_action.proofs.Ops.{is-free, FieldAt, at-field}
use Rattle.mig_action.proofs.Values.{so, mapped, then_some}
use Rattle.mig_field_laws.proofs.Places.{place}
use Rattle.mig_field_laws.proofs.Scopes.{InOrder, Refield, field_put, field_without, field_moved, OneEdit, dropping, putting, staying, changing, defaulting, learning, moving}
use Rattle.mig_field_laws.proofs.Nests.{nesting, unnesting, field_nest, nested_apart, field_unnest}
use Rattle.mig_field_laws.proofs.Sums.{Weight, of_some, sum_same, sum_agree, sum_put_all, sum_filter, sum_fewer, sum_brought, sum_one, sum_edited}
use Rattle.mig_field_laws.proofs.Tallies.{tally_at, tallied, tallied_is}

module _ (form : Form) (h : Weight) where
  abbrev weight : Option FieldType → Option Plain → ℕ
  weight F u = of_some (tally_at form h F) u

  -- ---- fields without points
  at_leaf : (q : Presence) (k : Kind) (u : Option Plain) → weight (Some (q, leaf k)) u ≡ 0
  at_leaf q k None = refl
  at_leaf q k (Some t) = refl

  at_learned : (k : Option Kind) (u : Option Plain) → weight (Some (May, learned k)) u ≡ 0
  at_learned None None = refl
  at_learned None (Some t) = refl
  at_learned (Some k) u = at_leaf May k u

  at_fill : (c : Fill) → tally form h (fill_template c) (fill_tree c) ≡ 0
  at_fill (constant c) = refl
  at_fill (empty_list V) = refl

  at_none : (u : Option Plain) → weight None u ≡ 0
  at_none None = refl
  at_none (Some t) = refl

  at_filled : (c : Fill) (f : FieldType) (u : Option Plain) → f.1 ≡ fill_template c → weight (Some (Must, f.1)) (first u (Some (fill_tree c))) ≤ weight (Some f) u
  at_filled c f None e = let zero : tally form h f.1 (fill_tree c) ≡ 0 = ap (λ V. tally form h V (fill_tree c)) e ∙ at_fill c in omega arith
  at_filled c f (Some t) e = omega arith

  at_lessened : (V : Template) (q : Presence) (u : Option Plain) → weight (Some (May, V)) u ≤ weight (Some (q, V)) u
  at_lessened V q None = omega arith
  at_lessened V q (Some t) = omega arith

  at_wrapped : (V : Template) (q : Presence) (u : Option Plain) → weight (Some (q, list V)) (option_map (λ t. plain.list (tree t no_tree)) u) ≤ weight (Some (q, V)) u
  at_wrapped V q None = omega arith
  at_wrapped V q (Some t) = omega arith

  module _ (other : List ℕ → Option FieldType) (s : Scoped) (i : InOrder s) (within : (n : List ℕ) → is_some (other n) ≡ true → s.taken n ≡ true) where
    abbrev pub Before : Weight
    Before n = tally_at form h (first (under n s.fields) (other n))

    abbrev pub After : List Field → Weight
    After gs n = tally_at form h (first (under n gs) (other n))

    abbrev pub Lighter : (Entries → Entries) → List Field → Type 0
    Lighter E gs = (es : Entries) → Ascends es → sum_entries (After gs) (E es) ≤ sum_entries Before es

    alone : (n : List ℕ) → s.taken n ≡ false → other n ≡ None
    alone n k = let w = within n in none-there (other n) (grind (arith, w, k))

    -- a name that stands nowhere else
    own : (fs : List Field) (n : List ℕ) (F : Option FieldType) → s.taken n ≡ false → under n fs ≡ F → (t : Plain) → tally_at form h (first (under n fs) (other n)) t ≡ tally_at form h F t
    own fs n F k e t = ap (λ (G : Option FieldType). tally_at form h G t) ((λ j. first (e j) (alone n k j)) ∙ first-none F)

    weigh_own : (fs : List Field) (n : List ℕ) (F : Option FieldType) → s.taken n ≡ false → under n fs ≡ F → (u : Option Plain)
        → of_some (tally_at form h (first (under n fs) (other n))) u ≡ weight F u
    weigh_own fs n F k e None = refl
    weigh_own fs n F k e (Some t) = own fs n F k e t

    -- elsewhere nothing changes
    elsewhere : (gs : List Field) (at : List ℕ → Bool) (F : List ℕ → Option FieldType) → Refield s gs at F → (n : List ℕ) (t : Plain) → at n ≡ false → After gs n t ≡ Before n t
    elsewhere gs at F r n t e = ap (λ (G : Option FieldType). tally_at form h (first G (other n)) t) (r.are n ∙ ap (λ b. if b then F n else under n s.fields) e)

    -- ---- changes at one name
    one : (x : List ℕ) (E : Entries → Entries) (T : Option Plain → Option Plain) → OneEdit x E T → (gs : List Field) (F : Option FieldType) → Refield s gs (λ n. same_name n x) (λ n. F)
        → s.taken x ≡ false
        → ((u : Option Plain) → weight F (T u) ≤ weight (under x s.fields) u) → Lighter E gs
    one x E T d gs F r free le es a =
        let new = sum_one (After gs) x (E es) (d.ascend es a) ∙ (weigh_own gs x F free (here (r.are x)) (under x (E es)) ∙ ap (weight F) (here_too (d.is es a x))) in
        let old = sum_one Before x es a ∙ weigh_own s.fields x (under x s.fields) free refl (under x es) in
        let less = le (under x es) in
        sum_edited (λ n. same_name n x) E (λ n es. T (under x es)) d Before (After gs) (elsewhere gs (λ n. same_name n x) (λ n. F) r) es a (omega (arith, new, old, less))
      where
        here : under x gs ≡ (if same_name x x then F else under x s.fields) → under x gs ≡ F
        here e = e ∙ ap (λ b. if b then F else under x s.fields) (same_name_itself x)

        here_too : under x (E es) ≡ (if same_name x x then T (under x es) else under x es) → under x (E es) ≡ T (under x es)
        here_too e = e ∙ ap (λ b. if b then T (under x es) else under x es) (same_name_itself x)

    none_left : (F : Option FieldType) (u : Option Plain) → ((z : Option Plain) → weight F z ≡ 0) → (v : Option Plain) (G : Option FieldType) → weight F u ≤ weight G v
    none_left F u e v G = let zero = e u in omega arith

    dropped : (x : List ℕ) → has x s.fields ≡ true → Lighter (without x) (without x s.fields)
    dropped x there = one x (without x) (λ o. None) (dropping x) (without x s.fields) None (field_without s i x there) (i.apart x there) (λ u. omega arith)

    forgotten : (x : List ℕ) → has x s.fields ≡ true → Lighter (λ es. es) (without x s.fields)
    forgotten x there = one x (λ es. es) (λ o. o) (staying x) (without x s.fields) None (field_without s i x there) (i.apart x there) (λ u. none_left None u at_none u (under x s.fields))

    -- a field is put, in which nothing is counted
    put_light : (x : List ℕ) (f : FieldType) → s.taken x ≡ false → (E : Entries → Entries) (T : Option Plain → Option Plain) → OneEdit x E T → ((u : Option Plain) → weight (Some f) (T u) ≡ 0)
        → Lighter E (put x f s.fields)
    put_light x f free E T d zero = one x E T d (put x f s.fields) (Some f) (field_put s i x f free) free (λ u. let z = zero u in omega arith)

    module _ (x : List ℕ) (old new : FieldType) (there : under x s.fields ≡ Some old) where
      free : s.taken x ≡ false
      free = i.apart x (ap is_some there)

      put_in_place : (E : Entries → Entries) (T : Option Plain → Option Plain) → OneEdit x E T → ((u : Option Plain) → weight (Some new) (T u) ≤ weight (Some old) u)
          → Lighter E (put x new s.fields)
      put_in_place E T d le = one x E T d (put x new s.fields) (Some new) (field_put s i x new free) free (λ u. subst (λ F. weight (Some new) (T u) ≤ weight F u) (sym there) (le u))

      fills : (g : Fill) → filled g old ≡ Some new → Lighter (edit (default x g) s.fields) (put x new s.fields)
      fills g e =
          let a = so (not (is_must old.0) && same_template old.1 (fill_template g)) (Must, old.1) new e in
          let b = split_and (not (is_must old.0)) (same_template old.1 (fill_template g)) a.0 in
          put_in_place (edit (default x g) s.fields) (λ u. first u (Some (fill_tree g))) (defaulting x (fill_tree g))
          (λ u. subst (λ (f : FieldType). weight (Some f) (first u (Some (fill_tree g))) ≤ weight (Some old) u) a.1 (at_filled g old u (same_is old.1 (fill_template g) b.1)))

      lessens : lessened old ≡ Some new → Lighter (λ es. es) (put x new s.fields)
      lessens e =
          let a = so (is_must old.0) (May, old.1) new e in
          put_in_place (λ es. es) (λ u. u) (staying x) (λ u. subst (λ (f : FieldType). weight (Some f) u ≤ weight (Some old) u) a.1 (at_lessened old.1 old.0 u))

      -- the new template is a leaf's
      to_leaf : (f : Template → Option Template) → ((V W : Template) → f V ≡ Some W → (q : Presence) (u : Option Plain) → weight (Some (q, W)) u ≡ 0) → with_template f old ≡ Some new
          → (E : Entries → Entries) (T : Option Plain → Option Plain) → OneEdit x E T → Lighter E (put x new s.fields)
      to_leaf f zero e E T d =
          let a = mapped (λ (W : Template). (old.0, W)) (f old.1) new e in
          put_light x new free E T d (λ u. subst (λ (z : FieldType). weight (Some z) (T u) ≡ 0) a.2 (zero old.1 a.0 a.1 old.0 (T u)))

      wraps : with_template (λ V. Some (list V)) old ≡ Some new → Lighter (edit (wrap x) s.fields) (put x new s.fields)
      wraps e =
          let n : (old.0, list old.1) ≡ new = cc in
          put_in_place (edit (wrap x) s.fields) (option_map (λ t. plain.list (tree t no_tree))) (changing x (λ t. plain.list (tree t no_tree)))
          (λ u. subst (λ (z : FieldType). weight (Some z) (option_map (λ t. plain.list (tree t no_tree)) u) ≤ weight (Some old) u) n (at_wrapped old.1 old.0 u))

    leaf_zero : (f : LeafFn) (V W : Template) → leaf_after f V ≡ Some W → (q : Presence) (u : Option Plain) → weight (Some (q, W)) u ≡ 0
    leaf_zero f (leaf k) W e q u = let a = mapped (λ j. leaf j) (leaf_out f k) W e in subst (λ X. weight (Some (q, X)) u ≡ 0) a.2 (at_leaf q a.0 u)
    leaf_zero f V W e q u = cc

    both_zero : (f g : LeafFn) (V W : Template) → leaf_of_both f g V ≡ Some W → (q : Presence) (u : Option Plain) → weight (Some (q, W)) u ≡ 0
    both_zero f g (sum (leaf a) (leaf b)) W e q u = let m = mapped (λ j. leaf j) (common_kind (leaf_out f a) (leaf_out g b)) W e in subst (λ X. weight (Some (q, X)) u ≡ 0) m.2 (at_leaf q m.0 u)
    both_zero f g V W e q u = cc

    -- ---- changes at several names
    renames : (x y : List ℕ) → has x s.fields ≡ true → s.taken y ≡ false → Lighter (moved x y) (moved x y s.fields)
    renames x y there free es a =
        let at : List ℕ → Bool = λ n. same_name n y || same_name n x in
        let r = field_moved s i x y there free in
        let d = moving x y in
        let only : filter (λ e. same_name e.0 y || same_name e.0 x) (moved x y es) ≡ bring y (under x es) [] =
        same_under (filter (λ e. same_name e.0 y || same_name e.0 x) (moved x y es)) (bring y (under x es) []) (ascends-filter (λ n. same_name n y || same_name n x) (moved x y es) (d.ascend es a))
        (ascends-bring y (under x es) [] (nothing_ascends Plain))
        (λ n. grind (arith, under-filter (λ m. same_name m y || same_name m x) (moved x y es) n, d.is es a n, under-bring y (under x es) [] n)) in
        let new = ap (sum_entries (After (moved x y s.fields))) only ∙
        (sum_brought (After (moved x y s.fields)) y (under x es) ∙ weigh_own (moved x y s.fields) y (under x s.fields) free
        (r.are y ∙ ap (λ b. if b || same_name y x then (if b then under x s.fields else None) else under y s.fields) (same_name_itself y)) (under x es)) in
        let old = sum_one Before x es a ∙ weigh_own s.fields x (under x s.fields) (i.apart x there) refl (under x es) in
        let less = sum_fewer Before (λ n. same_name n x) (λ n. same_name n y || same_name n x) (λ n k. right_or (same_name n y) (same_name n x) k) es in
        sum_edited (λ n. same_name n y || same_name n x) (moved x y) (λ n es. if same_name n y then under x es else None) d Before (After (moved x y s.fields))
        (elsewhere (moved x y s.fields) _ _ r) es a (omega (arith, new, old, less))

    module _ (xs : List (List ℕ)) (y : List ℕ) (able : can_nest xs y s ≡ true) where
      abbrev Inner : Template
      Inner = rec (fields_of (those xs s.fields)) no_choice Open

      abbrev new_nest : List Field
      new_nest = put y (Must, Inner) (others xs s.fields)

      inner_sum : (es : Entries) → Ascends es → tally form h Inner (plain.map (pairs_of (those xs es))) ≡ sum_entries Before (those xs es)
      inner_sum es a =
          ap (tallied form h inner) (entries_of_pairs (those xs es))
          ∙ (tallied_is form h inner [] (those xs es) tt
          ∙ sum_agree (λ n. tally_at form h (place inner [] n)) Before (those xs es) (ascends-those xs es a) (λ n t k. at n t (is_among xs n) refl (sym (under-those xs es n) ∙ k)))
        where
          inner : RecordParts
          inner = record { fields = those xs s.fields; choice = None; rest = Open }

          at : (n : List ℕ) (t : Plain) (b : Bool) → is_among xs n ≡ b → (if b then under n es else None) ≡ Some t
              → tally_at form h (first None (first (under n (those xs s.fields)) None)) t ≡ Before n t
          at n t true k e =
              ap (λ (F : Option FieldType). tally_at form h F t) (first-none (under n (those xs s.fields)) ∙ (under-those xs s.fields n ∙ ap (λ b. if b then under n s.fields else None) k))
              ∙ sym (own s.fields n (under n s.fields) (nested_apart s i xs y able n k) refl t)
          at n t false k e = cc

      nests : Lighter (edit (nest xs y) s.fields) new_nest
      nests es a =
          let W : Plain = plain.map (pairs_of (those xs es)) in
          let r = field_nest s i xs y able in
          let d = nesting xs y in
          let E = edit (nest xs y) s.fields in
          let free : s.taken y ≡ false = r.free y (left_or (same_name y y) (is_among xs y) (same_name_itself y)) in
          let only : filter (λ e. same_name e.0 y || is_among xs e.0) (edit (nest xs y) s.fields es) ≡ bring y (Some (plain.map (pairs_of (those xs es)))) [] =
          same_under (filter (λ e. same_name e.0 y || is_among xs e.0) (edit (nest xs y) s.fields es)) (bring y (Some (plain.map (pairs_of (those xs es)))) [])
          (ascends-filter (λ n. same_name n y || is_among xs n) (edit (nest xs y) s.fields es) (d.ascend es a))
          (ascends-bring y (Some (plain.map (pairs_of (those xs es)))) [] (nothing_ascends Plain))
          (λ n. grind (arith, under-filter (λ m. same_name m y || is_among xs m) (edit (nest xs y) s.fields es) n, d.is es a n, under-bring y (Some (plain.map (pairs_of (those xs es)))) [] n)) in
          let new = ap (sum_entries (After new_nest)) only ∙
          (sum_brought (After new_nest) y (Some (plain.map (pairs_of (those xs es)))) ∙
          (own new_nest y (Some (Must, Inner)) free (r.are y ∙ ap (λ b. if b || is_among xs y then (if b then Some (Must, Inner) else None) else under y s.fields) (same_name_itself y))
          (plain.map (pairs_of (those xs es))) ∙ inner_sum es a)) in
          let less = sum_fewer Before (is_among xs) (λ n. same_name n y || is_among xs n) (λ n k. right_or (same_name n y) (is_among xs n) k) es in
          sum_edited (λ n. same_name n y || is_among xs n) (edit (nest xs y) s.fields) (λ n es. if same_name n y then Some (plain.map (pairs_of (those xs es))) else None) d Before (After new_nest)
          (elsewhere new_nest _ _ r) es a (omega (arith, new, less))

    module _ (y : List ℕ) (q : Presence) (gf : Fields) (p : Rest) (there : under y s.fields ≡ Some (q, rec gf no_choice p))
        (free : list_all (λ n. same_name n y || is_free s n) (keys_of (field_list gf)) ≡ true) where
      abbrev gs : List Field
      gs = field_list gf

      abbrev ns : List (List ℕ)
      ns = inner_names (under y s.fields)

      abbrev new_unnest : List Field
      new_unnest = put_all (map (unnested q) gs) (without y s.fields)

      among : (n : List ℕ) → is_among ns n ≡ has n gs
      among n = ap (λ l. is_among l n) (ap inner_names there) ∙ among_is gs n

      abbrev Out : Weight
      Out n = tally_at form h (under n gs)

      -- what is counted in the record that comes out
      record_sum : (u : Option Plain) → sum_entries Out (pairs_in u) ≤ weight (Some (q, rec gf no_choice p)) u
      record_sum None = omega arith
      record_sum (Some (plain.map ps)) = let e = whole in omega (arith, e)
        where
          out : RecordParts
          out = record { fields = gs; choice = None; rest = p }

          whole : tally form h (rec gf no_choice p) (plain.map ps) ≡ sum_entries Out (entries ps)
          whole =
              ap (λ X. tally form h (rec X no_choice p) (plain.map ps)) (sym (fields_of_list gf))
              ∙ (tallied_is form h out [] (entries ps) tt ∙ sum_same (λ n. tally_at form h (first None (first (under n gs) None))) Out
              (λ n t. ap (λ (F : Option FieldType). tally_at form h F t) (first-none (under n gs))) (entries ps))
      record_sum (Some t) = omega arith

      unnests : Lighter (edit (unnest y) s.fields) new_unnest
      unnests es a =
          let r = field_unnest s i y q gf p there free in
          let d = unnesting y s.fields gs (ap inner_names there) in
          let inner = those ns (pairs_in (under y es)) in
          let only : filter (λ e. same_name e.0 y || has e.0 gs) (edit (unnest y) s.fields es) ≡ put_all (those ns (pairs_in (under y es))) [] =
          same_under (filter (λ e. same_name e.0 y || has e.0 gs) (edit (unnest y) s.fields es)) (put_all (those ns (pairs_in (under y es))) [])
          (ascends-filter (λ n. same_name n y || has n gs) (edit (unnest y) s.fields es) (d.ascend es a)) (ascends-put_all (those ns (pairs_in (under y es))) [] (nothing_ascends Plain))
          (λ n. grind (
            arith,
            under-filter (λ m. same_name m y || has m gs) (edit (unnest y) s.fields es) n,
            d.is es a n,
            under-put_all (those ns (pairs_in (under y es))) [] n,
            under-those ns
                (pairs_in (under y es)) n,
            among n,
          )) in
          let new = ap (sum_entries (After new_unnest)) only in
          let put = sum_put_all (After new_unnest) (those ns (pairs_in (under y es))) [] in
          let out = those_sum (pairs_in (under y es)) in
          let fewer = sum_filter Out (is_among ns) (pairs_in (under y es)) in
          let within' = record_sum (under y es) in
          let old = sum_one Before y es a ∙ weigh_own s.fields y (Some (q, rec gf no_choice p)) (i.apart y (ap is_some there)) there (under y es) in
          let less = sum_fewer Before (λ n. same_name n y) (λ n. same_name n y || has n gs) (λ n k. left_or (same_name n y) (has n gs) k) es in
          sum_edited (λ n. same_name n y || has n gs) (edit (unnest y) s.fields) (λ n es. if has n gs then under n (pairs_in (under y es)) else None) d Before (After new_unnest)
          (elsewhere new_unnest _ _ r) es a
          (omega (arith, new, put, out, fewer, within', old, less))
        where
          at : (n : List ℕ) (t : Plain) → is_among ns n ≡ true → After new_unnest n t ≡ Out n t
          at n t k =
              let r = field_unnest s i y q gf p there free in
              let is : (same_name n y || has n gs) ≡ true = right_or (same_name n y) (has n gs) (sym (among n) ∙ k) in
              own new_unnest n (option_map (λ (f : FieldType). ((if is_must q then f.0 else May), f.1)) (under n gs)) (r.free n is)
              (r.are n ∙ ap (λ b. if b then option_map (λ (f : FieldType). ((if is_must q then f.0 else May), f.1)) (under n gs) else under n s.fields) is) t ∙ less (under n gs)
            where
              less : (F : Option FieldType) → tally_at form h (option_map (λ (f : FieldType). ((if is_must q then f.0 else May), f.1)) F) t ≡ tally_at form h F t
              less None = refl
              less (Some f) = refl

          those_sum : (ps : Entries) → sum_entries (After new_unnest) (those ns ps) ≡ sum_entries Out (those ns ps)
          those_sum [] = refl
          those_sum (e ∷ ps) = by (is_among ns e.0) refl (those_sum ps)
            where
              by : (b : Bool) → is_among ns e.0 ≡ b → sum_entries (After new_unnest) (those ns ps) ≡ sum_entries Out (those ns ps)
                  → sum_entries (After new_unnest) (if b then e ∷ those ns ps else those ns ps) ≡ sum_entries Out (if b then e ∷ those ns ps else those ns ps)
              by true k rest = ap₂ ◌+◌ (at e.0 e.1 k) rest
              by false k rest = rest

    -- ---- every function
    module _ (r : Rest) where
      Is : List Field → FieldOp → Type 0
      Is gs op = Lighter (edit op s.fields) gs

      made : (b : Bool) (fs gs : List Field) (op : FieldOp) → if_so b fs ≡ Some gs → (b ≡ true → Lighter (edit op s.fields) fs) → Lighter (edit op s.fields) gs
      made b fs gs op e f = let a = so b fs gs e in subst (λ l. Lighter (edit op s.fields) l) a.1 (f a.0)

      made_at : (x : List ℕ) (f : FieldType → Option FieldType) (gs : List Field) (op : FieldOp) → at_field x f s.fields ≡ Some gs
          → ((a : FieldAt x f s.fields gs) → Lighter (edit op s.fields) (put x a.new s.fields)) → Lighter (edit op s.fields) gs
      made_at x f gs op e g = let a = at-field x f s.fields gs e in subst (λ l. Lighter (edit op s.fields) l) a.gives (g a)

      pub op_lighter : (op : FieldOp) (gs : List Field) → new_fields op r s ≡ Some gs → Lighter (edit op s.fields) gs
      op_lighter (rename x y) gs e = made _ _ gs (rename x y) e (λ b. let f = is-free s y (grind (arith, b)) in renames x y (grind (arith, b)) f.free)
      op_lighter (drop x) gs e = made _ _ gs (drop x) e (dropped x)
      op_lighter (add x g) gs e = made _ _ gs (add x g) e
          (λ b. let f = is-free s x (grind (arith, b)) in put_light x (Must, fill_template g) f.free (edit (add x g) s.fields) (λ u. Some (fill_tree g)) (putting x (fill_tree g)) (λ u. at_fill g))
      op_lighter (learn x k) gs e = made _ _ gs (learn x k) e
          (λ b. let f = is-free s x (grind (arith, b)) in put_light x (May, learned k) f.free (edit (learn x k) s.fields) (λ u. if is_learned k u then u else None) (learning x k)
          (λ u. at_learned k (if is_learned k u then u else None)))
      op_lighter (forget x) gs e = made _ _ gs (forget x) e (λ b. forgotten x (grind (arith, b)))
      op_lighter (default x g) gs e = made_at x (filled g) gs (default x g) e (λ f. fills x f.old f.new f.there g f.becomes)
      op_lighter (maybe x) gs e = made_at x lessened gs (maybe x) e (λ f. lessens x f.old f.new f.there f.becomes)
      op_lighter (map_leaf x g) gs e = made_at x (with_template (leaf_after g)) gs (map_leaf x g) e
          (λ f. to_leaf x f.old f.new f.there (leaf_after g) (leaf_zero g) f.becomes (edit (map_leaf x g) s.fields) (option_map (leaf_value g)) (changing x (leaf_value g)))
      op_lighter (wrap x) gs e = made_at x (with_template (λ V. Some (list V))) gs (wrap x) e (λ f. wraps x f.old f.new f.there f.becomes)
      op_lighter (unify x g k) gs e =
          made_at x (with_template (leaf_of_both g k)) gs (unify x g k) e
          (λ f. to_leaf x f.old f.new f.there (leaf_of_both g k) (both_zero g k) f.becomes (edit (unify x g k) s.fields) (option_map (unified g k (left_kind (under x s.fields))))
          (changing x (unified g k (left_kind (under x s.fields)))))
      op_lighter (nest xs y) gs e = made _ _ gs (nest xs y) e (nests xs y)
      op_lighter (unnest y) gs e =
          let a = then_some (λ (f : FieldType). option_and_then (unnest_slot y s f.0) (inner_fields f.1)) (under y s.fields) gs e in
          by a.0.0 a.0.1 a.1 a.2
        where
          at : (q : Presence) (gf : Fields) (p : Rest) → under y s.fields ≡ Some (q, rec gf no_choice p) → unnest_slot y s q (field_list gf) ≡ Some gs → Lighter (edit (unnest y) s.fields) gs
          at q gf p there k = made _ _ gs (unnest y) k (unnests y q gf p there)

          by : (q : Presence) (V : Template) → under y s.fields ≡ Some (q, V) → option_and_then (unnest_slot y s q) (inner_fields V) ≡ Some gs → Lighter (edit (unnest y) s.fields) gs
          by q (rec gf no_choice p) there k = at q gf p there k
          by q V there k = cc
      op_lighter op gs e = cc
