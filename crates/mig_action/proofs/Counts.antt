-- No function makes nodes: for every test there are at most as many afterwards.
use Rattle.std.proofs.Common.{◌≡◌, ◌≤◌, ◌+◌, ℕ, List, [], ◌∷◌, false, Option, Some, None, refl, ap, arith}
use Rattle.std.specs.Map.{keys_of}
use Rattle.mig_model.specs.declared.rest.Rest.{Rest}
use Rattle.std.specs.Prelude.{not, ◌&&◌, option_map, option_and_then, unwrap_or, if◌then◌else◌}
use Rattle.mig_model.specs.declared.kind.Kind.{Kind}
use Rattle.mig_model.specs.Plain.{Plain}
use Rattle.mig_model.specs.Template.{Field}
use Rattle.mig_model.specs.Record as template
use Rattle.mig_model.specs.Record.{IsRecord, found_case}
use Rattle.mig_template.proofs.Names.{first_once}
use Rattle.mig_template.proofs.Sorted.{once_if_ascends}
use Rattle.mig_model.specs.Names.{has_twice, is_among, under, has, without, put, bring, put_all, those, others, changed}
use Rattle.mig_value.specs.Typed.{Typed, atom, list, left, right, rec, no_item, item, Slot, Tag, slots, slots_of}
use Rattle.mig_value.specs.Parts.{RecordParts, record_of}
use Rattle.mig_value.specs.Nodes.{Test, nodes, nodes_in_slots}
use Rattle.mig_field.specs.FieldFn.{Scope, common, in_case, Fill, FieldOp, rename, drop, add, learn, forget, default, map_leaf, nest, unnest, wrap, unify, retag, add_case, FieldFn}
use Rattle.mig_model.specs.Leaf.{leaf_value}
use Rattle.mig_field.specs.NewRecord.{FieldType, scoped, with_cases, fields_of_case, can_be_settled, can_be_case, with_case, new_by, new_record}
use Rattle.mig_field.specs.Act.{inner_names, left_kind, unified, by_field}
use Rattle.mig_action.specs.Moves.{Moving, move, fill_value, at_leaf, at_side, learned_value, open_record, inner_slots, with_moving, with_moving_case, is_of_case, settled_value, settle_case, retag_value, apply_by, apply}
use Rattle.mig_action.proofs.Values.{so, mapped, then_some, none_then}
use Rattle.mig_action.proofs.Distinct.{case_ascends}
use Rattle.mig_model.proofs.Bools.{split_or}
use Rattle.mig_model.proofs.SameNames.{same_name_is, same_name_flips}
use Rattle.mig_value.proofs.Views.{slots_whole}

module _ (x : Test) where
  abbrev pub count : List Slot → ℕ
  count ss = nodes_in_slots x (slots_of ss)

  abbrev pub of_some : Option Typed → ℕ
  of_some None = 0
  of_some (Some v) = nodes x v

  count_put : (y : List ℕ) (v : Typed) (ss : List Slot) → count (put y v ss) ≤ count ss + nodes x v
  count_put y v [] = omega arith
  count_put y v (s ∷ ss) = grind (arith, count_put y v ss)

  count_without : (y : List ℕ) (ss : List Slot) → count (without y ss) + of_some (under y ss) ≡ count ss
  count_without y [] = refl
  count_without y (s ∷ ss) = grind (arith, count_without y ss)

  count_bring : (y : List ℕ) (o : Option Typed) (ss : List Slot) → count (bring y o ss) ≤ count ss + of_some o
  count_bring y None ss = omega arith
  count_bring y (Some v) ss = count_put y v ss

  count_put_all : (ns ss : List Slot) → count (put_all ns ss) ≤ count ns + count ss
  count_put_all [] ss = omega arith
  count_put_all (n ∷ ns) ss = let a = count_put n.0 n.1 (put_all ns ss) in let b = count_put_all ns ss in omega arith

  count_parted : (xs : List (List ℕ)) (ss : List Slot) → count (those xs ss) + count (others xs ss) ≡ count ss
  count_parted xs [] = refl
  count_parted xs (s ∷ ss) = grind (arith, count_parted xs ss)

  -- one more of some names has what stands under it
  count_those : (y : List ℕ) (xs : List (List ℕ)) → is_among xs y ≡ false → (ss : List Slot) → count (those xs ss) + of_some (under y ss) ≤ count (those (y ∷ xs) ss)
  count_those y xs h [] = omega arith
  count_those y xs h (s ∷ ss) = grind (arith, count_those y xs h ss, same_name_is s.0 y, same_name_flips y s.0, h)

  count_changed : (y : List ℕ) (f : Typed → Typed) → ((v : Typed) → nodes x (f v) ≤ nodes x v) → (ss : List Slot) → count (changed y f ss) ≤ count ss
  count_changed y f h [] = omega arith
  count_changed y f h (s ∷ ss) = grind (arith, h s.1, count_changed y f h ss)

  count_fill : (c : Fill) → nodes x (fill_value c) ≡ 0
  count_fill c = grind arith

  count_leaf : (f : Plain → Plain) (v : Typed) → nodes x (at_leaf f v) ≤ nodes x v
  count_leaf f (atom t) = omega arith
  count_leaf f v = omega arith

  count_side : (f : Plain → Plain) (v : Typed) → nodes x (at_side f v) ≤ nodes x v
  count_side f (left v) = count_leaf f v
  count_side f (right v) = count_leaf f v
  count_side f v = omega arith

  count_learned : (k : Option Kind) (R : Option Typed) → of_some (option_and_then (learned_value k) R) ≤ of_some R
  count_learned k R = grind arith

  count_inner : (o : Option Typed) → count (inner_slots o) ≤ of_some o
  count_inner (Some (rec fs tag cs rs)) = let e : count (slots fs) ≡ nodes_in_slots x fs = ap (nodes_in_slots x) (slots_whole fs) in omega arith
  count_inner o = omega arith

  abbrev pub total : Moving → ℕ
  total m = count m.slots + count m.rest

  pub move_counts : (op : FieldOp) (fs : List Field) (m : Moving) → total (move op fs m) ≤ total m
  move_counts (rename y z) fs m =
      let a = count_bring z (under y m.slots) (without z (without y m.slots)) in
      let b = count_without z (without y m.slots) in
      let c = count_without y m.slots in
      let d = count_without z m.rest in
      omega arith
  move_counts (drop y) fs m = let a = count_without y m.slots in omega arith
  move_counts (add y c) fs m = let a = count_put y (fill_value c) m.slots in let b = count_fill c in let d = count_without y m.rest in omega arith
  move_counts (learn y k) fs m =
      let a = count_bring y (option_and_then (learned_value k) (under y m.rest)) m.slots in
      let b = count_learned k (under y m.rest) in
      let c = count_without y m.rest in
      omega arith
  move_counts (forget y) fs m = let a = count_without y m.slots in let b = count_bring y (under y m.slots) m.rest in omega arith
  move_counts (default y c) fs m = grind (arith, count_put y (fill_value c) m.slots, count_fill c)
  move_counts (map_leaf y f) fs m = let a = count_changed y (at_leaf (leaf_value f)) (count_leaf (leaf_value f)) m.slots in omega arith
  move_counts (nest ys y) fs m =
      let a = count_put y (open_record (those ys m.slots)) (others ys m.slots) in
      let b = count_parted ys m.slots in
      let c = count_without y m.rest in
      omega arith
  move_counts (unnest y) fs m =
      let a = count_put_all (inner_slots (under y m.slots)) (without y m.slots) in
      let b = count_inner (under y m.slots) in
      let c = count_without y m.slots in
      let d = count_parted (inner_names (under y fs)) m.rest in
      omega arith
  move_counts (wrap y) fs m = let a = count_changed y (λ v. list (item v no_item)) (λ v. omega arith) m.slots in omega arith
  move_counts (unify y f g) fs m = let h = unified f g (left_kind (under y fs)) in let a = count_changed y (at_side h) (count_side h) m.slots in omega arith
  move_counts op fs m = omega arith

  abbrev pub count_record : RecordParts → ℕ
  count_record v = nodes x (record_of v)

  common_counts : (op : FieldOp) (fs : List Field) (v : RecordParts) → count_record (with_moving v (move op fs (record { slots = v.fields; rest = v.rest }))) ≤ count_record v
  common_counts op fs v = let a = move_counts op fs (record { slots = v.fields; rest = v.rest }) in omega arith

  case_counts : (op : FieldOp) (l : List ℕ) (fs : List Field) (v : RecordParts) → count_record (if is_of_case l v.tag then with_moving_case v (move op fs (record { slots = v.cased; rest = v.rest })) else v) ≤ count_record v
  case_counts op l fs v = grind (arith, move_counts op fs (record { slots = v.cased; rest = v.rest }))

  -- what settles a field was among the unknown slots
  count_settled : (s : FieldType) (o : Option Typed) → of_some (settled_value s o) ≤ of_some o
  count_settled s o = grind arith

  count_fields : (fs : List Field) → has_twice (keys_of fs) ≡ false → (ss : List Slot) → count (by_field settled_value fs ss) ≤ count (those (keys_of fs) ss)
  count_fields [] h ss = omega arith
  count_fields (f ∷ fs) h ss =
      let s = split_or (is_among (keys_of fs) f.0) (has_twice (keys_of fs)) h in
      let a = count_bring f.0 (settled_value f.1 (under f.0 ss)) (by_field settled_value fs ss) in
      let b = count_settled f.1 (under f.0 ss) in
      let c = count_fields fs s.1 ss in
      let d = count_those f.0 (keys_of fs) s.0 ss in
      omega arith

  settle_counts : (fs : List Field) → has_twice (keys_of fs) ≡ false → (r : Rest) (v : RecordParts) → count_record (settle_case fs r v) ≤ count_record v
  settle_counts fs h r v = let a = count_fields fs h v.rest in let b = count_parted (keys_of fs) v.rest in grind (arith, a, b)

  retag_counts : (a b : List ℕ) (p : template.RecordParts) (C : Option template.Cases) → ((ds : List Field) → found_case a C ≡ Some ds → has_twice (keys_of ds) ≡ false) → (T : Option Tag) (v : RecordParts)
      → count_record (retag_value a b p C T v) ≤ count_record v
  retag_counts a b p (Some c) once (Some t) v = let s = settle_counts (fields_of_case a c) (by (under a c.1) refl) p.rest v in grind (arith, s)
    where
      by : (F : Option (List Field)) → under a c.1 ≡ F → has_twice (keys_of (unwrap_or F [])) ≡ false
      by None e = refl
      by (Some ds) e = once ds e
  retag_counts a b p None once T v = omega arith
  retag_counts a b p (Some c) once None v = omega arith

  more_counts : (b : List ℕ) (fs : List Field) → has_twice (keys_of fs) ≡ false → (r : Rest) (v : RecordParts) → count_record (if is_of_case b v.tag then settle_case fs r v else v) ≤ count_record v
  more_counts b fs once r v = grind (arith, settle_counts fs once r v)

  -- the names of a new case are distinct
  pub new_names : (b : List ℕ) (fs : List Field) (p r : template.RecordParts) → new_by (add_case b fs) common p ≡ Some r → has_twice (keys_of fs) ≡ false
  new_names b fs p r h =
      let c = then_some (λ c. option_map (with_cases p) (with_case b fs p.fields c)) p.choice r h in
      let m = mapped (with_cases p) (with_case b fs p.fields c.0) r c.2 in
      let e = (so (not (has b c.0.1) && (can_be_case fs p.fields c.0 && can_be_settled c.0.2 fs)) (c.0.0, put b (put_all fs []) c.0.1, c.0.2) m.0 m.1).0 in
      first_once (keys_of fs) (c.0.0 ∷ keys_of p.fields) (grind (arith, e))

  by_op : (op : FieldOp) (scope : Scope) (p r : template.RecordParts) (v : RecordParts) → IsRecord p.fields p.choice → new_by op scope p ≡ Some r → count_record (apply_by op scope p v) ≤ count_record v
  by_op (retag a b) scope p r v i h = retag_counts a b p p.choice (λ ds e. once_if_ascends ds (case_ascends p i a ds e)) v.tag v
  by_op (add_case b fs) common p r v i h = more_counts b fs (new_names b fs p r h) p.rest v
  by_op (add_case b fs) (in_case l) p r v i h = absurd (none_then (scoped (in_case l) p) r h)
  by_op op common p r v i h = common_counts op p.fields v
  by_op op (in_case l) p r v i h = case_counts op l (unwrap_or (found_case l p.choice) []) v

  pub applied_counts : (f : FieldFn) (p r : template.RecordParts) (v : RecordParts) → IsRecord p.fields p.choice → new_record f p ≡ Some r → count_record (apply f p v) ≤ count_record v
  applied_counts f p r v i h = by_op f.op f.scope p r v i h
