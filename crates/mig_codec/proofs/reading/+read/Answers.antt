use Rattle.std.proofs.Common.{rules, ◌≡◌, ◌∙◌, ◌*◌, ◌++◌, ◌∷◌, [], List, map, length, None, true, false, refl, sym, ap, subst, arith}
use Rattle.std.specs.Prelude.{option_map}
use Rattle.mig_model.specs.Place.{place_under, wrong_item}
use Rattle.mig_model.specs.Plain as plain
use Rattle.mig_model.specs.Plain.{Plain, size, items_size, entries_size, trees_of, pairs_of}
use Rattle.mig_model.specs.Kinds.{kind_of}
use Rattle.mig_model.specs.Template as model
use Rattle.mig_model.specs.Template.{has_kind}
use Rattle.mig_model.specs.Inhabits.{is_in_form, items_in_form, entries_in_form}
use Rattle.mig_model.specs.Record.{record_of}
use Rattle.mig_template.specs.View.{template_of}
use Rattle.std.proofs.lemmas.List.{length-map}
use Rattle.std.proofs.lemmas.List.{map-append}
use Rattle.mig_tree.specs.View.{plain_of, entry_of}
use Rattle.mig_tree.specs.declared.tree.Tree.{Tree}
use Rattle.mig_tree.specs.declared.entries.Entry.{Entry}
use Rattle.mig_tree.specs.declared.place.Step.TheVariants as S
use Rattle.mig_value.specs.Typed as typed
use Rattle.mig_value.specs.Typed.{items_of}
use Rattle.mig_value.specs.Parts as values
use Rattle.mig_value.specs.View.{typed_of}
use Rattle.mig_tree.specs.Place.{step_of}
use Rattle.mig_codec.specs.Reading.{wrong_part, StopsAt, IsRead, IsNodeRead}
use Rattle.mig_codec.specs.Parted.{HasTag, IsRowRead, pieces_of, added, below_name, wrong_pair, wrong_row}
use Rattle.mig_row.specs.Row.{common, cased, belongs, missing_in}
use Rattle.mig_row.specs.RowView.{row_view, missing_view, earlier, or_first}
use Rattle.mig_row.proofs.Belonging.{common_found, cased_found}
use Rattle.mig_codec.proofs.Forms.{list_form, item_form, entry_form}
use Rattle.mig_codec.proofs.Gathered.{GatheredItems, Gathered}
use Rattle.mig_codec.proofs.ItemLoop.{one_more_item, item_wrong}
use Rattle.mig_codec.proofs.PairLoop.{pair_in_hand}
use Rattle.mig_model.proofs.Loops.{in_hand, all_behind}
use Rattle.mig_codec.proofs.Measures.{less_work, less_tree, item_within, entry_within, rank_body, rank_side, width}
use Rattle.mig_codec.proofs.PartsOf.{list_part, body_part, sum_parts}
use Rattle.mig_codec.proofs.RowEnd.{record_end, row_end}
use Rattle.mig_codec.proofs.RowLoop.{one_more_pair}
use Rattle.mig_codec.proofs.ReadOf.{list_stops, list_read, node_stops, node_read, point_read, left_read, right_read, record_read, tag_at, pair_stops}
use Rattle.mig_codec.proofs.RowOf.{row_case, row_is_row, row_has_tag, wrong_as_row, wrong_at_tag}
use Rattle.mig_codec.proofs.Stops.{stop_passes, passed, passed_node}
use Rattle.mig_codec.proofs.reading.+read.Goals as goal

pub read_entry-read_under-requires : goal.read_entry-read_under-requires
read_entry-read_under-requires t c =
    let f = c.args.family.now in
    let V = template_of c.in-Common.template.now in
    let here : belongs (row_view c.args.row.now) c.args.entry.name ≡ common V = ap (belongs (row_view c.args.row.now)) (sym c.bytes.ensures) ∙ sym c.in-Common.ensures in
    let found = common_found (row_view c.args.row.now) c.args.entry.name V here in
    let part = c.requires.row.fields c.args.entry.name found.0 V found.1 in
    (omega (arith, less_work f V (plain_of c.args.entry.tree) (size (plain_of c.args.entry.tree)) part.size (omega arith)), (part, c.requires.form))

pub read_entry-read_under-requires-in-Cased : goal.read_entry-read_under-requires-in-Cased
read_entry-read_under-requires-in-Cased t c =
    let f = c.args.family.now in
    let V = template_of c.in-Cased.template.now in
    let here : belongs (row_view c.args.row.now) c.args.entry.name ≡ cased V = ap (belongs (row_view c.args.row.now)) (sym c.bytes.ensures) ∙ sym c.in-Cased.ensures in
    let found = cased_found (row_view c.args.row.now) c.args.entry.name V here in
    let part = c.requires.row.cased c.args.entry.name found.0 V found.1 in
    (omega (arith, less_work f V (plain_of c.args.entry.tree) (size (plain_of c.args.entry.tree)) part.size (omega arith)), (part, c.requires.form))

pub read_items-read_part-requires : goal.read_items-read_part-requires
read_items-read_part-requires t c =
    let f = c.args.family.now in
    let V = template_of c.args.part.now in
    let all = c.into_vec-item-items.result.items in
    let here = in_hand c.into_iter-item-iterator.result c.loop-item.item-iterator c.next.new.self all c.loop-item.yielded c.in-Some.item c.into_iter-item-iterator.ensures.into_iter_gives.0 (search rules) c.loop-item.yielded_by c.next.result c.in-Some.is c.next.ensures.steps in
    let within = item_within all c.loop-item.yielded c.in-Some.item here in
    let items = c.into_vec-item-items.ensures.items in
    let form : items_in_form f.form (trees_of (map plain_of all)) ≡ true = ap (λ ts. items_in_form f.form (trees_of ts)) items ∙ c.requires.form in
    (omega (arith, less_work f V (plain_of c.in-Some.item) (items_size (map plain_of all)) c.requires.part.size within, ap (λ ts. items_size ts * width f) items), (c.requires.part, item_form f.form all c.loop-item.yielded c.in-Some.item here form))

pub read_items-loop-item-preserved : goal.read_items-loop-item-preserved
read_items-loop-item-preserved t c =
    let f = c.args.family.now in
    let V = template_of c.args.part.now in
    let ys = c.loop-item.yielded in
    let vs = c.loop-item.values.items in
    let trees : map plain_of (ys ++ c.in-Some.item ∷ []) ≡ map plain_of ys ++ plain_of c.in-Some.item ∷ [] = map-append plain_of ys (c.in-Some.item ∷ []) in
    let values : map typed_of c.push.new.self.items ≡ map typed_of vs ++ typed_of c.in-Ok.value ∷ [] = ap (map typed_of) c.in_ok-push-in-Ok.ensures.items ∙ map-append typed_of vs (c.in-Ok.value ∷ []) in
    subst (λ ts. GatheredItems f V ts (map typed_of c.push.new.self.items)) (sym trees)
    (subst (GatheredItems f V (map plain_of ys ++ plain_of c.in-Some.item ∷ [])) (sym values) (one_more_item f V (map plain_of ys) (map typed_of vs) (plain_of c.in-Some.item) (typed_of c.in-Ok.value) c.loop-item.invariant c.in-Ok.ensures))

pub read_items-returns-in-Err : goal.read_items-returns-in-Err
read_items-returns-in-Err t c =
    let f = c.args.family.now in
    let V = template_of c.args.part.now in
    let all = c.into_vec-item-items.result.items in
    let ys = c.loop-item.yielded in
    let x = c.in-Some.item in
    let here = in_hand c.into_iter-item-iterator.result c.loop-item.item-iterator c.next.new.self all ys x c.into_iter-item-iterator.ensures.into_iter_gives.0 (search rules) c.loop-item.yielded_by c.next.result c.in-Some.is c.next.ensures.steps in
    let whole : c.args.items ≡ map plain_of ys ++ plain_of x ∷ map plain_of here.0 = sym c.into_vec-item-items.ensures.items ∙ ap (λ (l : List Tree). map plain_of l) here.1 ∙ map-append plain_of ys (x ∷ here.0) in
    let count : length (map plain_of ys) ≡ c.len-in-Err.result = omega (arith, c.loop-item.invariant.count, length-map c.loop-item.values.items typed_of, c.len-in-Err.ensures) in
    subst (λ ts. StopsAt c.below.result (wrong_item (wrong_part f V) 0 ts)) (sym whole)
    (stop_passes c.in-Err.stop c.below.result (λ o. option_map (λ p. step_of (S.Index c.len-in-Err.result) ∷ p) o) refl c.below.ensures (wrong_part f V (plain_of x)) (wrong_item (wrong_part f V) 0 (map plain_of ys ++ plain_of x ∷ map plain_of here.0)) c.in-Err.ensures
    (λ p e. ap (λ o. option_map (λ q. step_of (S.Index c.len-in-Err.result) ∷ q) o) e ∙ sym (item_wrong (wrong_part f V) (map plain_of ys) (map plain_of here.0) (plain_of x) c.len-in-Err.result p c.loop-item.invariant.right count e)))

pub read_list-read_items-requires : goal.read_list-read_items-requires
read_list-read_items-requires t c =
    let f = c.args.family.now in
    let V = template_of c.args.part.now in
    let ts = c.in-List.items in
    let tree : plain_of c.args.tree ≡ plain.list (trees_of ts) = ap (λ (u : Tree). plain_of u) c.in-List.is in
    let form : is_in_form f.form (plain.list (trees_of ts)) ≡ true = ap (is_in_form f.form) (sym tree) ∙ c.requires.form in
    (omega (arith, ap (λ u. size u * width f) tree), (list_part f V c.requires.part, list_form f.form ts form))

pub read_list-returns-in_err-values-in-List : goal.read_list-returns-in_err-values-in-List
read_list-returns-in_err-values-in-List t c =
    let f = c.args.family.now in
    let V = template_of c.args.part.now in
    let ts = c.in-List.items in
    passed f (model.list V) (plain_of c.args.tree) c.in_err-values-in-List.field-0.0 c.from_residual.result c.from_residual.ensures
    (subst (λ (u : Tree). StopsAt c.in_err-values-in-List.field-0.0 (wrong_part f (model.list V) (plain_of u))) (sym c.in-List.is) (subst (StopsAt c.in_err-values-in-List.field-0.0) (list_stops f V ts) c.in_err-values-in-List.ensures))

pub read_list-returns-in_ok-values-in-List : goal.read_list-returns-in_ok-values-in-List
read_list-returns-in_ok-values-in-List t c =
    let f = c.args.family.now in
    let V = template_of c.args.part.now in
    let vs = c.in_ok-values-in-List.values in
    subst (λ (u : Tree). IsRead f (model.list V) (plain_of u) (typed.list (items_of vs))) (sym c.in-List.is) (list_read f V c.in-List.items vs c.in_ok-values-in-List.ensures)

pub read_map-read_row-requires : goal.read_map-read_row-requires
read_map-read_row-requires t c =
    let f = c.args.family.now in
    let p = c.args.schema.now in
    let es = c.in-Map.entries in
    let row = row_view c.in-Some.row in
    let case = row_case p es row (sym c.in-Some.ensures) in
    let tree : plain_of c.args.tree ≡ plain.map (pairs_of es) = ap (λ (u : Tree). plain_of u) c.in-Map.is in
    let form : is_in_form f.form (plain.map (pairs_of es)) ≡ true = ap (is_in_form f.form) (sym tree) ∙ c.requires.form in
    (omega (arith, ap (λ u. size u * width f) tree), (row_is_row f p es row c.requires.part c.keeps.ensures case, (row_has_tag p es row case, form)))

pub read_map-returns-in_err-parts-in-Some : goal.read_map-returns-in_err-parts-in-Some
read_map-returns-in_err-parts-in-Some t c =
    let f = c.args.family.now in
    let p = c.args.schema.now in
    let es = c.in-Map.entries in
    let row = row_view c.in-Some.row in
    let stop = c.in_err-parts-in-Some.field-0.0 in
    let case = row_case p es row (sym c.in-Some.ensures) in
    passed f (record_of p) (plain_of c.args.tree) stop c.from_residual.result c.from_residual.ensures
    (subst (λ (u : Tree). StopsAt stop (wrong_part f (record_of p) (plain_of u))) (sym c.in-Map.is) (subst (StopsAt stop) (sym (wrong_as_row f p es row case)) c.in_err-parts-in-Some.ensures))

pub read_map-returns-in-Some : goal.read_map-returns-in-Some
read_map-returns-in-Some t c =
    let f = c.args.family.now in
    let p = c.args.schema.now in
    let es = c.in-Map.entries in
    let row = row_view c.in-Some.row in
    let case = row_case p es row (sym c.in-Some.ensures) in
    let r = c.in_ok-parts-in-Some.parts in
    subst (λ (u : Tree). IsRead f (record_of p) (plain_of u) (values.record_of r)) (sym c.in-Map.is) (record_read f p es row r case c.in_ok-parts-in-Some.ensures)

pub read_map-returns-in-Map : goal.read_map-returns-in-Map
read_map-returns-in-Map t c =
    let f = c.args.family.now in
    let p = c.args.schema.now in
    let es = c.in-Map.entries in
    subst (λ (u : Tree). StopsAt c.no_literal.result (wrong_part f (record_of p) (plain_of u))) (sym c.in-Map.is) (subst (StopsAt c.no_literal.result) (sym (wrong_at_tag f p es (sym c.in-None.ensures))) c.no_literal.ensures)

pub read_node-read_part-requires : goal.read_node-read_part-requires
read_node-read_part-requires t c =
    let f = c.args.family.now in
    let V = template_of c.in-Some.body.now in
    let part = body_part f c.keeps.ensures.formed c.args.name.now V (sym c.in-Some.ensures) in
    (omega (arith, rank_body f V part.1 part.0.size), (part.0, c.requires))

pub read_node-returns-in_err-value-in-Some : goal.read_node-returns-in_err-value-in-Some
read_node-returns-in_err-value-in-Some t c =
    let f = c.args.family.now in
    let V = template_of c.in-Some.body.now in
    let stop = c.in_err-value-in-Some.field-0.0 in
    passed_node f c.args.name.now (plain_of c.args.tree) stop c.from_residual-in_err-value-in-Some.result c.from_residual-in_err-value-in-Some.ensures
    (subst (StopsAt stop) (node_stops f c.keeps.ensures.formed c.args.name.now V (sym c.in-Some.ensures) (plain_of c.args.tree)) c.in_err-value-in-Some.ensures)

pub read_node-returns-in_ok-value-in-Some : goal.read_node-returns-in_ok-value-in-Some
read_node-returns-in_ok-value-in-Some t c =
    let f = c.args.family.now in
    let n = c.args.name.now in
    let V = template_of c.in-Some.body.now in
    let v = typed_of c.in_ok-value-in-Some.value in
    let made : c.new.result ≡ (n, v) = c.new.ensures ∙ ap (λ m. (m, v)) c.in_ok-name_copy.ensures in
    subst (IsNodeRead f n (plain_of c.args.tree)) (sym made) (node_read f c.keeps.ensures.formed n V (sym c.in-Some.ensures) (plain_of c.args.tree) v c.in_ok-value-in-Some.ensures)

pub read_sum-read_part-requires : goal.read_sum-read_part-requires
read_sum-read_part-requires t c =
    let f = c.args.family.now in
    let side = (sum_parts f (template_of c.args.left.now) (template_of c.args.right.now) c.requires.part).0 in
    (omega (arith, rank_side f (template_of c.args.left.now) side.1), (side.0, c.requires.form))

pub read_sum-read_part-requires-then-has-2 : goal.read_sum-read_part-requires-then-has-2
read_sum-read_part-requires-then-has-2 t c =
    let f = c.args.family.now in
    let side = (sum_parts f (template_of c.args.left.now) (template_of c.args.right.now) c.requires.part).1 in
    (omega (arith, rank_side f (template_of c.args.right.now) side.1), (side.0, c.requires.form))

pub read_row-read_entry-requires : goal.read_row-read_entry-requires
read_row-read_entry-requires t c =
    let f = c.args.family.now in
    let row = row_view c.args.row.now in
    let all = c.into_vec-entry-items.result.items in
    let ys = c.loop-entry.yielded in
    let x = c.in-Some.entry in
    let here = pair_in_hand c.args.entries all ys x c.into_vec-entry-items.ensures.pairs c.into_vec-entry-items.ensures.keep.0
    (in_hand c.into_iter-entry-iterator.result c.loop-entry.entry-iterator c.next.new.self all ys x c.into_iter-entry-iterator.ensures.into_iter_gives.0 (search rules) c.loop-entry.yielded_by c.next.result c.in-Some.is c.next.ensures.steps) in
    let pairs = c.into_vec-entry-items.ensures.pairs in
    let within = entry_within all ys x (here.behind, here.is) in
    let form : entries_in_form f.form (pairs_of (map entry_of all)) ≡ true = ap (λ es. entries_in_form f.form (pairs_of es)) pairs ∙ c.requires.form in (
      omega (arith, less_tree f (plain_of x.tree) (entries_size (map entry_of all)) within, ap (λ es. entries_size es * width f) pairs),
      (c.requires.row, (tag_at row (map entry_of ys) (map entry_of here.behind) x.name (plain_of x.tree) (subst (HasTag row.tag) here.whole c.requires.tag) here.sorted, entry_form f.form all ys x (here.behind, here.is) form)),
    )

pub read_row-loop-entry-preserved : goal.read_row-loop-entry-preserved
read_row-loop-entry-preserved t c =
    let f = c.args.family.now in
    let row = row_view c.args.row.now in
    let all = c.into_vec-entry-items.result.items in
    let ys = c.loop-entry.yielded in
    let x = c.in-Some.entry in
    let here = pair_in_hand c.args.entries all ys x c.into_vec-entry-items.ensures.pairs c.into_vec-entry-items.ensures.keep.0
    (in_hand c.into_iter-entry-iterator.result c.loop-entry.entry-iterator c.next.new.self all ys x c.into_iter-entry-iterator.ensures.into_iter_gives.0 (search rules) c.loop-entry.yielded_by c.next.result c.in-Some.is c.next.ensures.steps) in
    let more : map entry_of (ys ++ x ∷ []) ≡ map entry_of ys ++ entry_of x ∷ [] = map-append entry_of ys (x ∷ []) in
    let made : pieces_of c.add.new.self ≡ added (pieces_of c.loop-entry.pieces) c.in-Ok.placed = c.in_ok-add-in-Ok.ensures in
    subst (λ es. Gathered f row es (pieces_of c.add.new.self)) (sym more)
    (subst (Gathered f row (map entry_of ys ++ entry_of x ∷ [])) (sym made)
    (one_more_pair f row (map entry_of ys) (pieces_of c.loop-entry.pieces) c.loop-entry.invariant x.name (plain_of x.tree) (map entry_of here.behind) here.sorted c.in-Ok.placed c.in-Ok.ensures))

pub read_row-returns-in-Err : goal.read_row-returns-in-Err
read_row-returns-in-Err t c =
    let f = c.args.family.now in
    let row = row_view c.args.row.now in
    let all = c.into_vec-entry-items.result.items in
    let ys = c.loop-entry.yielded in
    let x = c.in-Some.entry in
    let here = pair_in_hand c.args.entries all ys x c.into_vec-entry-items.ensures.pairs c.into_vec-entry-items.ensures.keep.0
    (in_hand c.into_iter-entry-iterator.result c.loop-entry.entry-iterator c.next.new.self all ys x c.into_iter-entry-iterator.ensures.into_iter_gives.0 (search rules) c.loop-entry.yielded_by c.next.result c.in-Some.is c.next.ensures.steps) in
    let before = missing_view c.earlier-before.result in
    let is : before ≡ earlier x.name (missing_in row (map entry_of ys ++ entry_of x ∷ map entry_of here.behind)) =
    c.earlier-before.ensures ∙ (λ i. earlier (c.bytes.ensures i) (c.missing-missing.ensures i)) ∙ ap (λ es. earlier x.name (missing_in row es)) here.whole in
    subst (λ es. StopsAt c.first_of.result (wrong_row f row es)) (sym here.whole)
    (stop_passes c.in-Err.stop c.first_of.result (or_first before) refl c.first_of.ensures (place_under (below_name x.name (wrong_pair f row x.name (plain_of x.tree)))) (wrong_row f row (map entry_of ys ++ entry_of x ∷ map entry_of here.behind)) c.in-Err.ensures
    (pair_stops f row (map entry_of ys) (map entry_of here.behind) x.name (plain_of x.tree) before c.loop-entry.invariant.right is))

pub read_row-into_record-requires : goal.read_row-into_record-requires
read_row-into_record-requires t c =
    let f = c.args.family.now in
    let row = row_view c.args.row.now in
    let all = c.into_vec-entry-items.result.items in
    let done = all_behind c.into_iter-entry-iterator.result c.loop-entry.entry-iterator c.next.new.self all c.loop-entry.yielded c.into_iter-entry-iterator.ensures.into_iter_gives.0 (search rules) c.loop-entry.yielded_by c.next.result c.in-None.is c.next.ensures.steps in
    let whole : map entry_of c.loop-entry.yielded ≡ c.args.entries = ap (λ (l : List Entry). map entry_of l) done ∙ c.into_vec-entry-items.ensures.pairs in
    record_end f row c.args.entries (pieces_of c.loop-entry.pieces) (subst (λ es. Gathered f row es (pieces_of c.loop-entry.pieces)) whole c.loop-entry.invariant) c.into_vec-entry-items.ensures.keep.0

pub read_row-returns : goal.read_row-returns
read_row-returns t c =
    let f = c.args.family.now in
    let row = row_view c.args.row.now in
    let all = c.into_vec-entry-items.result.items in
    let done = all_behind c.into_iter-entry-iterator.result c.loop-entry.entry-iterator c.next.new.self all c.loop-entry.yielded c.into_iter-entry-iterator.ensures.into_iter_gives.0 (search rules) c.loop-entry.yielded_by c.next.result c.in-None.is c.next.ensures.steps in
    let whole : map entry_of c.loop-entry.yielded ≡ c.args.entries = ap (λ (l : List Entry). map entry_of l) done ∙ c.into_vec-entry-items.ensures.pairs in
    let none : missing_in row c.args.entries ≡ None = sym c.missing-missing.ensures ∙ ap missing_view c.in-None-missing.is in
    subst (IsRowRead f row c.args.entries) (sym c.in_ok-parts-in-None-missing.ensures)
    (row_end f row c.args.entries (pieces_of c.loop-entry.pieces) (subst (λ es. Gathered f row es (pieces_of c.loop-entry.pieces)) whole c.loop-entry.invariant) c.into_vec-entry-items.ensures.keep.0 c.requires.row none)

pub read_part-returns-in_ok-new-in-Point : goal.read_part-returns-in_ok-new-in-Point
read_part-returns-in_ok-new-in-Point t c =
    let f = c.args.family.now in
    let u = plain_of c.args.tree in
    let is : template_of c.args.template.now ≡ model.point c.in-Point.name = ap template_of c.in-Point.is in
    let node : c.in_ok-new-in-Point.field-0.value ≡ c.in_ok-node-in-Point.node = c.in_ok-new-in-Point.ensures.ok in
    subst (λ V. IsRead f V u (typed.point c.in_ok-new-in-Point.field-0.value.0 c.in_ok-new-in-Point.field-0.value.1)) (sym is)
    (subst (λ (v : values.NodeParts). IsRead f (model.point c.in-Point.name) u (typed.point v.0 v.1)) (sym node) (point_read f c.in-Point.name u c.in_ok-node-in-Point.node c.in_ok-node-in-Point.ensures))

pub read_sum-returns-then-has : goal.read_sum-returns-then-has
read_sum-returns-then-has t c =
    let f = c.args.family.now in
    let V = template_of c.args.left.now in
    let W = template_of c.args.right.now in
    let u = plain_of c.args.tree in
    let kind : has_kind f.form V (kind_of u) ≡ true = (λ i. has_kind (sym c.form.ensures i) V (sym c.kind-kind.ensures i)) ∙ sym (c.kinds.ensures c.kind-kind.result) ∙ sym c.has.ensures ∙ c.if-has.true in
    subst (λ v. IsRead f (model.sum V W) u (typed.left v)) (sym c.in_ok-new.ensures) (left_read f V W u (typed_of c.in_ok-value.value) kind c.in_ok-value.ensures)

pub read_sum-returns-then-has-2 : goal.read_sum-returns-then-has-2
read_sum-returns-then-has-2 t c =
    let f = c.args.family.now in
    let V = template_of c.args.left.now in
    let W = template_of c.args.right.now in
    let u = plain_of c.args.tree in
    let kind : has_kind f.form V (kind_of u) ≡ false = (λ i. has_kind (sym c.form.ensures i) V (sym c.kind-kind.ensures i)) ∙ sym (c.kinds.ensures c.kind-kind.result) ∙ sym c.has.ensures ∙ c.if-has.false in
    let other : has_kind f.form W (kind_of u) ≡ true = (λ i. has_kind (sym c.form-2.ensures i) W (sym c.kind-kind.ensures i)) ∙ sym (c.kinds-2.ensures c.kind-kind.result) ∙ sym c.has-2.ensures ∙ c.if-has-2.true in
    subst (λ v. IsRead f (model.sum V W) u (typed.right v)) (sym c.in_ok-new-2.ensures) (right_read f V W u (typed_of c.in_ok-value-2.value) kind other c.in_ok-value-2.ensures)
