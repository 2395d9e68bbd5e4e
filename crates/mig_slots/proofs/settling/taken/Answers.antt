use Rattle.std.proofs.Common.{◌≡◌, ◌+◌, ◌∷◌, ◌++◌, ◌∙◌, List, map, drop, refl, sym, ap, subst, append-nil, arith}
use Rattle.std.specs.Prelude.{option_map}
use Rattle.std.specs.Map.{keys_of}
use Rattle.std.proofs.Math.ListN.{drop_of_length-le}
use Rattle.std.proofs.lemmas.List.{drop_more}
use Rattle.mig_model.specs.Names.{Ascends, same_name, is_among, under}
use Rattle.mig_model.specs.Template as template
use Rattle.mig_template.specs.View.{field_of}
use Rattle.mig_template.specs.declared.fields.Field.{Field}
use Rattle.mig_value.specs.View.{typed_of, slot_of}
use Rattle.mig_action.specs.Moves.{settled_value}
use Rattle.mig_slots.proofs.Taking.{collected, collected_is, one_more, among_at, ascends_drop}
use Rattle.mig_slots.proofs.settling.taken.Goals as goal

pub loop-field-preserved : goal.loop-field-preserved
loop-field-preserved c =
    let xs = c.as_slice-field-items.result.now in
    let f = c.field-item.result in
    let behind = drop (c.loop-field.field-index + 1) xs in
    let here : drop c.loop-field.field-index xs ≡ f ∷ behind = drop_more xs c.loop-field.field-index f c.loop-field-test.true ∙ ap (λ (x : Field). x ∷ behind) (sym c.field-item.is) in
    let all = collected settled_value c.args.fields.now (map slot_of c.args.given.items) in
    let before = map slot_of c.loop-field.rest.items in
    let after = map slot_of c.take_named-value.new.slots.items in
    let ascends = subst (λ (l : List Field). Ascends (map field_of l)) here (ascends_drop xs c.loop-field.field-index (subst Ascends (sym c.as_slice-field-items.ensures.fields) c.as_slice-field-items.ensures.keep.0)) in
    record {
      taken = one_more settled_value (field_of f) (map field_of behind) all before after (map slot_of c.loop-field.list.items) (map slot_of c.push_slot.new.slots.items) (option_map typed_of c.settled_value.result) ascends
          (ap (λ (l : List Field). map slot_of c.loop-field.list.items ++ collected settled_value (map field_of l) before) (sym here) ∙ c.loop-field.invariant.taken)
          c.in_ok-push_slot.ensures
          (c.settled_value.ensures ∙ ap (settled_value (field_of f).1) (c.take_named-value.ensures.taken ∙ ap (λ n. under n before) c.bytes.ensures))
          (λ n h. c.take_named-value.ensures.elsewhere n (ap (same_name n) c.bytes.ensures ∙ h));
      others = c.take_named-value.ensures.others (keys_of c.args.fields.now) (grind (arith, ap (is_among (keys_of c.args.fields.now)) c.bytes.ensures, ap (λ (l : List template.Field). is_among (keys_of l) f.name) (sym c.as_slice-field-items.ensures.fields), among_at xs c.loop-field.field-index f behind here)) ∙ c.loop-field.invariant.others;
      ascend = c.take_named-value.ensures.ascend;
    }

pub returns-clause-taken : goal.returns-clause-taken
returns-clause-taken c =
    let xs = c.as_slice-field-items.result.now in
    let given = map slot_of c.args.given.items in
    let list = map slot_of c.loop-field.list.items in
    sym (append-nil list)
    ∙ ap (λ fs. list ++ collected settled_value fs (map slot_of c.loop-field.rest.items)) (sym (ap (λ (l : List Field). map field_of l) (drop_of_length-le xs c.loop-field-test.false)))
    ∙ c.loop-field.invariant.taken
    ∙ sym (collected_is settled_value c.args.fields.now given (subst Ascends refl c.as_slice-field-items.ensures.keep.0))
