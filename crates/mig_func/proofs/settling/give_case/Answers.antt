use Rattle.std.proofs.Common.{◌≡◌, ℕ, List, [], true, false, map, ap, sym, subst, ◌∙◌}
use Rattle.std.specs.Map.{keys_of}
use Rattle.std.specs.Prelude.{IfOk, if◌then◌else◌}
use Rattle.mig_model.specs.declared.rest.Rest.{Rest}
use Rattle.mig_model.specs.Names.{has_twice, put_all, under}
use Rattle.mig_model.specs.Template.{Field}
use Rattle.mig_model.proofs.Rising.{nothing_ascends}
use Rattle.mig_template.proofs.Sorted.{once_if_ascends}
use Rattle.mig_value.specs.Parts.{RecordParts, IsRecordValue}
use Rattle.mig_field.specs.NewRecord.{FieldType}
use Rattle.mig_action.specs.Moves.{settle_case, is_of_case}
use Rattle.mig_model.proofs.Edits.{under-put_all, ascends-put_all, order_all}
use Rattle.mig_action.proofs.Settings.{first-none}
use Rattle.mig_action.proofs.Settling.{settle_in_order}
use Rattle.mig_model.proofs.OneOrder.{one_order}
use Rattle.mig_model.specs.Record.{IsOrderOf}
use Rattle.mig_func.proofs.Tests.{any_never}
use Rattle.mig_func.specs.Settled.{cased_value}
use Rattle.mig_func.proofs.settling.give_case.Goals as goal

-- the value's tag is the literal, and the order of the fields doesn't count
settled_is : (l : List ℕ) (fs ds : List Field) (r : Rest) (v : RecordParts) → is_of_case l v.tag ≡ true → has_twice (keys_of fs) ≡ false → ds ≡ put_all fs [] → cased_value l fs r v ≡ settle_case ds r v
settled_is l fs ds r v tag once is =
    ap (λ b. if b then settle_case fs r v else v) tag
    ∙ sym (settle_in_order (put_all fs []) fs (once_if_ascends (put_all fs []) (ascends-put_all fs [] (nothing_ascends FieldType))) once (λ n. under-put_all fs [] n ∙ first-none (under n fs)) r v)
    ∙ sym (ap (λ (l : List Field). settle_case l r v) is)

-- the fields in order, where none is there twice
order_is : (fs ds : List Field) → has_twice (keys_of fs) ≡ false → IsOrderOf fs ds → ds ≡ put_all fs []
order_is fs ds once given =
    let o : IsOrderOf fs (put_all fs []) = order_all [] fs (nothing_ascends FieldType) once (any_never (keys_of fs)) in
    one_order fs ds (put_all fs []) given.same o.same given.ascend o.ascend

pub settled-requires : goal.settled-requires
settled-requires c =
    let fs = c.args.fields.now in
    let ds = c.in-Some.fields.now in
    let tag = sym c.has_literal.ensures ∙ c.if-not-has_literal.false in
    subst IsRecordValue (settled_is c.args.literal.now fs ds c.args.openness c.args.given tag c.requires.once (order_is fs ds c.requires.once c.in-Some.ensures.some)) c.requires.parts

pub returns : goal.returns
returns c =
    let fs = c.args.fields.now in
    let ds = c.in-Some.fields.now in
    let tag = sym c.has_literal.ensures ∙ c.if-not-has_literal.false in
    subst (λ x. IfOk c.settled.result (λ w. w ≡ x))
    (sym (settled_is c.args.literal.now fs ds c.args.openness c.args.given tag c.requires.once (order_is fs ds c.requires.once c.in-Some.ensures.some))) c.settled.ensures
