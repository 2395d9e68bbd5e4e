use Rattle.std.proofs.Common.{◌≡◌, ◌+◌, ◌++◌, ◌∷◌, [], map, take, sym, subst}
use Rattle.mig_model.specs.Template.{fields_of}
use Rattle.mig_model.specs.TemplateKept.{FieldsKept}
use Rattle.mig_template.specs.View.{field_of}
use Rattle.mig_template.proofs.Alike.{one_more}
use Rattle.mig_template.proofs.KeepMore.{field_keeps_more}
use Rattle.mig_template.proofs.ordering.fields_are_kept.Goals as goal

pub loop-field-preserved : goal.loop-field-preserved
loop-field-preserved c =
    let xs = c.args.list.now in
    let i = c.loop-field.field-index in
    let item = c.field-item.result in
    let more : map field_of (take (i + 1) xs) ≡ map field_of (take i xs) ++ field_of item ∷ [] = one_more field_of xs i item c.loop-field-test.true c.field-item.is in
    subst (λ l. FieldsKept (fields_of l)) (sym more) (field_keeps_more (map field_of (take i xs)) (field_of item) c.loop-field.invariant c.keeps.ensures)
