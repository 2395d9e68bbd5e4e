use Rattle.std.proofs.Common.{◌≡◌, ◌∙◌, List, map, sym, ap}
use Rattle.std.proofs.lemmas.Result.{IfOk-weaker}
use Rattle.mig_model.specs.Template.{Field}
use Rattle.mig_model.specs.Record.{Case}
use Rattle.mig_template.specs.View.{field_of, given_case}
use Rattle.mig_model.specs.Names.{without}
use Rattle.mig_func.proofs.Outcomes.{fault_map}
use Rattle.mig_func.proofs.Rebuilt.{case_made, case_twice}
use Rattle.mig_func.proofs.records.with_case.Goals as goal

pub returns : goal.returns
returns c =
    let p = c.args.on.now in
    let ch = c.args.choice.now in
    let es : List Field = map field_of c.args.list.items in
    let cs : List Case = map given_case c.in_ok-cases.cases.items in
    let same : cs ≡ without c.args.literal.now ch.1 = c.in_ok-cases.ensures ∙ ap (λ n. without n ch.1) c.bytes.ensures in
    let twice = case_twice p ch c.args.literal.now es c.keeps.ensures c.requires cs c.in_ok-name.name same c.in_ok-name.ensures in
    record {
      made = IfOk-weaker c.with_more.result _ _ (case_made p ch c.args.literal.now es c.keeps.ensures c.requires cs c.in_ok-name.name same c.in_ok-name.ensures) c.with_more.ensures.made;
      once = IfOk-weaker c.with_more.result _ _ (λ r h. sym twice ∙ h) c.with_more.ensures.once;
      misfit = fault_map c.with_more.result _ _ (λ h. sym twice ∙ h) c.with_more.ensures.misfit;
    }
