use Rattle.std.proofs.Common.{◌≡◌, ◌∙◌, List, map, ap}
use Rattle.std.proofs.lemmas.Result.{IfOk-weaker}
use Rattle.mig_model.specs.Template.{Field}
use Rattle.mig_model.specs.Record.{Case}
use Rattle.mig_template.specs.View.{field_of, given_case}
use Rattle.mig_model.specs.Names.{without}
use Rattle.mig_func.proofs.Outcomes.{fault_map}
use Rattle.mig_func.proofs.CaseTargets.{retag_made, retag_never}
use Rattle.mig_func.proofs.retags.retag_case.Goals as goal

pub returns : goal.returns
returns c =
    let p = c.args.on.now in
    let ch = c.args.choice.now in
    let es : List Field = map field_of c.into_vec-list.result.items in
    let cs : List Case = map given_case c.in_ok-cases.cases.items in
    let same : cs ≡ without c.args.from.now ch.1 = c.in_ok-cases.ensures ∙ ap (λ n. without n ch.1) c.bytes.ensures in
    let copied : es ≡ c.args.fields.now = c.into_vec-list.ensures.fields ∙ c.in_ok-copy.ensures in
    let made = retag_made p ch c.args.from.now c.args.to.now c.args.fields.now c.keeps.ensures c.requires.same c.requires.found c.requires.apart cs c.in_ok-literal.literal es same c.in_ok-literal.ensures copied in
    let never = retag_never p ch c.args.from.now c.args.to.now c.args.fields.now c.keeps.ensures c.requires.same c.requires.found c.requires.apart cs c.in_ok-literal.literal es same c.in_ok-literal.ensures copied in
    record {
      made = IfOk-weaker c.with_more.result _ _ (made c.requires.settles) c.with_more.ensures.made;
      misfit = fault_map c.with_more.result _ _ (λ h. absurd (never h)) c.with_more.ensures.misfit;
    }
