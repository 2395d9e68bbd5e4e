use Rattle.std.proofs.Common.{◌≡◌, ◌∙◌, get_or, Some, sym, ap, rules, arith}
use Rattle.std.proofs.lemmas.Cmp.{nat_list_cmp_total}
use Rattle.mig_model.proofs.Searches.{found_there, not_found}
use Rattle.mig_template.specs.View.{case_of}
use Rattle.mig_template.specs.declared.record.Case.{Case}
use Rattle.mig_template.proofs.case_search.find_case.Goals as goal

pub returns-in-Ok : goal.returns-in-Ok
returns-in-Ok c =
    let case = c.index-cases-at.result in
    let is : case ≡ get_or c.args.cases.now c.in-Ok.at case = search rules in
    ap (λ (d : Case). Some d.fields) (sym is) ∙ sym (found_there nat_list_cmp_total case_of c.args.literal.now c.args.cases.now c.in-Ok.at case (grind arith) (grind arith) is)

pub returns-in-Err : goal.returns-in-Err
returns-in-Err c = sym (not_found nat_list_cmp_total case_of c.args.literal.now c.args.cases.now c.in-Err.field-0 c.requires (grind arith))
