use Rattle.std.proofs.Common.{map}
use Rattle.mig_template.specs.View.{field_of, given_case}
use Rattle.mig_func.proofs.Outcomes.{ok_map2, fault_map}
use Rattle.mig_func.proofs.CaseTargets.{new_case_made, new_case_twice}
use Rattle.mig_func.proofs.retags.add_case.Goals as goal

pub returns : goal.returns
returns c =
    let p = c.args.on.now in
    let fs = map field_of c.args.fields.now in
    let es = map field_of c.in_ok-list.list.items in
    let cs = map given_case c.in_ok-cases.cases.items in
    let made = new_case_made p c.args.choice.now c.args.literal.now fs c.keeps.ensures c.requires.same c.requires.apart cs c.in_ok-name.name es c.in_ok-cases.ensures c.in_ok-name.ensures c.in_ok-list.ensures in
    let twice = new_case_twice p c.args.choice.now c.args.literal.now fs c.keeps.ensures c.requires.same c.requires.apart cs c.in_ok-name.name es c.in_ok-cases.ensures c.in_ok-name.ensures c.in_ok-list.ensures in
    record {
      made = ok_map2 c.with_more.result _ _ _ (made c.requires.settles c.requires.clear) c.with_more.ensures.made c.with_more.ensures.once;
      misfit = fault_map c.with_more.result _ _ twice c.with_more.ensures.misfit;
    }
