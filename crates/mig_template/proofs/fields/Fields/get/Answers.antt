use Rattle.std.proofs.Common.{◌∙◌, sym, ap, rules, arith}
use Rattle.std.proofs.lemmas.Cmp.{nat_list_cmp_total}
use Rattle.std.proofs.lemmas.Map.Lookups.{exact_bytes}
use Rattle.mig_model.proofs.Searches.{found_there, key_there, not_found}
use Rattle.mig_model.specs.Names.{under}
use Rattle.mig_template.specs.View.{field_of}
use Rattle.mig_template.proofs.fields.Fields.get.Goals as goal

pub returns-in-Ok-clause-found : goal.returns-in-Ok-clause-found
returns-in-Ok-clause-found c =
    sym (found_there nat_list_cmp_total field_of c.args.name.now c.self.inside.list.items c.in-Ok.at c.index.result.now (grind arith) (grind arith) (search rules))
    ∙ ap (under c.args.name.now) c.self.view_is

pub returns-in-Err-clause-found : goal.returns-in-Err-clause-found
returns-in-Err-clause-found c =
    sym (not_found nat_list_cmp_total field_of c.args.name.now c.self.inside.list.items c.in-Err.field-0 c.self.invariant.0.0 (grind arith)) ∙ ap (under c.args.name.now) c.self.view_is

pub returns-in-Ok-clause-name : goal.returns-in-Ok-clause-name
returns-in-Ok-clause-name c =
    key_there exact_bytes field_of c.args.name.now c.self.inside.list.items c.in-Ok.at c.index.result.now (grind arith) (grind arith) (search rules)
