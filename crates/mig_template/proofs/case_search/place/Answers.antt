use Rattle.std.proofs.lemmas.Cmp.{nat_list_cmp_total}
use Rattle.mig_model.proofs.Searches.{searched}
use Rattle.mig_template.specs.View.{case_of}
use Rattle.mig_template.proofs.case_search.place.Goals as goal

pub returns-clause-place : goal.returns-clause-place
returns-clause-place c = searched nat_list_cmp_total case_of c.args.literal.now c.args.cases.now c.place_by_key.result c.requires c.place_by_key.ensures.bound c.place_by_key.ensures.place
