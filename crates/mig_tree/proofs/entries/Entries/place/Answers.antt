use Rattle.std.proofs.lemmas.Cmp.{nat_list_cmp_total}
use Rattle.mig_model.proofs.Searches.{searched}
use Rattle.mig_tree.specs.View.{entry_of}
use Rattle.mig_tree.proofs.entries.Entries.place.Goals as goal

pub returns-clause-place : goal.returns-clause-place
returns-clause-place c = searched nat_list_cmp_total entry_of c.args.name.now c.args.list.now c.place_by_key.result c.requires c.place_by_key.ensures.bound c.place_by_key.ensures.place
