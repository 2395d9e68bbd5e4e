use Rattle.std.proofs.Common.{◌∙◌}
use Rattle.std.proofs.lemmas.Cmp.{nat_list_cmp_total}
use Rattle.mig_model.proofs.Searches.{has_is}
use Rattle.mig_value.specs.View.{slot_of}
use Rattle.mig_slots.proofs.edits.has_slot.Goals as goal

pub returns : goal.returns
returns c = c.is_ok.ensures.value ∙ has_is nat_list_cmp_total slot_of c.args.name.now c.args.slots.now c.place.result c.requires c.place.ensures.place
