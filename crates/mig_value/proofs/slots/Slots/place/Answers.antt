use Rattle.std.proofs.Common.{◌∙◌, ap}
use Rattle.std.proofs.lemmas.Cmp.{nat_list_cmp_total}
use Rattle.mig_model.proofs.Searches.{searched}
use Rattle.mig_value.specs.Places.{place_in}
use Rattle.mig_value.specs.View.{slot_of}
use Rattle.mig_value.proofs.Places.{place_is}
use Rattle.mig_value.proofs.slots.Slots.place.Goals as goal

pub returns : goal.returns
returns c =
    let xs = c.self.inside.list.items in
    let name = c.args.name.now in
    let found = c.place_by_key.result in
    let sought = searched nat_list_cmp_total slot_of name xs found c.self.invariant.0 (rw c.deref.ensures.value at c.place_by_key.ensures.bound) (rw c.deref.ensures.value at c.place_by_key.ensures.place) in
    c.ok.ensures.value ∙ place_is name xs found c.self.invariant.0 sought ∙ ap (place_in name) c.self.view_is
