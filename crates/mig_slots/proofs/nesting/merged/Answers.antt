use Rattle.std.proofs.Common.{◌≡◌, ◌++◌, List, map, ap, ◌∙◌}
use Rattle.std.proofs.lemmas.List.{map-append}
use Rattle.std.specs.Map.{keys_of}
use Rattle.std.proofs.lemmas.List.Sorted.{IsPermutation-map}
use Rattle.mig_value.specs.View.{slot_of}
use Rattle.mig_value.specs.declared.slots.Slot as code
use Rattle.mig_model.specs.Names.{others}
use Rattle.mig_model.proofs.Edits.{ascends-others}
use Rattle.mig_slots.proofs.Merging.{merged_is}
use Rattle.mig_slots.proofs.nesting.merged.Goals as goal

pub returns : goal.returns
returns c =
    let new = c.args.fields in
    let old = map slot_of c.args.slots.items in
    let before = c.append.new.self.items in
    let after = c.sort_by_key.new.list.items in
    let together : map slot_of before ≡ new ++ others (keys_of new) old =
    ap (λ (l : List code.Slot). map slot_of l) c.in_ok-append.ensures.items
    ∙ map-append slot_of c.into_vec-list.result.items c.keep_others.new.slots.items
    ∙ (λ i. c.into_vec-list.ensures.slots i ++ c.keep_others.ensures i) in
    merged_is slot_of after new old (map slot_of before) c.into_vec-list.ensures.keep.0 c.requires (ascends-others (keys_of new) old c.requires) together
    (IsPermutation-map slot_of before after c.sort_by_key.ensures.permutation) c.sort_by_key.ensures.sorted
