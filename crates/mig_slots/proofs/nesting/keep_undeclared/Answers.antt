use Rattle.std.proofs.Common.{rules}
use Rattle.std.specs.Map.{keys_of}
use Rattle.std.proofs.lemmas.Fn.{filter_same}
use Rattle.mig_slots.proofs.Filtered.{others_view}
use Rattle.mig_slots.proofs.nesting.keep_undeclared.Goals as goal

pub returns : goal.returns
returns c = others_view (keys_of c.args.fields.now) _ _ (filter_same _ _ _ (λ x b f' k. search rules) _ _ c.retain.ensures.filtered)
