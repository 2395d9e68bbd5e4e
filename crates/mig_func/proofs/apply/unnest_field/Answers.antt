use Rattle.std.proofs.Common.{true≢false, sym, ap, ◌∙◌}
use Rattle.std.specs.Prelude.{option_map, is_some}
use Rattle.mig_slots.specs.View.{moving_of}
use Rattle.mig_func.proofs.Within.{unnested_is}
use Rattle.mig_func.proofs.apply.unnest_field.Goals as goal

pub returns-in-Some : goal.returns-in-Some
returns-in-Some c =
    unnested_is c.unnest.result (moving_of c.args.moving) c.args.name.now c.args.fields.now c.in-Some.inner.now
    (sym c.fields_within.ensures ∙ ap (option_map (λ t. t.now)) c.in-Some.is)
    c.unnest.ensures

pub returns-in-None : goal.returns-in-None
returns-in-None c = absurd (true≢false (sym c.requires.ready ∙ ap is_some (sym c.fields_within.ensures ∙ ap (option_map (λ t. t.now)) c.in-None.is)))
