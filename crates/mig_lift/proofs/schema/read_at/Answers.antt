use Rattle.std.proofs.Common.{◌≡◌, ◌∙◌, true, sym, subst}
use Rattle.std.proofs.lemmas.Option.{same_Some}
use Rattle.mig_model.specs.Family.{IsFormed}
use Rattle.mig_model.specs.Inhabits.{is_in_form}
use Rattle.mig_tree.specs.View.{plain_of}
use Rattle.mig_lift.proofs.Kept.{flat_family}
use Rattle.mig_lift.proofs.Outcome.{ok_always}
use Rattle.mig_lift.proofs.schema.read_at.Goals as goal

pub read_by_schema-requires-clause-flat : goal.read_by_schema-requires-clause-flat
read_by_schema-requires-clause-flat g c = (flat_family c.args.chain.now c.requires.small c.keeps.ensures.accepted c.args.place c.in_ok-family.family c.in_ok-family.ensures).flat

pub read_by_schema-requires-clause-form : goal.read_by_schema-requires-clause-form
read_by_schema-requires-clause-form g c =
    let flat = flat_family c.args.chain.now c.requires.small c.keeps.ensures.accepted c.args.place c.in_ok-family.family c.in_ok-family.ensures in
    subst (λ form. is_in_form form (plain_of c.args.tree) ≡ true) (sym flat.form_is) c.requires.form

pub returns-clause-formed : goal.returns-clause-formed
returns-clause-formed g c =
    let f = c.in_ok-family.family in
    ok_always c.read_by_schema.result (λ t h e. subst IsFormed (same_Some f h (sym c.in_ok-family.ensures ∙ e)) c.keeps-2.ensures.formed)
