use Rattle.std.proofs.Common.{◌≡◌, ◌∙◌, Option, Some, sym, ap}
use Rattle.mig_model.specs.declared.presence.Presence.{Presence}
use Rattle.mig_model.specs.Family.{of_must}
use Rattle.mig_model.specs.Template.{Template}
use Rattle.mig_model.specs.Names.{under}
use Rattle.mig_template.specs.View.{template_of}
use Rattle.mig_schema.proofs.Among.{found_is_field}
use Rattle.mig_schema.proofs.parts.must_field.Goals as goal

must_of : (p q : Presence) (V : Template) (o : Option (Presence × Template)) → p ≡ q → Some (p, V) ≡ o → of_must (Some (q, V)) ≡ of_must o
must_of p q V o is there = ap (λ (r : Presence). of_must (Some (r, V))) (sym is) ∙ ap of_must there

pub returns-in-Must : goal.returns-in-Must
returns-in-Must c =
    must_of c.in-Some.field.now.presence _ (template_of c.in-Some.field.now.template) _ c.in-Must.is
    (c.in-Some.ensures.found ∙ ap (under c.args.name.now) c.fields.ensures ∙ found_is_field c.args.name.now c.args.parts.now.fields)

pub returns-in-May : goal.returns-in-May
returns-in-May c =
    must_of c.in-Some.field.now.presence _ (template_of c.in-Some.field.now.template) _ c.in-May.is
    (c.in-Some.ensures.found ∙ ap (under c.args.name.now) c.fields.ensures ∙ found_is_field c.args.name.now c.args.parts.now.fields)

pub returns-in-None : goal.returns-in-None
returns-in-None c = ap of_must (c.in-None.ensures.found ∙ ap (under c.args.name.now) c.fields.ensures ∙ found_is_field c.args.name.now c.args.parts.now.fields)
