use Rattle.std.proofs.Common.{◌≡◌, ◌∙◌, Option, Some, None, refl, ap}
use Rattle.std.specs.Prelude.{is_some, option_map}
use Rattle.mig_template.proofs.Found.{among_is_found}
use Rattle.mig_template.proofs.fields.Fields.has.Goals as goal

is_some_mapped : {A B : Type 0} (f : A → B) (o : Option A) → is_some o ≡ is_some (option_map f o)
is_some_mapped f (Some x) = refl
is_some_mapped f None = refl

pub returns : goal.returns
returns c = c.is_some.ensures ∙ is_some_mapped _ c.get.result ∙ ap is_some c.get.ensures.found ∙ among_is_found c.args.name.now c.args.self.now
