use Rattle.std.proofs.Common.{◌≡◌, ◌∙◌, Some, nat_eq, sym, ap}
use borrow.Author.Tests.{eqb-true}
use Rattle.std.specs.Prelude.{is_some}
use Rattle.std.specs.Cmp.{nat_eq_equiv}
use Rattle.std.proofs.lemmas.Map.Views.{list_any-from_Contains}
use Rattle.indexmap.proofs.CallerLemmas.{Contains-list_any}
use Rattle.mig_schema.specs.Types.{type_place}
use Rattle.mig_schema.proofs.Reached.{place_is_some}
use Rattle.mig_schema.proofs.parts.Parts.reaches.Goals as goal

pub unwrap-place-requires : goal.unwrap-place-requires
unwrap-place-requires c = ap is_some (c.place_of.ensures ∙ ap (λ ts. type_place ts c.args.to.now) c.types.ensures) ∙ place_is_some c.args.self.now.types c.args.to.now c.requires

pub returns : goal.returns
returns c =
    let to = c.args.to.now in
    let found = c.in_ok-found.found.keys in
    let q = c.unwrap-place.result in
    let is : type_place c.args.self.now.types to ≡ Some q = ap (λ ts. type_place ts to) (sym c.types.ensures) ∙ sym c.place_of.ensures ∙ c.unwrap-place.ensures in
    let told = c.in_ok-found.ensures to q is in (
      λ h. told.0 (Contains-list_any nat_eq (λ a b. eqb-true a b) found q (sym c.contains.ensures ∙ h)),
      λ r. c.contains.ensures ∙ list_any-from_Contains nat_eq_equiv q found (told.1 r),
    )
