use Rattle.std.proofs.Common.{◌≡◌, ◌∙◌, ap, sym, subst, refl, length, map, arith}
use Rattle.std.specs.Prelude.{IfOk}
use Rattle.std.proofs.lemmas.List.{length-map}
use Rattle.mig_value.specs.View.{typed_of}
use Rattle.mig_path.specs.Path.{foci}
use Rattle.mig_path.specs.Rest.{Residual, rest_for, FitsFoci}
use Rattle.mig_path.proofs.Over.{fits}
use Rattle.optic_tests.proofs.tests.turn.Goals as goal

pub rejoin-requires : goal.rejoin-requires
rejoin-requires g c κs =
    let path = g.O.Optic.path c.args.optic.now in
    let value = typed_of c.args.value in
    let parted = c.expect-foci.result in
    let others = c.one-others.result.items in
    let found : map typed_of parted.0.items ≡ foci path value = subst (λ r. IfOk r (λ x. map typed_of x.0.items ≡ foci path value)) c.expect-foci.ensures c.part.ensures.foci in
    let rest : g.O.Optic.rest parted.1 ≡ rest_for path value = subst (λ r. IfOk r (λ x. g.O.Optic.rest x.1 ≡ rest_for path value)) c.expect-foci.ensures c.part.ensures.rest in
    let as_many : length others ≡ length parted.0.items = omega arith in
    let count = as_many ∙ sym (length-map parted.0.items typed_of) ∙ ap length found in
    let law = fits path value c.requires in
    ((refl, tt), subst (λ (r : Residual). FitsFoci r (length others)) (sym rest) (law.0, count ∙ law.1))
