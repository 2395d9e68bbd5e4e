use Rattle.std.proofs.Common.{◌≡◌, ◌∙◌, sym, nat_eq}
use Rattle.std.specs.Cmp.Lexicographic.{pointwise}
use Rattle.mig_schema.proofs.Paths.{alike, equal_if_alike}
use Rattle.mig_schema.proofs.version.VersionPath.same.Goals as goal

pub returns : goal.returns
returns c =
    let xs = c.args.self.now in
    let ys = c.args.other.now in
    let is : c.eq.result ≡ pointwise (pointwise nat_eq) xs ys = c.eq.ensures ∙ (λ i. pointwise (pointwise nat_eq) (c.names.ensures.names i) (c.names-2.ensures.names i)) in
    (λ h. equal_if_alike xs ys (sym is ∙ h), λ e. is ∙ alike xs ys e)
