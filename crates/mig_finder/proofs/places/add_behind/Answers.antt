use Rattle.std.proofs.Common.{◌∙◌, ap}
use Rattle.mig_template.specs.View.{template_of}
use Rattle.mig_optic.specs.AnyView.{any_path}
use Rattle.mig_path.specs.Path.{Path, then_}
use Rattle.mig_finder.proofs.Lists.{added_behind}
use Rattle.mig_finder.proofs.places.add_behind.Goals as goal

pub loop-found-preserved : goal.loop-found-preserved
loop-found-preserved c =
    added_behind (any_path c.args.optic.now) c.args.list.now.items c.loop-found.list.items c.push.new.self.items c.loop-found.yielded c.in-Some.found (record { optic = c.in_ok-optic.optic; focus = c.in-Some.found.focus }) c.in_ok-push.ensures.items
    (λ i. ((c.in_ok-optic.ensures ∙ ap (λ (p : Path). then_ p (any_path c.in-Some.found.optic)) c.in_ok-copy.ensures) i, template_of c.in-Some.found.focus)) c.loop-found.invariant
