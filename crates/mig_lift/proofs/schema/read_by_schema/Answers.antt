use Rattle.std.proofs.Common.{◌≡◌, subst, ◌∙◌, arith}
use Rattle.mig_model.specs.Inhabits.{Inhabits}
use Rattle.mig_model.specs.Family.{body}
use Rattle.mig_value.specs.View.{typed_of}
use Rattle.mig_value.specs.Fit.{FitAsRead}
use Rattle.mig_value.specs.Nodes.{every, nodes}
use Rattle.mig_tree.specs.View.{plain_of}
use Rattle.mig_laws.proofs.Laws.{place_is_exact}
use Rattle.mig_lift.proofs.Flat.{no_nodes}
use Rattle.mig_lift.proofs.schema.read_by_schema.Goals as goal

pub returns-in_err-write-in-Ok-clause-count : goal.returns-in_err-write-in-Ok-clause-count
returns-in_err-write-in-Ok-clause-count g c =
    let f = c.args.family.now in
    let v = typed_of c.in-Ok.value in
    let none : nodes every v ≡ 0 = no_nodes f c.requires.flat v (subst (λ n. FitAsRead f.form (body f) n v) c.root.ensures c.in-Ok.ensures.fits) in
    omega (arith, none, c.in_err-write-in-Ok.ensures.count, c.in_err-write-in-Ok.ensures.grows)

pub returns-in_ok-write-in-Ok-clause-checks : goal.returns-in_ok-write-in-Ok-clause-checks
returns-in_ok-write-in-Ok-clause-checks g c =
    let f = c.args.family.now in
    let t = plain_of c.args.tree in
    let inhabits : Inhabits f.form (body f) f.root t = subst (λ n. Inhabits f.form (body f) n t) c.root.ensures c.in-Ok.ensures.inhabits in
    (c.in_ok-write-in-Ok.ensures.tree ∙ c.in-Ok.ensures.tree, (place_is_exact f c.keeps.ensures.formed f.root t).1 inhabits)

pub returns-in_ok-write-in-Ok-clause-count : goal.returns-in_ok-write-in-Ok-clause-count
returns-in_ok-write-in-Ok-clause-count g c =
    let f = c.args.family.now in
    let v = typed_of c.in-Ok.value in
    let none : nodes every v ≡ 0 = no_nodes f c.requires.flat v (subst (λ n. FitAsRead f.form (body f) n v) c.root.ensures c.in-Ok.ensures.fits) in
    omega (arith, none, c.in_ok-write-in-Ok.ensures.exact)
