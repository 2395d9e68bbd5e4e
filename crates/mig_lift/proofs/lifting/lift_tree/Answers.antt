use Rattle.std.proofs.Common.{◌≡◌, ◌∙◌, true, None, Ok, Err, sym, ap, subst, arith}
use Rattle.std.specs.Prelude.{IsSome}
use Rattle.mig_model.specs.Inhabits.{is_in_form}
use Rattle.mig_model.specs.Kinds.{IsMap}
use Rattle.mig_model.specs.Place.{place}
use Rattle.mig_model.specs.Version.{strip, put_version, spot}
use Rattle.mig_tree.specs.View.{plain_of}
use Rattle.mig_laws.proofs.Versions.{strip_of_form}
use Rattle.mig_schema.specs.Version.{version_tree}
use Rattle.mig_rule.specs.Chain.{families, versions}
use Rattle.mig_rule.specs.Lifted.{fixed_by, numbered}
use Rattle.mig_lift.specs.Lift.{lift_tree}
use Rattle.mig_lift.specs.View.{Checks}
use Rattle.mig_lift.specs.Writable.{IsWritable}
use Rattle.mig_lift.proofs.Decoded.{passed_tree}
use Rattle.mig_lift.proofs.Floors.{none_below}
use Rattle.mig_lift.proofs.InForm.{in_form}
use Rattle.mig_lift.proofs.Kept.{floor_at, fixed_written, short_path}
use Rattle.mig_lift.proofs.Outcome.{refused_version, refused_below, refused_above, refused_by, lifted}
use Rattle.mig_lift.proofs.ShortPath.{map_is_spot}
use Rattle.mig_lift.proofs.Written.{stripped_written, version_put_written, version_put_map}
use Rattle.mig_lift.proofs.lifting.lift_tree.Goals as goal

pub returns-in-Err-clause-lifts : goal.returns-in-Err-clause-lifts
returns-in-Err-clause-lifts g c = refused_version c.args.chain.now c.args.target (plain_of c.args.tree) c.in-Err.kind (sym c.version_of.ensures ∙ c.in-Err.is)

pub returns-in_default-clause-lifts : goal.returns-in_default-clause-lifts
returns-in_default-clause-lifts g c =
    let chain = c.args.chain.now in
    refused_below chain c.args.target (plain_of c.args.tree) c.in-Ok.version (sym c.version_of.ensures ∙ c.in-Ok.is)
    (none_below c.in-Ok.version (versions chain.steps) (families chain.steps) c.in_default.ensures.none)

pub returns-then-target-version-clause-lifts : goal.returns-then-target-version-clause-lifts
returns-then-target-version-clause-lifts g c =
    let f = floor_at c.args.chain.now c.requires.small c.keeps.ensures.accepted c.in-Ok.version c.in-Some.place c.in-Some.ensures.some in
    refused_above c.args.chain.now c.args.target (plain_of c.args.tree) c.in-Ok.version (sym c.version_of.ensures ∙ c.in-Ok.is) f.family f.floor (omega (arith, c.if-target-version.true))

pub read_at-requires-clause-form : goal.read_at-requires-clause-form
read_at-requires-clause-form g c =
    let chain = c.args.chain.now in
    let t = plain_of c.args.tree in
    let after : plain_of c.strip_version.new.tree ≡ strip chain.version t = c.strip_version.ensures.rest ∙ ap (λ p. strip p t) c.version_path-path.ensures in
    subst (λ u. is_in_form chain.form u ≡ true) (sym after) (strip_of_form chain.form chain.version t (in_form chain.form t c.requires.writable))

pub returns-in_err-tree-clause-lifts : goal.returns-in_err-tree-clause-lifts
returns-in_err-tree-clause-lifts g c =
    let chain = c.args.chain.now in
    let t = plain_of c.args.tree in
    let e = c.in_err-tree.field-0.0 in
    let f = floor_at chain c.requires.small c.keeps.ensures.accepted c.in-Ok.version c.in-Some.place c.in-Some.ensures.some in
    let after : plain_of c.strip_version.new.tree ≡ strip chain.version t = c.strip_version.ensures.rest ∙ ap (λ p. strip p t) c.version_path-path.ensures in
    passed_tree e c.from_residual.result (lift_tree chain c.args.target t) c.from_residual.ensures
    (refused_by chain c.args.target t c.in-Ok.version (sym c.version_of.ensures ∙ c.in-Ok.is) f.family f.floor (omega (arith, c.if-target-version.false)) e
    (subst (λ u. Checks (Err e) f.family u) after (c.in_err-tree.ensures.checks f.family f.there)))

pub fix_if_due-requires-clause-map : goal.fix_if_due-requires-clause-map
fix_if_due-requires-clause-map g c =
    let f = floor_at c.args.chain.now c.requires.small c.keeps.ensures.accepted c.in-Ok.version c.in-Some.place c.in-Some.ensures.some in
    subst IsMap (sym (c.in_ok-tree.ensures.checks f.family f.there).0) c.strip_version.ensures.map

pub put-requires-clause-spot : goal.put-requires-clause-spot
put-requires-clause-spot g c =
    let chain = c.args.chain.now in
    let f = floor_at chain c.requires.small c.keeps.ensures.accepted c.in-Ok.version c.in-Some.place c.in-Some.ensures.some in
    let short = short_path chain c.in-Ok.version c.in-Some.place f c.in_ok-tree.ensures.formed in
    subst (λ p. IsSome (spot p (plain_of c.fix_if_due.new.tree))) (sym c.version_path-path.ensures) (map_is_spot chain.version short (plain_of c.fix_if_due.new.tree) c.in_ok-fix_if_due.ensures.map)

pub returns-clause-lifts : goal.returns-clause-lifts
returns-clause-lifts g c =
    let chain = c.args.chain.now in
    let t = plain_of c.args.tree in
    let v = c.in-Ok.version in
    let target = c.args.target in
    let f = floor_at chain c.requires.small c.keeps.ensures.accepted v c.in-Some.place c.in-Some.ensures.some in
    let read = c.in_ok-tree.ensures.checks f.family f.there in
    let after : plain_of c.strip_version.new.tree ≡ strip chain.version t = c.strip_version.ensures.rest ∙ ap (λ p. strip p t) c.version_path-path.ensures in
    let right : place f.family f.family.root (strip chain.version t) ≡ None = subst (λ u. place f.family f.family.root u ≡ None) after read.1 in
    let fixed : plain_of c.fix_if_due.new.tree ≡ fixed_by v target (numbered chain.steps) (strip chain.version t) = c.in_ok-fix_if_due.ensures.fixed ∙ ap (fixed_by v target (numbered chain.steps)) (read.0 ∙ after) in
    let put : plain_of c.put.new.tree ≡ put_version chain.version (version_tree chain.form target) (plain_of c.fix_if_due.new.tree) =
    c.in_ok-put.ensures.ok ∙ (λ i. put_version (c.version_path-path.ensures i) (version_tree (c.form.ensures i) target) (plain_of c.fix_if_due.new.tree)) in
    lifted chain target t v (sym c.version_of.ensures ∙ c.in-Ok.is) f.family f.floor (omega (arith, c.if-target-version.false)) right
    ∙ ap (λ u. Ok (u, v)) (sym (put ∙ ap (put_version chain.version (version_tree chain.form target)) fixed))

pub returns-clause-map : goal.returns-clause-map
returns-clause-map g c =
    let chain = c.args.chain.now in
    let f = floor_at chain c.requires.small c.keeps.ensures.accepted c.in-Ok.version c.in-Some.place c.in-Some.ensures.some in
    let short = short_path chain c.in-Ok.version c.in-Some.place f c.in_ok-tree.ensures.formed in
    let tree = version_tree c.form.result c.args.target in
    let put : plain_of c.put.new.tree ≡ put_version chain.version tree (plain_of c.fix_if_due.new.tree) =
    c.in_ok-put.ensures.ok ∙ (λ i. put_version (c.version_path-path.ensures i) tree (plain_of c.fix_if_due.new.tree)) in
    subst IsMap (sym put) (version_put_map chain.form chain.version short tree (plain_of c.fix_if_due.new.tree) c.in_ok-fix_if_due.ensures.map)

pub returns-clause-writable : goal.returns-clause-writable
returns-clause-writable g c =
    let chain = c.args.chain.now in
    let t = plain_of c.args.tree in
    let v = c.in-Ok.version in
    let target = c.args.target in
    let f = floor_at chain c.requires.small c.keeps.ensures.accepted v c.in-Some.place c.in-Some.ensures.some in
    let read = c.in_ok-tree.ensures.checks f.family f.there in
    let short = short_path chain c.in-Ok.version c.in-Some.place f c.in_ok-tree.ensures.formed in
    let after : plain_of c.strip_version.new.tree ≡ strip chain.version t = c.strip_version.ensures.rest ∙ ap (λ p. strip p t) c.version_path-path.ensures in
    let before : IsWritable chain.form (plain_of c.in_ok-tree.tree) = subst (IsWritable chain.form) (sym (read.0 ∙ after)) (stripped_written chain.form chain.version short t c.requires.writable) in
    let is_map : IsMap (plain_of c.in_ok-tree.tree) = subst IsMap (sym read.0) c.strip_version.ensures.map in
    let fixed : IsWritable chain.form (plain_of c.fix_if_due.new.tree) =
    subst (IsWritable chain.form) (sym c.in_ok-fix_if_due.ensures.fixed) (fixed_written chain c.requires.small c.keeps.ensures.accepted c.keeps.ensures.spelled v target (plain_of c.in_ok-tree.tree) is_map before) in
    let put : plain_of c.put.new.tree ≡ put_version chain.version (version_tree chain.form target) (plain_of c.fix_if_due.new.tree) =
    c.in_ok-put.ensures.ok ∙ (λ i. put_version (c.version_path-path.ensures i) (version_tree (c.form.ensures i) target) (plain_of c.fix_if_due.new.tree)) in
    subst (IsWritable chain.form) (sym put)
    (version_put_written chain.form chain.version short target (plain_of c.fix_if_due.new.tree) c.keeps.ensures.spelled.version c.in_ok-fix_if_due.ensures.map fixed)
