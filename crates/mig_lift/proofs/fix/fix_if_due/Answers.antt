use Rattle.std.proofs.Common.{◌≡◌, ◌∙◌, ◌&&◌, nat_lt, nat_le, cond, Some, None, sym, ap, subst}
use Rattle.std.specs.Prelude.{OnOk, option_map}
use Rattle.std.proofs.lemmas.Option.{same_Some}
use Rattle.mig_tree.specs.View.{plain_of}
use Rattle.mig_rule.specs.Lifted.{fixed_by, numbered}
use Rattle.mig_lift.specs.Small.{NumberedEdits}
use Rattle.mig_lift.specs.View.{with_edits, edits_of, numbered_of}
use Rattle.mig_lift.proofs.Kept.{parts, first_fix, fixed_at}
use Rattle.mig_lift.proofs.fix.fix_if_due.Goals as goal

pub unreachable-requires : goal.unreachable-requires
unreachable-requires c =
    let p = parts c.args.chain.now c.requires.small in
    absurd (let x : None ≡ Some (p.number, p.edits) = ap (λ o. option_map numbered_of o) (sym c.in_default.is) ∙ c.small_fix.ensures ∙ first_fix c.args.chain.now c.requires.small in cc)

pub returns-clause-fixed : goal.returns-clause-fixed
returns-clause-fixed c =
    let chain = c.args.chain.now in
    let p = parts chain c.requires.small in
    let t = plain_of c.args.tree.now in
    let v = c.args.version in
    let target = c.args.target in
    let e = edits_of c.in-Some.edits in
    let there : Some (c.in-Some.number, e) ≡ Some (p.number, p.edits) = ap (λ o. option_map numbered_of o) (sym c.in-Some.is) ∙ c.small_fix.ensures ∙ first_fix chain c.requires.small in
    let same : (c.in-Some.number, e) ≡ (p.number, p.edits) = same_Some (c.in-Some.number, e) (p.number, p.edits) there in
    let fixed : fixed_by v target (numbered chain.steps) t ≡ cond c.is_due.result (with_edits e t) t =
    fixed_at chain c.requires.small c.keeps.ensures.accepted v target t c.requires.map
    ∙ ap (λ (x : NumberedEdits). cond (nat_lt v x.0 && nat_le x.0 target) (with_edits x.1 t) t) (sym same)
    ∙ ap (λ b. cond b (with_edits e t) t) (sym c.is_due.ensures) in
    subst (λ u. OnOk c.fix_if.result (plain_of c.fix_if.new.tree ≡ u)) (sym fixed) c.fix_if.ensures.fixed
