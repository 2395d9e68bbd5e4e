use Rattle.std.proofs.Common.{◌≡◌, ◌∙◌, List, ℕ, ap, sym, subst}
use Rattle.std.specs.Prelude.{IfSome, Some}
use Rattle.mig_model.specs.Names.{Ascends, under}
use Rattle.mig_model.specs.Leaf.{looked_up}
use Rattle.mig_model.specs.Record.{IsOrderOf}
use Rattle.mig_leaf.proofs.Tables.{order_finds}
use Rattle.mig_leaf.proofs.table.Table.get.Goals as goal

pub searched-requires : goal.searched-requires
searched-requires c =
    let ordered : IsOrderOf c.self.inside.pairs.items c.in-Some.sorted.items = subst (λ o. IfSome o (λ list. IsOrderOf c.self.inside.pairs.items list.items)) c.in-Some.is c.self.invariant in
    subst Ascends (sym c.deref.ensures.value) ordered.ascend

pub returns-in-Some : goal.returns-in-Some
returns-in-Some c =
    let ps = c.self.inside.pairs.items in
    let qs = c.in-Some.sorted.items in
    let text = c.args.text.now in
    let ordered : IsOrderOf ps qs = subst (λ o. IfSome o (λ list. IsOrderOf ps list.items)) c.in-Some.is c.self.invariant in
    c.searched.ensures ∙ ap (under text) c.deref.ensures.value ∙ order_finds ps qs ordered text ∙ ap (λ l. looked_up l text) c.self.view_is
