use Rattle.std.proofs.Common.{◌≡◌, ◌∙◌, ◌<◌, length, refl, sym, ap, arith}
use Rattle.std.specs.declared.cmp.Ordering.TheVariants.{Less}
use Rattle.mig_model.specs.Names.{by_bytes}
use Rattle.mig_model.proofs.Rising.{rises_at, ascends_if_rising, not_other}
use Rattle.mig_model.proofs.Searches.{same_read}
use Rattle.mig_model.proofs.keyed.ascends.Goals as goal

pub returns-then-ne : goal.returns-then-ne
returns-then-ne g c =
    let key = g.T.Keyed.key in
    let xs = c.args.list.now in
    let at = c.loop-at.at in
    let one = c.index-list-at.result in
    let other = c.index-list-at-in-loop-at.result in
    let inside : at < length xs = omega arith in (
      λ never. absurd cc,
      λ ascend.
          let first = c.key.ensures ∙ ap key c.index-list-at.is in
          let second = c.key-in-loop-at.ensures ∙ ap key (sym (same_read xs at one other inside c.index-list-at-in-loop-at.is)) in
          let less : c.cmp.result ≡ Less = c.cmp.ensures ∙ (λ t. by_bytes (first t) (second t)) ∙ rises_at key xs at one ascend (omega arith) inside in
          absurd (not_other c.cmp.result less (sym c.if-ne.true ∙ c.ne.ensures)),
    )

pub returns : goal.returns
returns g c = (λ _. ascends_if_rising g.T.Keyed.key c.args.list.now (λ k d l. c.loop-at.invariant k d (omega arith)), λ _. refl)
