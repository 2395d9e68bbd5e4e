use Rattle.std.proofs.Common.{rules, List, map, subst, sym}
use Rattle.std.specs.Prelude.{IsPermutation, IsTrue}
use Rattle.std.proofs.lemmas.List.Sorted.{IsPermutation-map, IsPermutation-sym, IsPermutation-trans}
use Rattle.mig_model.specs.Names.{AscendBy, Ascends}
use Rattle.mig_model.specs.Keeps.{IsShort, AllPairsKeep}
use Rattle.mig_model.specs.Plain.{pairs_of}
use Rattle.mig_model.proofs.Rising.{ascend_by, by_ascends}
use Rattle.mig_tree.specs.View.{entry_of}
use Rattle.mig_tree.specs.declared.entries.Entry.{Entry}
use Rattle.mig_tree.proofs.Sorted.{named_if_any}
use Rattle.mig_tree.proofs.gathering.gather.Goals as goal

pub returns-then-not-ascends-clause-twice : goal.returns-then-not-ascends-clause-twice
returns-then-not-ascends-clause-twice c =
    let before = c.args.list.items in
    let after = c.sort_by_key.new.list.items in
    let moved : IsPermutation (map entry_of before) (map entry_of after) = IsPermutation-map entry_of before after c.sort_by_key.ensures.permutation in
    λ ps same named.
    let rises : Ascends (map entry_of after) =
    named_if_any after ps c.sort_by_key.ensures.sorted (IsPermutation-trans _ _ _ (IsPermutation-sym _ _ moved) same) named in
    let told : IsTrue c.ascends.result = c.ascends.ensures.1 (subst (λ (l : List Entry). AscendBy (λ e. e.name) l) (sym c.deref.ensures.value) (ascend_by entry_of after rises)) in
    absurd cc

pub new-requires : goal.new-requires
new-requires c =
    let after = c.sort_by_key.new.list.items in
    let told : IsTrue c.ascends.result = search rules in
    let rises : Ascends (map entry_of after) = by_ascends entry_of after (subst (λ (l : List Entry). AscendBy (λ e. e.name) l) c.deref.ensures.value (c.ascends.ensures.0 told)) in
    let kept = c.deref-2.ensures.value in (
      rises,
      subst (λ (l : List Entry). IsShort (map entry_of l)) kept c.entries_are_kept.ensures.short,
      subst (λ (l : List Entry). AllPairsKeep (pairs_of (map entry_of l))) kept c.entries_are_kept.ensures.each,
    )

pub returns-clause-found : goal.returns-clause-found
returns-clause-found c =
    let before = c.args.list.items in
    let after = c.sort_by_key.new.list.items in
    subst (IsPermutation (map entry_of before)) (sym c.new.ensures) (IsPermutation-map entry_of before after c.sort_by_key.ensures.permutation)
