use Rattle.std.proofs.Common.{IsUtf8, ◌≡◌, List, [], ◌∷◌, ◌++◌, map, string_bytes, string_cmp, ap, ◌∙◌, sym, subst, append_assoc, append-nil, arith, rules}
use Rattle.std.proofs.lemmas.List.{map-append, length-map}
use Rattle.mig_model.specs.Keeps.{IsShort}
use Rattle.std.specs.List.Sorted.{IsStrictlySortedBy}
use Rattle.std.specs.Map.{keys_of}
use Rattle.serde_json.specs.View.{items_view, members_view}
use Rattle.serde_json.proofs.Views.{Entry}
use Rattle.mig_tree.specs.View.{plain_of, entry_of}
use Rattle.mig_json.specs.Save.{trees_in, pairs_in}
use Rattle.mig_json.specs.Lending.{ahead}
use Rattle.mig_json.proofs.Lent.{pairs_push, pairs_ahead, pairs_named, pair_json_push, pair_keep_push, json_push, items_ahead}
use Rattle.mig_json.proofs.lending.+lend.Goals as goal

pub lend_members-loop-key-preserved : goal.lend_members-loop-key-preserved
lend_members-loop-key-preserved t c =
    let l = c.loop-key in
    let done = l.invariant.0 in
    let e : Entry = (c.in-Some.key.now, c.in-Some.member.now) in
    let left = c.next.new.self in
    let tree = plain_of c.in_ok-tree.tree in
    let step : l.key-iterator ≡ e ∷ left = c.in-Some.ensures.steps in
    let all : c.args.members.now.entries ≡ done ++ e ∷ left = l.invariant.1 ∙ ap (λ es. done ++ es) step in
    let name : c.lent-name.result ≡ string_bytes e.0 = search rules in
    let same : c.as_bytes.result.now ≡ string_bytes e.0 = search rules in
    let coded : IsUtf8 (string_bytes e.0) = subst (λ b. IsUtf8 b) same c.as_bytes.ensures.utf8 in
    let mapped : map entry_of c.push.new.self.items ≡ map entry_of l.list.items ++ (string_bytes e.0, tree) ∷ [] =
    ap (map entry_of) c.in_ok-push.ensures.items ∙ map-append entry_of l.list.items _ ∙ ap (λ (k : List _). map entry_of l.list.items ++ (k, tree) ∷ []) name in (
      done ++ e ∷ [],
      all ∙ sym (append_assoc done (e ∷ []) left),
      rw mapped (pairs_push done e (map entry_of l.list.items) tree l.invariant.2 c.in_ok-tree.ensures.tree),
      rw mapped (pairs_ahead (map entry_of l.list.items) e left tree (pairs_in (members_view c.args.members.now.entries)) c.in_ok-tree.ensures.tree (subst (λ es. ahead (map entry_of l.list.items) (pairs_in (members_view es)) ≡ pairs_in (members_view c.args.members.now.entries)) step l.invariant.3)),
      rw mapped (pair_json_push (map entry_of l.list.items) (string_bytes e.0) tree l.invariant.4 coded c.in_ok-tree.ensures.json),
      rw mapped (pair_keep_push (map entry_of l.list.items) (string_bytes e.0) tree l.invariant.5 (subst IsShort name c.keeps.ensures) c.keeps-in-loop-key.ensures),
    )

pub lend_members-new-requires : goal.lend_members-new-requires
lend_members-new-requires t c =
    let l = c.loop-key in
    let none : l.key-iterator ≡ [] = c.in-None.ensures.steps.0 in
    let all : c.args.members.now.entries ≡ l.invariant.0 = l.invariant.1 ∙ ap (λ es. l.invariant.0 ++ es) none ∙ append-nil l.invariant.0 in
    (pairs_named l.invariant.0 (map entry_of l.list.items) l.invariant.2 (subst (λ es. IsStrictlySortedBy string_cmp (keys_of es)) all c.iter-key-items.ensures.ordered), omega (arith, length-map l.list.items entry_of), l.invariant.5)

pub lend_items-loop-value-preserved : goal.lend_items-loop-value-preserved
lend_items-loop-value-preserved t c =
    let l = c.loop-value in
    let tree = plain_of c.in_ok-lend.field-0 in
    let pushed : c.push.new.self ≡ l.items ++ tree ∷ [] = c.in_ok-push.ensures.ok in
    rw pushed (
      items_ahead l.items c.args.values.now l.value-index c.value-item.result tree (trees_in (items_view c.args.values.now)) c.loop-value-test.true c.value-item.is c.in_ok-lend.ensures.tree l.invariant.0,
      json_push l.items tree l.invariant.1 c.in_ok-lend.ensures.json,
    )
