use Rattle.std.proofs.Common.{◌≡◌, ◌∙◌, ℕ, List, Some, get_or, map, ap, sym, subst, rules}
use Rattle.std.proofs.lemmas.Cmp.{nat_list_cmp_total}
use Rattle.std.proofs.lemmas.List.{map-id}
use Rattle.mig_model.specs.Names.{Ascends, under}
use Rattle.mig_model.proofs.Searches as searches
use Rattle.mig_leaf.proofs.table.searched.Goals as goal

abbrev itself : (List ℕ × List ℕ) → List ℕ × List ℕ
itself p = p

pub returns-in-Ok : goal.returns-in-Ok
returns-in-Ok c =
    let ps = c.args.sorted.now in
    let name = c.args.text.now in
    let rises : Ascends (map itself ps) = subst Ascends (sym (map-id ps)) c.requires in
    let place = searches.searched nat_list_cmp_total itself name ps c.place_by_key.result rises c.place_by_key.ensures.bound c.place_by_key.ensures.place in
    let there = sym place ∙ c.in-Ok.is in
    let pair = c.index-sorted-at.result in
    let at : pair ≡ get_or ps c.in-Ok.at pair = search rules in
    ap Some (c.bytes.ensures ∙ sym (ap (λ p. p.1) at))
    ∙ sym (searches.found_there nat_list_cmp_total itself name ps c.in-Ok.at pair there c.in-Ok.ensures.bound at)
    ∙ ap (under name) (map-id ps)

pub returns-in-Err : goal.returns-in-Err
returns-in-Err c =
    let ps = c.args.sorted.now in
    let name = c.args.text.now in
    let rises : Ascends (map itself ps) = subst Ascends (sym (map-id ps)) c.requires in
    let place = searches.searched nat_list_cmp_total itself name ps c.place_by_key.result rises c.place_by_key.ensures.bound c.place_by_key.ensures.place in
    let none = sym place ∙ c.in-Err.is in
    sym (ap (under name) (sym (map-id ps)) ∙ searches.not_found nat_list_cmp_total itself name ps c.in-Err.field-0 rises none)
