use Rattle.std.proofs.Common.{rules, ◌≡◌, ◌∙◌, sym, subst, ap, List, ℕ, map, length}
use Rattle.std.specs.Prelude.{string_bytes, filter, IsPermutation}
use Rattle.std.proofs.lemmas.List.Sorted.{IsPermutation-map}
use Rattle.std.proofs.lemmas.Iterator.Adapters.{YieldsList-from_vec}
use Rattle.std.proofs.lemmas.Iterator.Consumers.{YieldsList-end}
use Rattle.mig_run.specs.Folder.{is_save}
use Rattle.mig_run.proofs.Listing.{told_of, map_filtered, sorted_mapped}
use Rattle.std.proofs.lemmas.List.{map-id}
use Rattle.mig_run.proofs.folder.list_saves.Goals as goal

pub returns-clause-told : goal.returns-clause-told
returns-clause-told g c =
    let gives = c.into_iter-name-iterator.ensures.into_iter_gives in
    let as_long : c.into_iter-name-iterator.result.rest.len ≡ length c.in-Ok.listed.items = search rules in
    let end = YieldsList-end (YieldsList-from_vec {s = c.into_iter-name-iterator.result} c.in-Ok.listed.items gives.0 as_long) c.loop-name.yielded c.loop-name.name-iterator c.loop-name.yielded_by c.next.result c.next.new.self c.in-None.is c.next.ensures.steps in
    let all : c.loop-name.yielded ≡ c.in-Ok.listed.items = sym (map-id c.loop-name.yielded) ∙ end.0 in
    let chosen : map string_bytes c.loop-name.saves.items ≡ filter (is_save c.args.form) (map string_bytes c.in-Ok.listed.items) = ap (λ l. map string_bytes l) c.loop-name.invariant ∙ map_filtered string_bytes (is_save c.args.form) c.loop-name.yielded ∙ ap (λ l. filter (is_save c.args.form) (map string_bytes l)) all in
    let moved = IsPermutation-map string_bytes c.loop-name.saves.items c.sort.new.self.items c.in_ok-sort.ensures.permutation in
    told_of c.args.form (g.F.Files.held c.args.files.now) c.args.from.now (map string_bytes c.in-Ok.listed.items) (map string_bytes c.sort.new.self.items) c.in-Ok.ensures.names
    (subst (λ (l : List (List ℕ)). IsPermutation l (map string_bytes c.sort.new.self.items)) chosen moved) (sorted_mapped string_bytes c.sort.new.self.items c.in_ok-sort.ensures.sorted)
