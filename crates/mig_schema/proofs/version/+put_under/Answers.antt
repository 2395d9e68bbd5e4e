use Rattle.std.proofs.Common.{rules, ◌≡◌, ◌∙◌, Some, sym, ap}
use Rattle.std.specs.Prelude.{option_map}
use Rattle.std.proofs.lemmas.Result.{on_ok_weaker, on_err_weaker}
use Rattle.mig_model.specs.Kinds.{put_in}
use Rattle.mig_model.specs.Names.{put, under}
use Rattle.mig_model.specs.Plain as plain
use Rattle.mig_model.specs.Version.{on_spot}
use Rattle.mig_tree.specs.View.{plain_of}
use Rattle.mig_schema.proofs.Spots.{at, no_rest, some_rest, map_at_last, done, spot_found, spot_behind, spot_more, still_there, put_again, with_same, some_if_not_none}
use Rattle.mig_schema.proofs.version.+put_under.Goals as goal

pub put-requires : goal.put-requires
put-requires t c =
    let x = c.bytes-name.result.now in
    let rest = c.unwrap.result.1.now in
    map_at_last c.args.names.now x rest (plain_of c.args.tree.now) (search rules) (no_rest rest c.is_empty.result c.is_empty.ensures c.if-is_empty.true) c.requires.spot

pub returns-then-is_empty-clause-ok : goal.returns-then-is_empty-clause-ok
returns-then-is_empty-clause-ok t c =
    let x = c.bytes-name.result.now in
    let rest = c.unwrap.result.1.now in
    let f = put_in c.args.last (plain_of c.args.version) in
    let last = no_rest rest c.is_empty.result c.is_empty.ensures c.if-is_empty.true in
    on_ok_weaker c.put.result (λ (e : plain_of c.put.new.self ≡ f (plain_of c.args.tree.now)). e ∙ done f c.args.names.now x rest (plain_of c.args.tree.now) (search rules) last) c.put.ensures.ok

pub unwrap-inner-requires : goal.unwrap-inner-requires
unwrap-inner-requires t c =
    let x = c.bytes-name.result.now in
    let rest = c.unwrap.result.1.now in
    let l = some_rest rest c.is_empty.result c.is_empty.ensures c.if-is_empty.false in
    some_if_not_none c.swap.result (λ none. spot_found c.args.names.now x rest (plain_of c.args.tree.now) c.in-Map.entries (search rules) (ap plain_of c.in-Map.is) l c.requires.spot (sym c.swap.ensures.tree ∙ ap (option_map plain_of) none))

pub put_under-result-requires : goal.put_under-result-requires
put_under-result-requires t c =
    let x = c.bytes-name.result.now in
    let rest = c.unwrap.result.1.now in
    let l = some_rest rest c.is_empty.result c.is_empty.ensures c.if-is_empty.false in
    let there : under x c.in-Map.entries ≡ Some (plain_of c.unwrap-inner.result) = sym c.swap.ensures.tree ∙ ap (option_map plain_of) c.unwrap-inner.ensures in
    (search rules, (l, spot_behind c.args.names.now x rest (plain_of c.args.tree.now) c.in-Map.entries (search rules) (ap plain_of c.in-Map.is) (plain_of c.unwrap-inner.result) l c.requires.spot there))

pub put_back-requires : goal.put_back-requires
put_back-requires t c =
    let x = c.bytes-name.result.now in
    let there : under x c.in-Map.entries ≡ Some (plain_of c.unwrap-inner.result) = sym c.swap.ensures.tree ∙ ap (option_map plain_of) c.unwrap-inner.ensures in
    still_there x (plain_of c.unwrap-inner.result) plain.null c.in-Map.entries c.swap.new.self there c.swap.ensures.rest

pub returns-clause-ok : goal.returns-clause-ok
returns-clause-ok t c =
    let x = c.bytes-name.result.now in
    let rest = c.unwrap.result.1.now in
    let l = some_rest rest c.is_empty.result c.is_empty.ensures c.if-is_empty.false in
    let u = plain_of c.unwrap-inner.result in
    let w = plain_of c.put_under-result.new.tree in
    let f = put_in c.args.last (plain_of c.args.version) in
    let there : under x c.in-Map.entries ≡ Some u = sym c.swap.ensures.tree ∙ ap (option_map plain_of) c.unwrap-inner.ensures in
    let again = put_again x u plain.null w c.in-Map.entries c.swap.new.self c.put_back.new.entries there c.swap.ensures.rest c.put_back.ensures in
    on_ok_weaker c.put_under-result.result
    (λ (e : w ≡ on_spot f rest u). ap at again ∙ spot_more c.args.names.now x rest (plain_of c.args.tree.now) c.in-Map.entries (search rules) (ap plain_of c.in-Map.is) f u w c.as_slice-pairs.ensures.keep.0 l there e)
    c.put_under-result.ensures.ok

pub returns-clause-err : goal.returns-clause-err
returns-clause-err t c =
    let x = c.bytes-name.result.now in
    let u = plain_of c.unwrap-inner.result in
    let w = plain_of c.put_under-result.new.tree in
    let es = c.in-Map.entries in
    let there : under x es ≡ Some u = sym c.swap.ensures.tree ∙ ap (option_map plain_of) c.unwrap-inner.ensures in
    let again = put_again x u plain.null w es c.swap.new.self c.put_back.new.entries there c.swap.ensures.rest c.put_back.ensures in
    on_err_weaker c.put_under-result.result
    (λ (e : w ≡ u). ap at (again ∙ ap (λ v. put x v es) e ∙ with_same x es u c.as_slice-pairs.ensures.keep.0 there) ∙ sym (ap plain_of c.in-Map.is))
    c.put_under-result.ensures.err
