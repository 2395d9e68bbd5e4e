use Rattle.std.proofs.Common.{rules, ◌∙◌, sym, ap}
use Rattle.mig_tree.specs.View.{plain_of}
use Rattle.std.specs.Prelude.{option_map}
use Rattle.mig_model.specs.Plain as plain
use Rattle.mig_schema.proofs.Spots.{at, no_rest, some_rest, version_one, version_none, version_more, strip_one, strip_none, strip_more, still_there, nothing_taken, put_again}
use Rattle.mig_schema.proofs.version.+take_out.Goals as goal

pub returns-then-is_empty-clause-version : goal.returns-then-is_empty-clause-version
returns-then-is_empty-clause-version t c =
    let x = c.bytes-name.result.now in
    let rest = c.in_ok-first.rest.now in
    version_one c.args.names.now x rest (plain_of c.args.tree.now) c.in-Map.entries (search rules) (ap plain_of c.in-Map.is) (option_map plain_of c.remove.result) (no_rest rest c.is_empty.result c.is_empty.ensures c.if-is_empty.true) c.remove.ensures.tree

pub returns-then-is_empty-clause-rest : goal.returns-then-is_empty-clause-rest
returns-then-is_empty-clause-rest t c =
    let x = c.bytes-name.result.now in
    let rest = c.in_ok-first.rest.now in
    ap at c.remove.ensures.rest
    ∙ strip_one c.args.names.now x rest (plain_of c.args.tree.now) c.in-Map.entries (search rules) (ap plain_of c.in-Map.is) (no_rest rest c.is_empty.result c.is_empty.ensures c.if-is_empty.true)

pub returns-in_default-swap-clause-version : goal.returns-in_default-swap-clause-version
returns-in_default-swap-clause-version t c =
    let x = c.bytes-name.result.now in
    let rest = c.in_ok-first.rest.now in
    version_none c.args.names.now x rest (plain_of c.args.tree.now) c.in-Map.entries (search rules) (ap plain_of c.in-Map.is) (sym c.in_default-swap.ensures.tree)

pub returns-in_default-swap-clause-rest : goal.returns-in_default-swap-clause-rest
returns-in_default-swap-clause-rest t c =
    let x = c.bytes-name.result.now in
    let rest = c.in_ok-first.rest.now in
    let none = sym c.in_default-swap.ensures.tree in
    ap at (nothing_taken x plain.null c.in-Map.entries c.swap.new.self none c.swap.ensures.rest)
    ∙ strip_none c.args.names.now x rest (plain_of c.args.tree.now) c.in-Map.entries (search rules) (ap plain_of c.in-Map.is) (some_rest rest c.is_empty.result c.is_empty.ensures c.if-is_empty.false) none

pub put_back-requires : goal.put_back-requires
put_back-requires t c =
    still_there c.bytes-name.result.now (plain_of c.in-Some.inner) plain.null c.in-Map.entries c.swap.new.self (sym c.in-Some.ensures.tree) c.swap.ensures.rest

pub returns-clause-version : goal.returns-clause-version
returns-clause-version t c =
    let x = c.bytes-name.result.now in
    let rest = c.in_ok-first.rest.now in
    version_more c.args.names.now x rest (plain_of c.args.tree.now) c.in-Map.entries (search rules) (ap plain_of c.in-Map.is) (option_map plain_of c.take_out-taken.result) (plain_of c.in-Some.inner)
    (some_rest rest c.is_empty.result c.is_empty.ensures c.if-is_empty.false) (sym c.in-Some.ensures.tree) c.take_out-taken.ensures.version

pub returns-clause-rest : goal.returns-clause-rest
returns-clause-rest t c =
    let x = c.bytes-name.result.now in
    let rest = c.in_ok-first.rest.now in
    let there = sym c.in-Some.ensures.tree in
    let w = plain_of c.take_out-taken.new.tree in
    ap at (put_again x (plain_of c.in-Some.inner) plain.null w c.in-Map.entries c.swap.new.self c.put_back.new.entries there c.swap.ensures.rest c.put_back.ensures)
    ∙ strip_more c.args.names.now x rest (plain_of c.args.tree.now) c.in-Map.entries (search rules) (ap plain_of c.in-Map.is) (plain_of c.in-Some.inner) w c.as_slice-pairs.ensures.keep.0
    (some_rest rest c.is_empty.result c.is_empty.ensures c.if-is_empty.false) there c.take_out-taken.ensures.rest
