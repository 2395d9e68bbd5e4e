use Rattle.std.proofs.Common.{◌≡◌, ◌<◌, Some, Ok, length, map, sym, ap, ◌∙◌, arith}
use Rattle.std_collections.specs.Layout.BTreeMap.{seek}
use Rattle.mig_files.specs.Held.{Key}
use Rattle.mig_files.specs.Entries.{entry_of, by_key}
use Rattle.mig_files.proofs.Lists.{place_found, no_place}
use Rattle.mig_files.proofs.memory_files.Entry.bytes_in.Goals as goal

pub returns-in-Ok : goal.returns-in-Ok
returns-in-Ok c =
    let xs = c.args.entries.now in
    let k : Key = (c.args.folder.now, c.args.name.now) in
    let e = c.index-entries-at.result in
    let at : seek (by_key k) (map entry_of xs) ≡ Ok c.in-Ok.at = sym c.in-Ok.ensures.place in
    let within : c.in-Ok.at < length xs = grind arith in
    ap (λ b. Some b) (c.as_slice.ensures.value ∙ ap (λ x. x.bytes.items) (sym c.index-entries-at.is)) ∙ sym (place_found entry_of k xs c.in-Ok.at e at within c.index-entries-at.is)

pub returns-in-Err : goal.returns-in-Err
returns-in-Err c = sym (no_place entry_of (c.args.folder.now, c.args.name.now) c.args.entries.now c.in-Err.field-0 c.requires (sym c.in-Err.ensures.place))
