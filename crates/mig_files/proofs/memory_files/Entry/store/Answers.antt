use Rattle.std.proofs.Common.{◌≡◌, ◌<◌, sym, ap, ◌∙◌, refl, Ok, Err, length, map, arith}
use Rattle.std_collections.specs.Layout.BTreeMap.{seek}
use Rattle.mig_files.specs.Held.{Key}
use Rattle.mig_files.specs.Entries.{entry_of, by_key}
use Rattle.mig_files.specs.declared.memory_files.Entry.{Entry}
use Rattle.mig_files.proofs.Lists.{held_set, ordered_set, held_insert, ordered_insert}
use Rattle.mig_files.proofs.memory_files.Entry.store.Goals as goal

pub returns-in-Ok-clause-ordered : goal.returns-in-Ok-clause-ordered
returns-in-Ok-clause-ordered c =
    let k : Key = (c.args.folder.now, c.args.name.now) in
    let xs = c.args.entries.now.items in
    let d = c.index_mut.result.now in
    let y : Entry = record { folder = d.folder; name = d.name; bytes = c.replace-old.new.dest } in
    let at : seek (by_key k) (map entry_of xs) ≡ Ok c.in-Ok.at = ap (λ l. seek (by_key k) (map entry_of l)) (sym c.deref.ensures.value) ∙ sym c.in-Ok.ensures.place in
    ordered_set entry_of k c.args.bytes.now xs c.in-Ok.at d y at c.index_mut.ensures.value refl
    (ap (λ v. v.items) c.replace-old.ensures.after ∙ c.in_ok-bytes.ensures.items) c.requires

pub returns-in-Ok-clause-ok : goal.returns-in-Ok-clause-ok
returns-in-Ok-clause-ok c =
    let k : Key = (c.args.folder.now, c.args.name.now) in
    let xs = c.args.entries.now.items in
    let d = c.index_mut.result.now in
    let y : Entry = record { folder = d.folder; name = d.name; bytes = c.replace-old.new.dest } in
    let at : seek (by_key k) (map entry_of xs) ≡ Ok c.in-Ok.at = ap (λ l. seek (by_key k) (map entry_of l)) (sym c.deref.ensures.value) ∙ sym c.in-Ok.ensures.place in
    let within : c.in-Ok.at < length xs = grind arith in
    held_set entry_of k c.args.bytes.now xs c.in-Ok.at d y at within c.index_mut.ensures.value refl
    (ap (λ v. v.items) c.replace-old.ensures.after ∙ c.in_ok-bytes.ensures.items)

pub returns-in_ok-insert-in-Err-clause-ordered : goal.returns-in_ok-insert-in-Err-clause-ordered
returns-in_ok-insert-in-Err-clause-ordered c =
    let k : Key = (c.args.folder.now, c.args.name.now) in
    let xs = c.args.entries.now.items in
    let y : Entry = record { folder = c.in_ok-folder-in-Err.folder; name = c.in_ok-name-in-Err.name; bytes = c.in_ok-bytes.bytes } in
    let at : seek (by_key k) (map entry_of xs) ≡ Err c.in-Err.at = ap (λ l. seek (by_key k) (map entry_of l)) (sym c.deref.ensures.value) ∙ sym c.in-Err.ensures.place in
    rw c.in_ok-insert-in-Err.ensures.items
    (ordered_insert entry_of k c.args.bytes.now xs c.in-Err.at y c.requires at
    (λ i. ((c.in_ok-folder-in-Err.ensures.ok i, c.in_ok-name-in-Err.ensures.ok i), c.in_ok-bytes.ensures.items i)))

pub returns-in_ok-insert-in-Err-clause-ok : goal.returns-in_ok-insert-in-Err-clause-ok
returns-in_ok-insert-in-Err-clause-ok c =
    let k : Key = (c.args.folder.now, c.args.name.now) in
    let xs = c.args.entries.now.items in
    let y : Entry = record { folder = c.in_ok-folder-in-Err.folder; name = c.in_ok-name-in-Err.name; bytes = c.in_ok-bytes.bytes } in
    let at : seek (by_key k) (map entry_of xs) ≡ Err c.in-Err.at = ap (λ l. seek (by_key k) (map entry_of l)) (sym c.deref.ensures.value) ∙ sym c.in-Err.ensures.place in
    rw c.in_ok-insert-in-Err.ensures.items
    (held_insert entry_of k c.args.bytes.now xs c.in-Err.at y c.requires at
    (λ i. ((c.in_ok-folder-in-Err.ensures.ok i, c.in_ok-name-in-Err.ensures.ok i), c.in_ok-bytes.ensures.items i)))
