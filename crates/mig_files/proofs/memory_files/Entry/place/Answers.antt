use Rattle.std.proofs.Common.{rules}
use Rattle.std.proofs.lemmas.Fn.{always_returns_same}
use Rattle.mig_model.proofs.Searches.{searched}
use Rattle.mig_files.specs.Held.{Key}
use Rattle.mig_files.specs.Entries.{entry_of, by_key}
use Rattle.mig_files.proofs.Lists.{by_key_total}
use Rattle.mig_files.proofs.memory_files.Entry.place.Goals as goal

pub returns-clause-place : goal.returns-clause-place
returns-clause-place c =
    let key : Key = (c.args.folder.now, c.args.name.now) in
    let facts = c.binary_search_by.ensures in
    searched by_key_total entry_of key c.args.entries.now c.binary_search_by.result c.requires facts.bound
    (facts.position (λ e. by_key (entry_of e).0 key) (always_returns_same _ _ _ (λ a r f' q. (search rules, search rules))))
