use Rattle.std.proofs.Common.{nat_eq, sym, ◌∙◌}
use Rattle.std.specs.Cmp.Lexicographic.{pointwise}
use Rattle.indexmap.proofs.CallerLemmas.{insert_entry-new}
use Rattle.mig_schema.proofs.Types.{none_if_not_some}
use Rattle.mig_schema.proofs.named.add.Goals as goal

pub returns-clause-last : goal.returns-clause-last
returns-clause-last c =
    λ new. c.in_ok-before.ensures.entries
    ∙ insert_entry-new (pointwise nat_eq) c.args.map.now c.args.name c.args.template (sym c.in_ok-before.ensures.old ∙ none_if_not_some c.in_ok-before.before c.is_none.result c.is_none.ensures new)
