use Rattle.std.specs.Prelude.{map, string_bytes}
use Rattle.mig_run.proofs.Asking.{nothing_asked, runs, of_asked}
use Rattle.mig_run.proofs.top_call.ending_of_words.Goals as goal

pub returns-clause-told : goal.returns-clause-told
returns-clause-told g c held h = runs (map string_bytes c.args.words.now) held _ _ _ _ (c.answer.ensures.told held h)

pub returns-clause-usage : goal.returns-clause-usage
returns-clause-usage g c h = c.answer.ensures.usage (nothing_asked (map string_bytes c.args.words.now) h)

pub returns-clause-lines : goal.returns-clause-lines
returns-clause-lines g c a h = of_asked (map string_bytes c.args.words.now) _ c.answer.ensures.lines a h
