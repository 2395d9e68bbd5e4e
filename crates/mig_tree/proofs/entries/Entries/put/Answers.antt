use Rattle.std.proofs.Common.{◌≡◌, ◌∙◌, sym, ap, subst, List, length, map, rules, arith, slice_set}
use Rattle.std.specs.List.{insert}
use Rattle.std.proofs.lemmas.Map.Lookups.{exact_bytes}
use Rattle.mig_model.specs.Names.{put}
use Rattle.mig_tree.specs.View.{plain_of, entry_of}
use Rattle.mig_tree.specs.declared.entries.Entry.{Entry}
use Rattle.mig_model.proofs.Searches.{inserted, replaced}
use Rattle.mig_model.specs.Keeps.{EntriesKeep}
use Rattle.mig_tree.proofs.Kept.{inserted_keeps, replaced_keeps}
use Rattle.mig_tree.proofs.entries.Entries.put.Goals as goal

pub invariant_of-self : goal.invariant_of-self
invariant_of-self c =
    let xs = c.self.inside.list.items in
    let e : Entry = record { name = c.args.name; tree = c.args.tree } in
    let is : c.replace-old.new.dest ≡ e = search rules in
    subst (λ (x : Entry). EntriesKeep (map entry_of (slice_set xs c.in-Ok.at x))) (sym is) (replaced_keeps xs c.in-Ok.at e c.self.invariant (grind arith) c.keeps.ensures c.keeps-2.ensures)

pub returns-in-Ok-clause-ok : goal.returns-in-Ok-clause-ok
returns-in-Ok-clause-ok c =
    let xs = c.self.inside.list.items in
    let e : Entry = record { name = c.args.name; tree = c.args.tree } in
    let is : c.replace-old.new.dest ≡ e = search rules in
    ap (λ (x : Entry). map entry_of (slice_set xs c.in-Ok.at x)) is ∙ replaced exact_bytes entry_of xs c.in-Ok.at e (grind arith) ∙ ap (put c.args.name (plain_of c.args.tree)) c.self.view_is

pub invariant_of-self-in-Err : goal.invariant_of-self-in-Err
invariant_of-self-in-Err c =
    let xs = c.self.inside.list.items in
    let e : Entry = record { name = c.args.name; tree = c.args.tree } in
    let is : c.insert.new.self.items ≡ insert xs c.in-Err.at e = search rules in
    subst (λ (l : List Entry). EntriesKeep (map entry_of l)) (sym is) (inserted_keeps xs c.in-Err.at e c.self.invariant (grind arith) c.keeps.ensures c.keeps-2.ensures (omega (arith, ap length is)))

pub returns-in_ok-insert-in-Err-clause-ok : goal.returns-in_ok-insert-in-Err-clause-ok
returns-in_ok-insert-in-Err-clause-ok c =
    let xs = c.self.inside.list.items in
    let e : Entry = record { name = c.args.name; tree = c.args.tree } in
    let is : c.insert.new.self.items ≡ insert xs c.in-Err.at e = search rules in
    ap (λ (l : List Entry). map entry_of l) is ∙ inserted exact_bytes entry_of xs c.in-Err.at e (grind arith) ∙ ap (put c.args.name (plain_of c.args.tree)) c.self.view_is
