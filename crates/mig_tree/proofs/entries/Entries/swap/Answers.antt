use Rattle.std.proofs.Common.{◌≡◌, ◌∙◌, ◌<◌, ◌^◌, ℕ, List, Some, sym, ap, subst, length, map, get_or, Ok, true, false, is_some, rules, arith, slice_set, if◌then◌else◌}
use Rattle.std.proofs.lemmas.Map.Lookups.{exact_bytes}
use Rattle.std_collections.specs.Layout.BTreeMap.{seek}
use Rattle.mig_model.specs.Keeps.{IsShort, Keeps}
use Rattle.mig_model.specs.Names.{by_bytes, put, under}
use Rattle.mig_model.proofs.Searches.{key_there, replaced}
use Rattle.mig_tree.specs.View.{plain_of, entry_of}
use Rattle.mig_tree.specs.declared.entries.Entry.{Entry}
use Rattle.mig_tree.specs.declared.tree.Tree.{Tree}
use Rattle.mig_tree.proofs.Kept.{replaced_keeps}
use Rattle.mig_tree.proofs.Places.{tree_there, no_tree_there}
use Rattle.mig_tree.proofs.entries.Entries.swap.Goals as goal

-- the entry at the place has the name, so the place is that of its name
module _ (name : List ℕ) (xs : List Entry) (i : ℕ) (old : Entry) (at : seek (by_bytes name) (map entry_of xs) ≡ Ok i) (within : i < length xs) (there : old ≡ get_or xs i old) where
  named : old.name ≡ name
  named = key_there exact_bytes entry_of name xs i old at within there

  at_its_name : seek (by_bytes old.name) (map entry_of xs) ≡ Ok i
  at_its_name = ap (λ n. seek (by_bytes n) (map entry_of xs)) named ∙ at

pub invariant_of-self : goal.invariant_of-self
invariant_of-self c =
    let xs = c.self.inside.list.items in
    let old = c.index_mut.result.now in
    let at : seek (by_bytes c.args.name.now) (map entry_of xs) ≡ Ok c.in-Ok.at = grind arith in
    let within : c.in-Ok.at < length xs = grind arith in
    let is : old ≡ get_or xs c.in-Ok.at old = search rules in
    let kept : Keeps (plain_of c.replace.new.dest) = subst (λ (t : Tree). Keeps (plain_of t)) (sym c.replace.ensures.after) c.keeps.ensures in
    let few : length c.args.name.now < 2 ^ 64 = grind arith in
    replaced_keeps xs c.in-Ok.at (record { name = old.name; tree = c.replace.new.dest }) c.self.invariant (at_its_name c.args.name.now xs c.in-Ok.at old at within is)
    (subst IsShort (sym (named c.args.name.now xs c.in-Ok.at old at within is)) few) kept

pub returns-in-Ok-clause-tree : goal.returns-in-Ok-clause-tree
returns-in-Ok-clause-tree c =
    ap (λ (t : Tree). Some (plain_of t)) c.replace.ensures.value
    ∙ tree_there c.args.name.now c.self.inside.list.items c.args.self.now c.self.view_is c.in-Ok.at c.index_mut.result.now (grind arith) (grind arith) (search rules)

pub returns-in-Ok-clause-rest : goal.returns-in-Ok-clause-rest
returns-in-Ok-clause-rest c =
    let xs = c.self.inside.list.items in
    let old = c.index_mut.result.now in
    let e : Entry = record { name = old.name; tree = c.replace.new.dest } in
    let at : seek (by_bytes c.args.name.now) (map entry_of xs) ≡ Ok c.in-Ok.at = grind arith in
    let within : c.in-Ok.at < length xs = grind arith in
    let is : old ≡ get_or xs c.in-Ok.at old = search rules in
    let written : map entry_of (slice_set xs c.in-Ok.at e) ≡ put c.args.name.now (plain_of c.args.tree) c.args.self.now =
    replaced exact_bytes entry_of xs c.in-Ok.at e (at_its_name c.args.name.now xs c.in-Ok.at old at within is)
    ∙ ap (λ n. put n (plain_of c.replace.new.dest) (map entry_of xs)) (named c.args.name.now xs c.in-Ok.at old at within is)
    ∙ ap (λ (t : Tree). put c.args.name.now (plain_of t) (map entry_of xs)) c.replace.ensures.after
    ∙ ap (put c.args.name.now (plain_of c.args.tree)) c.self.view_is in
    let some : is_some (under c.args.name.now c.args.self.now) ≡ true = sym (ap is_some (tree_there c.args.name.now xs c.args.self.now c.self.view_is c.in-Ok.at old at within is)) in
    written ∙ sym (ap (λ b. if b then put c.args.name.now (plain_of c.args.tree) c.args.self.now else c.args.self.now) some)

pub returns-in-Err-clause-tree : goal.returns-in-Err-clause-tree
returns-in-Err-clause-tree c = no_tree_there c.args.name.now c.self.inside.list.items c.args.self.now c.self.view_is c.in-Err.field-0 c.self.invariant.0 (grind arith)

pub returns-in-Err-clause-rest : goal.returns-in-Err-clause-rest
returns-in-Err-clause-rest c =
    let none : is_some (under c.args.name.now c.args.self.now) ≡ false =
    sym (ap is_some (no_tree_there c.args.name.now c.self.inside.list.items c.args.self.now c.self.view_is c.in-Err.field-0 c.self.invariant.0 (grind arith))) in
    sym (ap (λ b. if b then put c.args.name.now (plain_of c.args.tree) c.args.self.now else c.args.self.now) none)
