use Rattle.std.proofs.Common.{◌∙◌, ◌+◌, ◌∷◌, [], nat_eq, drop, refl, sym, ap}
use Rattle.std.proofs.lemmas.List.{at_drop_all}
use Rattle.indexmap.specs.IndexSet.{insert_all}
use Rattle.mig_schema.specs.Reach.{places}
use Rattle.mig_schema.proofs.Search.{both_inserted, names_more}
use Rattle.mig_schema.proofs.named.NamedTypes.add_places_of.Goals as goal

pub loop-name-preserved : goal.loop-name-preserved
loop-name-preserved c =
    let ts = c.args.self.now in
    let ns = c.args.names.now in
    let i = c.loop-name.name-index in
    let n = c.name-item.result in
    let found = c.loop-name.found.keys in
    let new = c.add_place.new.found.keys in
    let rest = drop (i + 1) ns in
    both_inserted ts found new (insert_all nat_eq new (places ts rest)) (n ∷ []) rest c.in_ok-add_place.ensures refl
    ∙ ap (insert_all nat_eq found) (names_more ts ns i n c.loop-name-test.true c.name-item.is) ∙ c.loop-name.invariant

pub returns : goal.returns
returns c =
    let ts = c.args.self.now in
    sym (at_drop_all (λ ns. insert_all nat_eq c.loop-name.found.keys (places ts ns)) c.args.names.now c.loop-name.name-index c.loop-name-test.false) ∙ c.loop-name.invariant
