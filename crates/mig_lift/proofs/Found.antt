-- What is under a name of a JSON tree is a JSON tree.
use Rattle.std.proofs.Common.{◌≡◌, ℕ, List, [], ◌∷◌, Bool, true, false, cond, Some, subst}
use Rattle.std.specs.Ordering.{is_eq}
use Rattle.mig_model.specs.Plain as plain
use Rattle.mig_model.specs.Plain.{Plain, pairs_of, entries}
use Rattle.mig_model.specs.Names.{by_bytes, under}
use Rattle.mig_model.specs.Kinds.{get_in}
use Rattle.mig_json.specs.Kinds.{IsJson, ArePairsJson}

entries_json : (ps : plain.Pairs) → ArePairsJson ps → ArePairsJson (pairs_of (entries ps))
entries_json plain.no_pair j = tt
entries_json (plain.pair k t ps) j = (j.0, j.1, entries_json ps j.2)

found_json : (x : List ℕ) (ps : List (List ℕ × Plain)) (t : Plain) → ArePairsJson (pairs_of ps) → under x ps ≡ Some t → IsJson t
found_json x [] t j e = absurd cc
found_json x (p ∷ ps) t j e = by (is_eq (by_bytes x p.0)) (found_json x ps t j.2) e
  where
    same : (u v : Plain) → Some u ≡ Some v → u ≡ v
    same u v h = cc

    by : (b : Bool) → (under x ps ≡ Some t → IsJson t) → cond b (Some p.1) (under x ps) ≡ Some t → IsJson t
    by true rest h = subst IsJson (same p.1 t h) j.1
    by false rest h = rest h

pub got_json : (x : List ℕ) (u t : Plain) → get_in x t ≡ Some u → IsJson t → IsJson u
got_json x u (plain.map ps) e j = found_json x (entries ps) u (entries_json ps j) e
got_json x u _ e j = absurd cc
