-- The edits of a map keep the JSON form.
use Rattle.std.proofs.Common.{ℕ, List, [], ◌∷◌, Bool, true, false, IsUtf8}
use Rattle.std.specs.declared.cmp.Ordering.{Ordering}
use Rattle.std.specs.declared.cmp.Ordering.TheVariants.{Less, Equal, Greater}
use Rattle.std.specs.Ordering.{match_ordering}
use Rattle.std.specs.Prelude.{cond}
use Rattle.std.specs.BTreeMap.{is_at}
use Rattle.mig_model.specs.Plain as plain
use Rattle.mig_model.specs.Plain.{Plain, pairs_of, entries}
use Rattle.mig_model.specs.Names.{by_bytes, without, put}
use Rattle.mig_model.specs.Kinds.{put_in, removed}
use Rattle.mig_json.specs.Kinds.{IsJson, ArePairsJson}

abbrev Pair : Type 0
Pair = List ℕ × Plain

abbrev AllJson : List Pair → Type 0
AllJson ps = ArePairsJson (pairs_of ps)

entries_json : (ps : plain.Pairs) → ArePairsJson ps → AllJson (entries ps)
entries_json plain.no_pair j = tt
entries_json (plain.pair k t ps) j = (j.0, j.1, entries_json ps j.2)

without_json : (name : List ℕ) (ps : List Pair) → AllJson ps → AllJson (without name ps)
without_json name [] j = tt
without_json name (p ∷ ps) j = by (is_at (by_bytes name) p.0) (without_json name ps j.2)
  where
    by : (at : Bool) → AllJson (without name ps) → AllJson (cond at ps (p ∷ without name ps))
    by true rest = j.2
    by false rest = (j.0, j.1, rest)

with_json : (name : List ℕ) (t : Plain) (ps : List Pair) → IsUtf8 name → IsJson t → AllJson ps → AllJson (put name t ps)
with_json name t [] u k j = (u, k, tt)
with_json name t (p ∷ ps) u k j = by (by_bytes name p.0) (with_json name t ps u k j.2)
  where
    by : (o : Ordering) → AllJson (put name t ps) → AllJson (match_ordering o ((name, t) ∷ p ∷ ps) ((p.0, t) ∷ ps) (p ∷ put name t ps))
    by Less rest = (u, k, j)
    by Equal rest = (j.0, k, j.2)
    by Greater rest = (j.0, j.1, rest)

-- a JSON tree without a name
pub removed_json : (name : List ℕ) (t : Plain) → IsJson t → IsJson (removed name t)
removed_json name (plain.map ps) j = without_json name (entries ps) (entries_json ps j)
removed_json name _ j = j

-- a JSON tree with a pair
pub put_json : (name : List ℕ) (t u : Plain) → IsUtf8 name → IsJson t → IsJson u → IsJson (put_in name t u)
put_json name t (plain.map ps) n k j = with_json name t (entries ps) n k (entries_json ps j)
put_json name t _ n k j = j
