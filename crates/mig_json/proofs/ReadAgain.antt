-- The canonical text of a tree reads as the value of the tree.
use Rattle.std.proofs.Common.{◌≡◌, ℕ, ◌≤◌, pos, negsuc, ℤ, List, [], ◌∷◌, ◌++◌, Option, Some, option_map, refl, sym, ap, subst, ◌∙◌, arith, append_assoc, append-nil}
use Rattle.std.specs.Prelude.{option_and_then}
use Rattle.json.specs.Lex.{tokens}
use Rattle.json.specs.Json as json
use Rattle.json.specs.Tree as tree
use Rattle.json.proofs.Printed.Trees.{value-json_tokens}
use Rattle.serde_json.specs.Data as value
use Rattle.serde_json.specs.Data.{Data, Members, put, depth, items_depth, members_depth}
use Rattle.serde_json.specs.Find.{of_integer}
use Rattle.serde_json.specs.Read.{read, max_depth, of_json, of_items, of_members, number_of}
use Rattle.serde_json.specs.Written.{outline, items_outline, members_outline, number_text}
use Rattle.serde_json.proofs.Numbers.{number_of-decimal, number_of-negative}
use Rattle.mig_model.specs.Plain as plain
use Rattle.mig_model.specs.Plain.{Plain, entries, pairs_of}
use Rattle.mig_model.specs.Names.{Ascends}
use Rattle.mig_model.specs.Keeps.{Keeps, AllKeep, AllPairsKeep}
use Rattle.mig_tree.proofs.Places.{pairs_back}
use Rattle.mig_json.specs.Writing.{data_of, items_of, members_of}
use Rattle.mig_json.proofs.Parts.{put_last}
use Rattle.std.specs.Prelude.{FitsSigned}
use Rattle.std.specs.Int.{w64}

abbrev Pair : Type 0
Pair = List ℕ × Plain

mutual
  outline_depth : (d : Data) → tree.depth (outline d) ≤ depth d
  outline_depth (value.array ds) = omega (arith, outline_items ds)
  outline_depth (value.object ms) = omega (arith, outline_members ms)
  outline_depth _ = omega arith

  outline_items : (ds : value.Items) → tree.items_depth (items_outline ds) ≤ items_depth ds
  outline_items value.no_items = omega arith
  outline_items (value.item d ds) = omega (arith, outline_depth d, outline_items ds)

  outline_members : (ms : Members) → tree.members_depth (members_outline ms) ≤ members_depth ms
  outline_members value.no_members = omega arith
  outline_members (value.member k d ms) = omega (arith, outline_depth d, outline_members ms)

whole_read : (z : ℤ) → FitsSigned w64 z → number_of (number_text (of_integer z)) ≡ Some (of_integer z)
whole_read (pos n) h = number_of-decimal n (omega (arith, h.sfits))
whole_read (negsuc n) h = number_of-negative n h.sfits

item_read : (o : Option Data) (js : Option value.Items) (d : Data) (ds : value.Items) → o ≡ Some d → js ≡ Some ds → option_and_then (λ x. option_map (value.item x) js) o ≡ Some (value.item d ds)
item_read o js d ds e f = rw (e, f) refl

member_read : (o : Option Data) (d : Data) (k : List ℕ) (ms : json.Members) (found : Members) → o ≡ Some d → option_and_then (λ x. of_members ms (put k x found)) o ≡ of_members ms (put k d found)
member_read o d k ms found e = rw e refl

mutual
  pub tree_read : (t : Plain) → Keeps t → of_json (outline (data_of t)) ≡ Some (data_of t)
  tree_read (plain.whole z) h = ap (option_map value.number) (whole_read z h)
  tree_read (plain.list ts) h = ap (option_map value.array) (items_read ts h.1)
  tree_read (plain.map ps) h =
      ap (option_map value.object) (members_read [] ps h.0 h.2 ∙ ap (λ (qs : plain.Pairs). Some (members_of qs)) (pairs_back ps))
  tree_read _ h = refl

  items_read : (ts : plain.Trees) → AllKeep ts → of_items (items_outline (items_of ts)) ≡ Some (items_of ts)
  items_read plain.no_tree h = refl
  items_read (plain.tree t ts) h = item_read (of_json (outline (data_of t))) (of_items (items_outline (items_of ts))) (data_of t) (items_of ts) (tree_read t h.0) (items_read ts h.1)

  members_read : (done : List Pair) (ps : plain.Pairs) → Ascends (done ++ entries ps) → AllPairsKeep ps
      → of_members (members_outline (members_of ps)) (members_of (pairs_of done)) ≡ Some (members_of (pairs_of (done ++ entries ps)))
  members_read done plain.no_pair named h = ap (λ (qs : List Pair). Some (members_of (pairs_of qs))) (sym (append-nil done))
  members_read done (plain.pair k t ps) named h =
      let ms = members_outline (members_of ps) in
      let here = member_read (of_json (outline (data_of t))) (data_of t) k ms (members_of (pairs_of done)) (tree_read t h.1) in
      let last = put_last done (k, t) (entries ps) named in
      let apart : (done ++ (k, t) ∷ []) ++ entries ps ≡ done ++ (k, t) ∷ entries ps = append_assoc done ((k, t) ∷ []) (entries ps) in
      let later = members_read (done ++ (k, t) ∷ []) ps (subst (λ (qs : List Pair). Ascends qs) (sym apart) named) h.2 in
      here ∙ ap (of_members ms) last ∙ later ∙ ap (λ (qs : List Pair). Some (members_of (pairs_of qs))) apart

-- whatever text has the tokens of the value
pub read_again : (t : Plain) (b : List ℕ) → tokens b ≡ tree.json_tokens (outline (data_of t)) → Keeps t → depth (data_of t) ≤ max_depth → read b ≡ Some (data_of t)
read_again t b e h shallow =
    let j = outline (data_of t) in
    let one : json.value max_depth (tokens b) ≡ Some (j, []) = ap (json.value max_depth) (e ∙ sym (append-nil (tree.json_tokens j))) ∙ value-json_tokens j max_depth [] (omega (arith, outline_depth (data_of t), shallow)) in
    ap (λ x. option_and_then of_json (option_and_then (λ p. json.if_last p.0 p.1) x)) one ∙ tree_read t h
