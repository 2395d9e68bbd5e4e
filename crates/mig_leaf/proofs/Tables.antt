-- What stands for a text in pairs in order is what stands for it in the first such pair of those given.
use Rattle.std.proofs.Common.{◌≡◌, ℕ, List, [], ◌∷◌, Bool, true, false, cond, Option, Some, None, refl, sym, ap, ◌∙◌}
use Rattle.std.specs.Prelude.{is_some, find, option_map, option_and_then, bytes_eq, if◌then◌else◌}
use Rattle.std.proofs.lemmas.Map.Text.{is_eq-slice_cmp}
use Rattle.std.proofs.lemmas.Option.{same_Some}
use Rattle.mig_model.specs.Names.{same_name, under, has, put, gathered}
use Rattle.mig_model.specs.Leaf.{looked_up}
use Rattle.mig_model.specs.Record.{IsOrderOf}
use Rattle.mig_model.proofs.Ascending.{gathered_complete}
use Rattle.mig_model.proofs.Edits.{under-put}
use Rattle.mig_model.proofs.SameNames.{same_name_flips}

abbrev Pairs : Type 0
Pairs = List (List ℕ × List ℕ)

looked_up_one : (p : List ℕ × List ℕ) (ps : Pairs) (s : List ℕ) (o : Option (List ℕ)) → o ≡ looked_up ps s → (if same_name s p.0 then Some p.1 else o) ≡ looked_up (p ∷ ps) s
looked_up_one p ps s o rest = ap (λ b. if b then Some p.1 else o) (same_name_flips s p.0 ∙ is_eq-slice_cmp p.0 s) ∙ by (bytes_eq p.0 s)
  where
    by : (b : Bool) → (if b then Some p.1 else o) ≡ option_map (λ (q : List ℕ × List ℕ). q.1) (cond b (Some p) (find (λ q. bytes_eq q.0 s) ps))
    by true = refl
    by false = rest

gathered_finds : (ps qs : Pairs) → gathered ps ≡ Some qs → (s : List ℕ) → under s qs ≡ looked_up ps s
gathered_finds [] qs e s = ap (under s) (sym (same_Some [] qs e))
gathered_finds (p ∷ ps) qs e s = by (gathered ps) (gathered_finds ps) e
  where
    put_first : (rs : Pairs) → (if has p.0 rs then None else Some (put p.0 p.1 rs)) ≡ Some qs → under s rs ≡ looked_up ps s → (b : Bool) → has p.0 rs ≡ b → under s qs ≡ looked_up (p ∷ ps) s
    put_first rs is rest true there = absurd (let no : None ≡ Some qs = sym (ap (λ (b : Bool). if b then None else Some (put p.0 p.1 rs)) there) ∙ is in cc)
    put_first rs is rest false none =
        let same : put p.0 p.1 rs ≡ qs = same_Some (put p.0 p.1 rs) qs (sym (ap (λ (b : Bool). if b then None else Some (put p.0 p.1 rs)) none) ∙ is) in
        ap (under s) (sym same) ∙ under-put p.0 p.1 rs s ∙ looked_up_one p ps s (under s rs) rest

    by : (o : Option Pairs) → ((rs : Pairs) → o ≡ Some rs → (t : List ℕ) → under t rs ≡ looked_up ps t) → option_and_then (λ (rs : Pairs). if has p.0 rs then None else Some (put p.0 p.1 rs)) o ≡ Some qs → under s qs ≡ looked_up (p ∷ ps) s
    by None rest is = absurd (let no : None ≡ Some qs = is in cc)
    by (Some rs) rest is = put_first rs is (rest rs refl s) (has p.0 rs) refl

pub order_finds : (ps qs : Pairs) → IsOrderOf ps qs → (s : List ℕ) → under s qs ≡ looked_up ps s
order_finds ps qs h s = gathered_finds ps qs (gathered_complete ps qs h.same h.ascend) s
