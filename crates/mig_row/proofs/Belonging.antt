-- Where a name belongs.
use Rattle.std.proofs.Common.{◌≡◌, ℕ, List, Bool, true, false, Option, Some, None, refl}
use Rattle.std.specs.Prelude.{if◌then◌else◌}
use Rattle.mig_model.specs.declared.presence.Presence.{Presence}
use Rattle.mig_model.specs.Template.{Template}
use Rattle.mig_model.specs.Names.{under}
use Rattle.mig_row.specs.Row.{Row, Belongs, common, tagged, cased, unknown, is_tag, in_case, in_fields, belongs}

abbrev pub by_tests : Bool → Option (Presence × Template) → Option (Presence × Template) → Belongs
by_tests b o u = if b then tagged else in_fields o (in_case u)

-- the tests that lead to each answer
common_tests : (b : Bool) (o u : Option (Presence × Template)) (V : Template) → by_tests b o u ≡ common V → (q : Presence) × (o ≡ Some (q, V))
common_tests true o u V e = absurd cc
common_tests false (Some s) u V e = (s.0, (let is : s.1 ≡ V = cc in λ i. Some (s.0, is i)))
common_tests false None (Some s) V e = absurd cc
common_tests false None None V e = absurd cc

cased_tests : (b : Bool) (o u : Option (Presence × Template)) (V : Template) → by_tests b o u ≡ cased V → (q : Presence) × (u ≡ Some (q, V))
cased_tests true o u V e = absurd cc
cased_tests false (Some s) u V e = absurd cc
cased_tests false None (Some s) V e = (s.0, (let is : s.1 ≡ V = cc in λ i. Some (s.0, is i)))
cased_tests false None None V e = absurd cc

tagged_tests : (b : Bool) (o u : Option (Presence × Template)) → by_tests b o u ≡ tagged → b ≡ true
tagged_tests true o u e = refl
tagged_tests false (Some s) u e = absurd cc
tagged_tests false None (Some s) e = absurd cc
tagged_tests false None None e = absurd cc

pub record NoField (row : Row) (n : List ℕ) : Type 0 where
  pub tag : is_tag row.tag n ≡ false
  pub fields : under n row.fields ≡ None
  pub cases : under n row.cased ≡ None

unknown_tests : (b : Bool) (o u : Option (Presence × Template)) → by_tests b o u ≡ unknown → (b ≡ false) × (o ≡ None) × (u ≡ None)
unknown_tests true o u e = absurd cc
unknown_tests false (Some s) u e = absurd cc
unknown_tests false None (Some s) e = absurd cc
unknown_tests false None None e = (refl, refl, refl)

module _ (row : Row) (n : List ℕ) where
  pub common_found : (V : Template) → belongs row n ≡ common V → (q : Presence) × (under n row.fields ≡ Some (q, V))
  common_found V e = common_tests (is_tag row.tag n) (under n row.fields) (under n row.cased) V e

  pub cased_found : (V : Template) → belongs row n ≡ cased V → (q : Presence) × (under n row.cased ≡ Some (q, V))
  cased_found V e = cased_tests (is_tag row.tag n) (under n row.fields) (under n row.cased) V e

  pub tagged_found : belongs row n ≡ tagged → is_tag row.tag n ≡ true
  tagged_found e = tagged_tests (is_tag row.tag n) (under n row.fields) (under n row.cased) e

  pub unknown_found : belongs row n ≡ unknown → NoField row n
  unknown_found e = let t = unknown_tests (is_tag row.tag n) (under n row.fields) (under n row.cased) e in record { tag = t.0; fields = t.1; cases = t.2 }
