-- What was rejoined of foci that can be given back is parted into these foci and the same rest.
use Rattle.std.proofs.Common.{◌≡◌, ◌+◌, ◌∙◌, sym, ap, ap₂, subst, refl, ℕ, suc, List, [], ◌∷◌, ◌++◌, length, map, take, drop, Bool, true, false, Option, Some, None, arith}
use Rattle.std.specs.Prelude.{option_to_list, is_some, IsTrue, if◌then◌else◌}
use Rattle.std.specs.List.{flat_map, AllByRecursion}
use Rattle.mig_value.specs.Typed.{Typed, list, left, right, rec, point, Tag}
use Rattle.mig_path.specs.declared.side.Side.TheVariants.{Left, Right}
use Rattle.mig_path.specs.Fields.{null, value_under, with_value_under, value_in, with_value, tag_of, has_literal, is_tagged_as}
use Rattle.mig_path.specs.Path.{Path, here, field_at, may_field, case_of, each, side, cross, then_, Takes, foci, crossed, total_of}
use Rattle.mig_path.specs.Rest.{Residual, whole, stays, hole, many, both, rest_for, field_rest, part_of, groups_of, join, joins, EachGroup, GivesBack}
use Rattle.mig_path.specs.Laws.{PartsInto, CanRejoin}
use Rattle.std.proofs.Math.Seq.{take-append_seam, drop-append_seam}
use Rattle.std.proofs.lemmas.List.{length-append, length-drop, length-take-le, take-append-drop}
use Rattle.mig_path.proofs.Records.{with_with, under_with}
use Rattle.mig_path.proofs.Over.{parted, fits}
use Rattle.mig_value.proofs.Views.{items_again}

alone : (P : List Typed → Type 0) (fs : List Typed) → length fs ≡ 1 → ((w : Typed) → P (w ∷ [])) → P fs
alone P [] n h = absurd (omega arith)
alone P (w ∷ []) n h = h w
alone P (w ∷ u ∷ fs) n h = absurd (omega arith)

nothing : (P : List Typed → Type 0) (fs : List Typed) → length fs ≡ 0 → P [] → P fs
nothing P [] n h = h
nothing P (w ∷ fs) n h = absurd (omega arith)

-- ---- a value under a name
there : (x : List ℕ) (u w v : Typed) → value_under x v ≡ Some u → value_under x (with_value_under x w (with_value_under x null v)) ≡ Some w
there x u w v e = under_with x null w (with_value_under x null v) (under_with x u null v e)

rest_again : (x : List ℕ) (u w v : Typed) → value_under x v ≡ Some u → field_rest x (value_under x (with_value_under x w (with_value_under x null v))) (with_value_under x w (with_value_under x null v)) ≡ field_rest x (value_under x v) v
rest_again x u w v e =
    ap (λ (o : Option Typed). field_rest x o (with_value_under x w (with_value_under x null v))) (there x u w v e)
    ∙ ap (hole x) (with_with x null w (with_value_under x null v) ∙ with_with x null null v)
    ∙ sym (ap (λ (o : Option Typed). field_rest x o v) e)

field_again : (x : List ℕ) (v : Typed) (fs : List Typed) (o : Option Typed) → value_under x v ≡ o → IsTrue (is_some o) → length fs ≡ length (option_to_list o) → PartsInto (field_at x) (join (field_rest x o v) fs) fs v
field_again x v fs None e t n = absurd (let h : false ≡ true = t in cc)
field_again x v fs (Some u) e t n =
    alone (λ l. PartsInto (field_at x) (join (hole x (with_value_under x null v)) l) l v) fs n
    (λ w. record {
      takes = ap is_some (there x u w v e);
      foci_are = ap (λ (o : Option Typed). option_to_list o) (there x u w v e);
      rest_is = rest_again x u w v e;
      crosses = refl;
    })

stays_record : (x y : List ℕ) (w v : Typed) → Takes (may_field x) v → Takes (may_field x) (with_value_under y w v)
stays_record x y w (rec fs tag cs rs) t = by (is_some (value_in y fs))
  where
    by : (b : Bool) → Takes (may_field x) (if b then rec (with_value y w fs) tag cs rs else rec fs tag (with_value y w cs) rs)
    by true = tt
    by false = tt
stays_record x y w v t = absurd t

may_again : (x : List ℕ) (v : Typed) (fs : List Typed) (o : Option Typed) → value_under x v ≡ o → Takes (may_field x) v → length fs ≡ length (option_to_list o) → PartsInto (may_field x) (join (field_rest x o v) fs) fs v
may_again x v fs None e t n =
    nothing (λ l. PartsInto (may_field x) v l v) fs n (record { takes = t; foci_are = ap (λ (o : Option Typed). option_to_list o) e; rest_is = refl; crosses = refl })
may_again x v fs (Some u) e t n =
    alone (λ l. PartsInto (may_field x) (join (hole x (with_value_under x null v)) l) l v) fs n
    (λ w. record {
      takes = stays_record x x w (with_value_under x null v) (stays_record x x null v t);
      foci_are = ap (λ (o : Option Typed). option_to_list o) (there x u w v e);
      rest_is = rest_again x u w v e;
      crosses = refl;
    })

-- ---- a case
has_tag : (l : List ℕ) (o : Option Tag) → is_tagged_as l o ≡ true → IsTrue (is_some o)
has_tag l None h = h
has_tag l (Some t) h = refl

case_again : (l : List ℕ) (v : Typed) (fs : List Typed) (b : Bool) → has_literal l v ≡ b → Takes (case_of l) v → length fs ≡ length (if b then v ∷ [] else []) → AllByRecursion (λ w. IsTrue (has_literal l w)) fs → PartsInto (case_of l) (join (if b then whole else stays v) fs) fs v
case_again l v fs true e t n =
    alone (λ k. AllByRecursion (λ w. IsTrue (has_literal l w)) k → PartsInto (case_of l) (join whole k) k v) fs n
    (λ w g. record {
      takes = has_tag l (tag_of w) g.0;
      foci_are = ap (λ b. if b then w ∷ [] else []) g.0;
      rest_is = ap (λ b. if b then whole else stays w) g.0 ∙ sym (ap (λ b. if b then whole else stays v) e);
      crosses = refl;
    })
case_again l v fs false e t n =
    nothing (λ k. AllByRecursion (λ w. IsTrue (has_literal l w)) k → PartsInto (case_of l) v k v) fs n
    (λ g. record { takes = t; foci_are = ap (λ b. if b then v ∷ [] else []) e; rest_is = refl; crosses = refl })

-- ---- the second optic, at each focus of the first
pub record EachAgain (q : Path) (ws us fs : List Typed) : Type 0 where
  pub takes : AllByRecursion (Takes q) us
  pub foci_are : flat_map (foci q) us ≡ fs
  pub parts_are : map (part_of q) us ≡ map (part_of q) ws
  pub as_many : length us ≡ length ws
  pub crosses : total_of (crossed q) us ≡ total_of (crossed q) ws

abbrev Again : Path → Type 0
Again o = (v : Typed) (fs : List Typed) → Takes o v → length fs ≡ length (foci o v) → GivesBack o (rest_for o v) fs → PartsInto o (join (rest_for o v) fs) fs v

each_again : (q : Path) → Again q → (ws fs : List Typed) → AllByRecursion (Takes q) ws → length fs ≡ length (flat_map (foci q) ws) → EachGroup (GivesBack q) (groups_of (map (part_of q) ws)) fs → EachAgain q ws (joins (groups_of (map (part_of q) ws)) fs) fs
each_again q again [] fs t n g = nothing (λ l. EachAgain q [] [] l) fs n (record { takes = tt; foci_are = refl; parts_are = refl; as_many = refl; crosses = refl })
each_again q again (w ∷ ws) fs t n g =
    let k : ℕ = length (foci q w) in
    let all : length fs ≡ k + length (flat_map (foci q) ws) = n ∙ length-append (foci q w) (flat_map (foci q) ws) in
    let front : length (take k fs) ≡ k = length-take-le k fs (omega (arith, all)) in
    let here = again w (take k fs) t.0 front g.0 in
    let rest = each_again q again ws (drop k fs) t.1 (omega (arith, all, length-drop k fs)) g.1 in
    record {
      takes = (here.takes, rest.takes);
      foci_are = ap₂ (λ (a b : List Typed). a ++ b) here.foci_are rest.foci_are ∙ take-append-drop k fs;
      parts_are = ap₂ (λ (a : ℕ × Residual) (l : List (ℕ × Residual)). a ∷ l) (ap₂ (λ (m : ℕ) (r : Residual). (m, r)) (ap length here.foci_are ∙ front) here.rest_is) rest.parts_are;
      as_many = ap suc rest.as_many;
      crosses = ap₂ (λ (a b : ℕ). a + b) here.crosses rest.crosses;
    }

then_again : (p q : Path) (v : Typed) (us fs : List Typed) → PartsInto p (join (rest_for p v) us) us v → EachAgain q (foci p v) us fs → PartsInto (then_ p q) (join (rest_for p v) us) fs v
then_again p q v us fs first second = record {
  takes = (first.takes, subst (AllByRecursion (Takes q)) (sym first.foci_are) second.takes);
  foci_are = ap (flat_map (foci q)) first.foci_are ∙ second.foci_are;
  rest_is = ap₂ (λ (r : Residual) (l : List (ℕ × Residual)). both r (groups_of l)) first.rest_is (ap (map (part_of q)) first.foci_are ∙ second.parts_are);
  crosses = ap₂ (λ (a b : ℕ). a + b) first.crosses (ap (total_of (crossed q)) first.foci_are ∙ second.crosses);
}

pub again : (o : Path) → Again o
again here v fs t n g = alone (λ l. PartsInto here (join whole l) l v) fs n (λ w. record { takes = tt; foci_are = refl; rest_is = refl; crosses = refl })
again (field_at x) v fs t n g = field_again x v fs (value_under x v) refl t n
again (may_field x) v fs t n g = may_again x v fs (value_under x v) refl t n
again (case_of l) v fs t n g = case_again l v fs (has_literal l v) refl t n g
again each (list vs) fs t n g =
    record { takes = tt; foci_are = items_again fs; rest_is = ap many (ap length (items_again fs) ∙ n); crosses = refl }
again each v fs t n g = absurd t
again (side Left) (left v) fs t n g =
    alone (λ l. PartsInto (side Left) (join (rest_for (side Left) (left v)) l) l (left v)) fs n (λ w. record { takes = tt; foci_are = refl; rest_is = refl; crosses = refl })
again (side Left) (right v) fs t n g =
    nothing (λ l. PartsInto (side Left) (right v) l (right v)) fs n (record { takes = tt; foci_are = refl; rest_is = refl; crosses = refl })
again (side Right) (left v) fs t n g =
    nothing (λ l. PartsInto (side Right) (left v) l (left v)) fs n (record { takes = tt; foci_are = refl; rest_is = refl; crosses = refl })
again (side Right) (right v) fs t n g =
    alone (λ l. PartsInto (side Right) (join (rest_for (side Right) (right v)) l) l (right v)) fs n (λ w. record { takes = tt; foci_are = refl; rest_is = refl; crosses = refl })
again (side s) v fs t n g = absurd t
again cross (point m v) fs t n g =
    alone (λ l. PartsInto cross (join (rest_for cross (point m v)) l) l (point m v)) fs n (λ w. record { takes = tt; foci_are = refl; rest_is = refl; crosses = refl })
again cross v fs t n g = absurd t
again (then_ p q) v fs t n g =
    let us : List Typed = joins (groups_of (map (part_of q) (foci p v))) fs in
    let second = each_again q (again q) (foci p v) fs t.1 n g.0 in
    then_again p q v us fs (again p v us t.0 second.as_many g.1) second

-- ---- the foci of a value can be given back
case_back : (l : List ℕ) (v : Typed) (b : Bool) → has_literal l v ≡ b → AllByRecursion (λ w. IsTrue (has_literal l w)) (if b then v ∷ [] else [])
case_back l v true e = (e, tt)
case_back l v false e = tt

joins_parted : (q : Path) (ws : List Typed) → AllByRecursion (Takes q) ws → joins (groups_of (map (part_of q) ws)) (flat_map (foci q) ws) ≡ ws
joins_parted q [] t = refl
joins_parted q (w ∷ ws) t =
    rw (take-append_seam (foci q w) (flat_map (foci q) ws), drop-append_seam (foci q w) (flat_map (foci q) ws))
    (ap₂ (λ (x : Typed) (l : List Typed). x ∷ l) (parted q w t.0) (joins_parted q ws t.1))

each_back : (q : Path) → ((v : Typed) → Takes q v → GivesBack q (rest_for q v) (foci q v)) → (ws : List Typed) → AllByRecursion (Takes q) ws → EachGroup (GivesBack q) (groups_of (map (part_of q) ws)) (flat_map (foci q) ws)
each_back q h [] t = tt
each_back q h (w ∷ ws) t =
    rw (take-append_seam (foci q w) (flat_map (foci q) ws), drop-append_seam (foci q w) (flat_map (foci q) ws)) (h w t.0, each_back q h ws t.1)

pub gives_back : (o : Path) (v : Typed) → Takes o v → GivesBack o (rest_for o v) (foci o v)
gives_back (case_of l) v t = case_back l v (has_literal l v) refl
gives_back (then_ p q) v t = (each_back q (gives_back q) (foci p v) t.1, subst (GivesBack p (rest_for p v)) (sym (joins_parted q (foci p v) t.1)) (gives_back p v t.0))
gives_back o v t = tt

pub can_rejoin : (o : Path) (v : Typed) → Takes o v → CanRejoin o v
can_rejoin o v t = record { fits = fits o v t; gives_back = gives_back o v t }
