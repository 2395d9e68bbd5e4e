-- Plain trees as stored values, so that a struct may have them as its value.
use Rattle.std.specs.Prelude.{ℕ, List, ◌≡◌, refl, Option, Some, None}
use Rattle.std.specs.Coded.{Coded, code_by, coded_ℕ, coded_ℤ, coded_bool, coded_list, coded_option, coded×}
use Rattle.std.proofs.Common.{ap, ap₂, arith}
use base.Stored.{Gv, gnil, gnum, gcons, num}
use Rattle.mig_model.specs.Plain.{Plain, byte, short, int, long, float, double, text, bytes, ints, longs, list, map, null, boolean, whole, Trees, no_tree, tree, Pairs, no_pair, pair}
use Rattle.mig_model.specs.Stored.{head, tail, coded_name}
use Rattle.mig_model.specs.Place.{PlaceStep, Place, named, index}

abbrev mutual
  pub code_plain : Plain → Gv
  code_plain (byte z) = gcons (gnum 0) (coded_ℤ.code z)
  code_plain (short z) = gcons (gnum 1) (coded_ℤ.code z)
  code_plain (int z) = gcons (gnum 2) (coded_ℤ.code z)
  code_plain (long z) = gcons (gnum 3) (coded_ℤ.code z)
  code_plain (float n) = gcons (gnum 4) (gnum n)
  code_plain (double n) = gcons (gnum 5) (gnum n)
  code_plain (text b) = gcons (gnum 6) (coded_name.code b)
  code_plain (bytes b) = gcons (gnum 7) (coded_name.code b)
  code_plain (ints b) = gcons (gnum 8) (coded_name.code b)
  code_plain (longs b) = gcons (gnum 9) (coded_name.code b)
  code_plain (list ts) = gcons (gnum 10) (code_trees ts)
  code_plain (map ps) = gcons (gnum 11) (code_pairs ps)
  code_plain null = gcons (gnum 12) gnil
  code_plain (boolean b) = gcons (gnum 13) (coded_bool.code b)
  code_plain (whole z) = gcons (gnum 14) (coded_ℤ.code z)

  pub code_trees : Trees → Gv
  code_trees no_tree = gnil
  code_trees (tree t ts) = gcons (code_plain t) (code_trees ts)

  pub code_pairs : Pairs → Gv
  code_pairs no_pair = gnil
  code_pairs (pair k t ps) = gcons (gcons (coded_name.code k) (code_plain t)) (code_pairs ps)

mutual
  pub inj_plain : (x y : Plain) → code_plain x ≡ code_plain y → x ≡ y
  inj_plain (byte a) (byte b) p = ap byte (coded_ℤ.inj a b (ap tail p))
  inj_plain (short a) (short b) p = ap short (coded_ℤ.inj a b (ap tail p))
  inj_plain (int a) (int b) p = ap int (coded_ℤ.inj a b (ap tail p))
  inj_plain (long a) (long b) p = ap long (coded_ℤ.inj a b (ap tail p))
  inj_plain (float a) (float b) p = ap float (coded_ℕ.inj a b (ap tail p))
  inj_plain (double a) (double b) p = ap double (coded_ℕ.inj a b (ap tail p))
  inj_plain (text a) (text b) p = ap text (coded_name.inj a b (ap tail p))
  inj_plain (bytes a) (bytes b) p = ap bytes (coded_name.inj a b (ap tail p))
  inj_plain (ints a) (ints b) p = ap ints (coded_name.inj a b (ap tail p))
  inj_plain (longs a) (longs b) p = ap longs (coded_name.inj a b (ap tail p))
  inj_plain (list a) (list b) p = ap list (inj_trees a b (ap tail p))
  inj_plain (map a) (map b) p = ap map (inj_pairs a b (ap tail p))
  inj_plain null null p = refl
  inj_plain (boolean a) (boolean b) p = ap boolean (coded_bool.inj a b (ap tail p))
  inj_plain (whole a) (whole b) p = ap whole (coded_ℤ.inj a b (ap tail p))
  inj_plain x y p =
      let e : num (head (code_plain x)) ≡ num (head (code_plain y)) = ap (λ g. num (head g)) p in
      absurd (omega arith)

  pub inj_trees : (x y : Trees) → code_trees x ≡ code_trees y → x ≡ y
  inj_trees no_tree no_tree p = refl
  inj_trees (tree a as') (tree b bs') p = ap₂ tree (inj_plain a b (ap head p)) (inj_trees as' bs' (ap tail p))
  inj_trees _ _ p = cc

  pub inj_pairs : (x y : Pairs) → code_pairs x ≡ code_pairs y → x ≡ y
  inj_pairs no_pair no_pair p = refl
  inj_pairs (pair k a as') (pair l b bs') p =
      let kk : k ≡ l = coded_name.inj k l (ap (λ g. head (head g)) p) in
      let tt' : a ≡ b = inj_plain a b (ap (λ g. tail (head g)) p) in
      let rr : as' ≡ bs' = inj_pairs as' bs' (ap tail p) in
      cc
  inj_pairs _ _ p = cc

abbrev pub coded_plain : Coded Plain
coded_plain = record { code = code_plain; inj = inj_plain }

abbrev pub coded_items : Coded (List Plain)
coded_items = coded_list coded_plain

abbrev pub coded_entries : Coded (List (List ℕ × Plain))
coded_entries = coded_list (coded× coded_name coded_plain)

abbrev step_parts : PlaceStep → Option (List ℕ) × ℕ
step_parts (named n) = (Some n, 0)
step_parts (index i) = (None, i)

abbrev step_from : Option (List ℕ) × ℕ → PlaceStep
step_from p = from p.0 p.1
  where
    from : Option (List ℕ) → ℕ → PlaceStep
    from (Some n) i = named n
    from None i = index i

pub step_again : (s : PlaceStep) → step_from (step_parts s) ≡ s
step_again (named n) = refl
step_again (index i) = refl

abbrev pub coded_step : Coded PlaceStep
coded_step = code_by (Option (List ℕ) × ℕ) (coded× (coded_option coded_name) coded_ℕ) step_parts step_from step_again

abbrev pub coded_place : Coded Place
coded_place = coded_list coded_step
