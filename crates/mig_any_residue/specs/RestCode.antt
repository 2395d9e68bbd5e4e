-- Rests as stored values, so that a struct may have one as its value, and their sizes.
use Rattle.std.specs.Prelude.{ℕ, suc, ◌+◌, List, ◌≡◌, refl}
use Rattle.std.specs.Coded.{Coded, coded_ℕ, coded_list, coded×}
use Rattle.std.proofs.Common.{ap, ap₂, arith}
use base.Stored.{Gv, gnil, gnum, gcons, num}
use Rattle.mig_model.specs.Stored.{head, tail, coded_name}
use Rattle.mig_value.specs.Code.{coded_typed}
use Rattle.mig_path.specs.Rest.{Residual, whole, stays, hole, many, in_left, in_right, named, both, Groups, no_group, group, groups_of}

abbrev mutual
  pub code_rest : Residual → Gv
  code_rest whole = gcons (gnum 0) gnil
  code_rest (stays v) = gcons (gnum 1) (coded_typed.code v)
  code_rest (hole x v) = gcons (gnum 2) (gcons (coded_name.code x) (coded_typed.code v))
  code_rest (many n) = gcons (gnum 3) (gnum n)
  code_rest in_left = gcons (gnum 4) gnil
  code_rest in_right = gcons (gnum 5) gnil
  code_rest (named n) = gcons (gnum 6) (coded_name.code n)
  code_rest (both r gs) = gcons (gnum 7) (gcons (code_rest r) (code_groups gs))

  pub code_groups : Groups → Gv
  code_groups no_group = gnil
  code_groups (group n r gs) = gcons (gcons (gnum n) (code_rest r)) (code_groups gs)

mutual
  pub inj_rest : (x y : Residual) → code_rest x ≡ code_rest y → x ≡ y
  inj_rest whole whole p = refl
  inj_rest (stays a) (stays b) p = ap stays (coded_typed.inj a b (ap tail p))
  inj_rest (hole x v) (hole y w) p = ap₂ hole (coded_name.inj x y (ap (λ g. head (tail g)) p)) (coded_typed.inj v w (ap (λ g. tail (tail g)) p))
  inj_rest (many a) (many b) p = ap many (coded_ℕ.inj a b (ap tail p))
  inj_rest in_left in_left p = refl
  inj_rest in_right in_right p = refl
  inj_rest (named a) (named b) p = ap named (coded_name.inj a b (ap tail p))
  inj_rest (both a b) (both c d) p = ap₂ both (inj_rest a c (ap (λ g. head (tail g)) p)) (inj_groups b d (ap (λ g. tail (tail g)) p))
  inj_rest x y p =
      let e : num (head (code_rest x)) ≡ num (head (code_rest y)) = ap (λ g. num (head g)) p in
      absurd (omega arith)

  pub inj_groups : (x y : Groups) → code_groups x ≡ code_groups y → x ≡ y
  inj_groups no_group no_group p = refl
  inj_groups (group m a gs) (group n b hs) p =
      let same_count : m ≡ n = coded_ℕ.inj m n (ap (λ g. head (head g)) p) in
      let same_rest : a ≡ b = inj_rest a b (ap (λ g. tail (head g)) p) in
      let same_groups : gs ≡ hs = inj_groups gs hs (ap tail p) in
      cc
  inj_groups _ _ p = cc

abbrev pub coded_rest : Coded Residual
coded_rest = record { code = code_rest; inj = inj_rest }

abbrev pub coded_groups : Coded (List (ℕ × Residual))
coded_groups = coded_list (coded× coded_ℕ coded_rest)

-- how many rests there are in one
abbrev mutual
  pub rest_size : Residual → ℕ
  rest_size (both r gs) = suc (rest_size r + groups_size gs)
  rest_size _ = 1

  pub groups_size : Groups → ℕ
  groups_size no_group = 0
  groups_size (group n r gs) = suc (rest_size r + groups_size gs)

abbrev pub list_size : List (ℕ × Residual) → ℕ
list_size gs = groups_size (groups_of gs)
