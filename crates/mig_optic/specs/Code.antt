-- Optics as stored values, so that a struct may have one as its value, and their sizes.
use Rattle.std.specs.Prelude.{ℕ, suc, ◌+◌, ◌≡◌, refl}
use Rattle.std.specs.Coded.{Coded}
use Rattle.std.proofs.Common.{ap, ap₂, arith}
use base.Stored.{Gv, gnil, gnum, gcons, num}
use Rattle.mig_model.specs.Stored.{head, tail, coded_name}
use Rattle.mig_path.specs.declared.side.Side.{Side}
use Rattle.mig_path.specs.declared.side.Side.TheVariants.{Left, Right}
use Rattle.mig_path.specs.Path.{Path, here, field_at, may_field, case_of, each, side, cross, then_}
use Rattle.mig_path.specs.Rest.{many}

abbrev pub side_number : Side → ℕ
side_number Left = 0
side_number Right = 1

inj_side : (s t : Side) → side_number s ≡ side_number t → s ≡ t
inj_side Left Left p = refl
inj_side Right Right p = refl
inj_side _ _ p = absurd (omega arith)

abbrev pub code_path : Path → Gv
code_path here = gcons (gnum 0) gnil
code_path (field_at x) = gcons (gnum 1) (coded_name.code x)
code_path (may_field x) = gcons (gnum 2) (coded_name.code x)
code_path (case_of x) = gcons (gnum 3) (coded_name.code x)
code_path each = gcons (gnum 4) gnil
code_path (side s) = gcons (gnum 5) (gnum (side_number s))
code_path cross = gcons (gnum 6) gnil
code_path (then_ p q) = gcons (gnum 7) (gcons (code_path p) (code_path q))

pub inj_path : (x y : Path) → code_path x ≡ code_path y → x ≡ y
inj_path here here p = refl
inj_path (field_at a) (field_at b) p = ap field_at (coded_name.inj a b (ap tail p))
inj_path (may_field a) (may_field b) p = ap may_field (coded_name.inj a b (ap tail p))
inj_path (case_of a) (case_of b) p = ap case_of (coded_name.inj a b (ap tail p))
inj_path each each p = refl
inj_path (side a) (side b) p = ap side (inj_side a b (ap (λ g. num (tail g)) p))
inj_path cross cross p = refl
inj_path (then_ a b) (then_ c d) p = ap₂ then_ (inj_path a c (ap (λ g. head (tail g)) p)) (inj_path b d (ap (λ g. tail (tail g)) p))
inj_path x y p =
    let e : num (head (code_path x)) ≡ num (head (code_path y)) = ap (λ g. num (head g)) p in
    absurd (omega arith)

abbrev pub coded_path : Coded Path
coded_path = record { code = code_path; inj = inj_path }

-- how many optics there are in one
abbrev pub path_size : Path → ℕ
path_size (then_ p q) = suc (path_size p + path_size q)
path_size _ = 1
