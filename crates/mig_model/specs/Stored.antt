-- Names and kinds as stored values, so that a struct may have them as its value, and the parts of a stored pair.
use Rattle.std.specs.Prelude.{ℕ, List, ◌≡◌, refl}
use Rattle.std.specs.List.{slice_index_or}
use Rattle.std.specs.Coded.{Coded, code_by, coded_ℕ, coded_list}
use base.Stored.{Gv, gnil, gnum, gcons}
use Rattle.mig_model.specs.declared.kind.Kind.{Kind}
use Rattle.mig_model.specs.declared.kind.Kind.TheVariants as K
use Rattle.mig_model.specs.Family.{kinds}
use Rattle.mig_model.specs.Template.{kind_number}

abbrev pub head : Gv → Gv
head gnil = gnil
head (gnum n) = gnil
head (gcons a b) = a

abbrev pub tail : Gv → Gv
tail gnil = gnil
tail (gnum n) = gnil
tail (gcons a b) = b

abbrev pub coded_name : Coded (List ℕ)
coded_name = coded_list coded_ℕ

abbrev kind_from : ℕ → Kind
kind_from n = slice_index_or kinds n K.Byte

pub kind_again : (k : Kind) → kind_from (kind_number k) ≡ k
kind_again K.Byte = refl
kind_again _ = refl

abbrev pub coded_kind : Coded Kind
coded_kind = code_by ℕ coded_ℕ kind_number kind_from kind_again
