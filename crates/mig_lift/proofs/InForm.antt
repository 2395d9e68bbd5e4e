-- A tree that can be written in a form is of the form.
use Rattle.std.proofs.Common.{◌≡◌, true, refl, ap, ◌∙◌}
use Rattle.mig_model.specs.declared.form.Form.{Form}
use Rattle.mig_model.specs.declared.form.Form.TheVariants as F
use Rattle.mig_model.specs.Plain as plain
use Rattle.mig_model.specs.Plain.{Plain, Trees, no_tree, tree, Pairs, no_pair, pair}
use Rattle.mig_model.specs.declared.kind.Kind.{Kind}
use Rattle.mig_model.specs.declared.kind.Kind.TheVariants as K
use Rattle.mig_model.specs.Kinds.{kind_of}
use Rattle.mig_model.specs.Template.{same_kind}
use Rattle.mig_model.specs.Inhabits.{are_of_kind, have_one_kind, is_in_form, items_in_form, entries_in_form}
use Rattle.mig_json.specs.Kinds.{IsJson, AreJson, ArePairsJson}
use Rattle.mig_nbt.specs.declared.tag.Tag.{Tag}
use Rattle.mig_nbt.specs.declared.tag.Tag.TheVariants as T
use Rattle.mig_nbt.specs.Writing.{tag_of_plain, element_of, AreOf, IsSpelled, AreSpelled, ArePairsSpelled}
use Rattle.mig_lift.specs.Writable.{IsWritable}
use Rattle.mig_model.proofs.SameNames.{same_kind_itself}

-- ---- items of one tag have one kind
abbrev kind_of_tag : Tag → Kind
kind_of_tag T.Byte = K.Byte
kind_of_tag T.Short = K.Short
kind_of_tag T.Int = K.Int
kind_of_tag T.Long = K.Long
kind_of_tag T.Float = K.Float
kind_of_tag T.Double = K.Double
kind_of_tag T.ByteArray = K.Bytes
kind_of_tag T.Text = K.Text
kind_of_tag T.Items = K.List
kind_of_tag T.Compound = K.Map
kind_of_tag T.IntArray = K.Ints
kind_of_tag T.LongArray = K.Longs
kind_of_tag T.End = K.Null

kind_is : (t : Plain) → IsSpelled t → kind_of t ≡ kind_of_tag (tag_of_plain t)
kind_is plain.null w = absurd w
kind_is (plain.boolean b) w = absurd w
kind_is (plain.whole z) w = absurd w
kind_is t w = refl

are_of : (k : Tag) (ts : Trees) → AreOf k ts → AreSpelled ts → are_of_kind (kind_of_tag k) ts ≡ true
are_of k no_tree a w = refl
are_of k (tree t ts) a w =
    let is : kind_of t ≡ kind_of_tag k = kind_is t w.0 ∙ ap kind_of_tag a.0 in
    let same : same_kind (kind_of t) (kind_of_tag k) ≡ true = ap (λ j. same_kind j (kind_of_tag k)) is ∙ same_kind_itself (kind_of_tag k) in
    rw (same, are_of k ts a.1 w.1) refl

one_kind : (ts : Trees) → AreOf (element_of ts) ts → AreSpelled ts → have_one_kind ts ≡ true
one_kind no_tree a w = refl
one_kind (tree t ts) a w = ap (λ k. are_of_kind k ts) (kind_is t w.0) ∙ are_of (tag_of_plain t) ts a.1 w.1

mutual
  spelled_in_form : (t : Plain) → IsSpelled t → is_in_form F.Nbt t ≡ true
  spelled_in_form (plain.list ts) w = rw (one_kind ts w.1 w.2, items_spelled ts w.2) refl
  spelled_in_form (plain.map ps) w = pairs_spelled ps w
  spelled_in_form plain.null w = absurd w
  spelled_in_form (plain.boolean b) w = absurd w
  spelled_in_form (plain.whole z) w = absurd w
  spelled_in_form _ w = refl

  items_spelled : (ts : Trees) → AreSpelled ts → items_in_form F.Nbt ts ≡ true
  items_spelled no_tree w = refl
  items_spelled (tree t ts) w = rw (spelled_in_form t w.0, items_spelled ts w.1) refl

  pairs_spelled : (ps : Pairs) → ArePairsSpelled ps → entries_in_form F.Nbt ps ≡ true
  pairs_spelled no_pair w = refl
  pairs_spelled (pair n t ps) w = rw (spelled_in_form t w.1, pairs_spelled ps w.2) refl

mutual
  json_in_form : (t : Plain) → IsJson t → is_in_form F.Json t ≡ true
  json_in_form (plain.text b) w = refl
  json_in_form (plain.list ts) w = items_json ts w
  json_in_form (plain.map ps) w = pairs_json ps w
  json_in_form plain.null w = refl
  json_in_form (plain.boolean b) w = refl
  json_in_form (plain.whole z) w = refl
  json_in_form _ w = absurd w

  items_json : (ts : Trees) → AreJson ts → items_in_form F.Json ts ≡ true
  items_json no_tree w = refl
  items_json (tree t ts) w = rw (json_in_form t w.0, items_json ts w.1) refl

  pairs_json : (ps : Pairs) → ArePairsJson ps → entries_in_form F.Json ps ≡ true
  pairs_json no_pair w = refl
  pairs_json (pair n t ps) w = rw (json_in_form t w.1, pairs_json ps w.2) refl

pub in_form : (form : Form) (t : Plain) → IsWritable form t → is_in_form form t ≡ true
in_form F.Nbt t w = spelled_in_form t w
in_form F.Json t w = json_in_form t w
