-- The value of a tree that a function fits has the kind that comes out.
use Rattle.std.proofs.Common.{◌≡◌, Bool, true, false, ◌&&◌, ℤ, Option, Some, None, refl, sym, ap, ◌∙◌, ◌||◌}
use Rattle.std.specs.Prelude.{IsTrue, int_le, is_some, unwrap_or, option_map}
use Rattle.std.specs.Bool.{then_some}
use Rattle.mig_model.specs.declared.kind.Kind.{Kind}
use Rattle.mig_model.specs.declared.kind.Kind.TheVariants as K
use Rattle.mig_model.specs.Plain.{Plain}
use Rattle.mig_model.specs.Kinds.{kind_of}
use Rattle.mig_model.specs.Const as model
use Rattle.mig_model.specs.Const.{Const, const_kind, const_tree}
use Rattle.mig_model.specs.Leaf.{LeafFn, is_text, constant, plus, times, clamp_to, to_kind, to_text, of_text, table, prefix, strip, lower, is_whole_number, is_in, clamp, clamped, number_tree, spelled, text_of, leaf_out, leaf_value}
use Rattle.mig_model.specs.Template.{same_kind, is_leaf}
use Rattle.mig_leaf.proofs.Numbers.{clamped_between}
use Rattle.mig_model.proofs.Bools.{first_true, second_true}

pub const_has_kind : (c : Const) → kind_of (const_tree c) ≡ const_kind c
const_has_kind (model.byte z) = refl
const_has_kind _ = refl

number_has_kind : (k : Kind) (z : ℤ) → is_whole_number k ≡ true → kind_of (number_tree k z) ≡ k
number_has_kind K.Byte z h = refl
number_has_kind K.Short z h = refl
number_has_kind K.Int z h = refl
number_has_kind K.Long z h = refl
number_has_kind K.Whole z h = refl
number_has_kind _ z h = absurd (let no : false ≡ true = h in cc)

read_has_kind : (c : Const) (o : Option ℤ) → is_whole_number (const_kind c) ≡ true → kind_of (unwrap_or (option_map (number_tree (const_kind c)) o) (const_tree c)) ≡ const_kind c
read_has_kind c None h = const_has_kind c
read_has_kind c (Some z) h = number_has_kind (const_kind c) z h

-- where the test holds, the kind that it gives is the value's
out_is : (b : Bool) (k j : Kind) → IsTrue (is_some (then_some b k)) → (b ≡ true → j ≡ k) → then_some b k ≡ Some j
out_is true k j h is = ap Some (sym (is refl))
out_is false k j h is = absurd (let no : false ≡ true = h in cc)

pub value_has_kind : (f : LeafFn) (t : Plain) → IsTrue (is_some (leaf_out f (kind_of t))) → leaf_out f (kind_of t) ≡ Some (kind_of (leaf_value f t))
value_has_kind (constant c) t h = out_is (is_leaf (kind_of t)) (const_kind c) (kind_of (const_tree c)) h (λ _. const_has_kind c)
value_has_kind (plus n) t h = out_is (is_whole_number (kind_of t)) (kind_of t) _ h (number_has_kind (kind_of t) _)
value_has_kind (times n) t h = out_is (is_whole_number (kind_of t)) (kind_of t) _ h (number_has_kind (kind_of t) _)
value_has_kind (clamp_to low high) t h =
    let k = kind_of t in
    out_is (is_whole_number k && is_in k low && is_in k high && int_le low high) k _ h
    (λ e. number_has_kind k _ (first_true (is_whole_number k) (is_in k low) (first_true (is_whole_number k && is_in k low) (is_in k high) (first_true (is_whole_number k && is_in k low && is_in k high) (int_le low high) e))))
value_has_kind (to_kind j) t h = out_is (is_whole_number j && is_whole_number (kind_of t)) j _ h (λ e. number_has_kind j _ (first_true (is_whole_number j) (is_whole_number (kind_of t)) e))
value_has_kind to_text t h = out_is (is_whole_number (kind_of t) || same_kind K.Bool (kind_of t) || is_text (kind_of t)) K.Text K.Text h (λ _. refl)
value_has_kind (of_text c) t h =
    out_is (is_text (kind_of t) && is_whole_number (const_kind c)) (const_kind c) _ h
    (λ e. read_has_kind c (spelled (const_kind c) (text_of t)) (second_true (is_text (kind_of t)) (is_whole_number (const_kind c)) e))
value_has_kind (table ps) t h = out_is (is_text (kind_of t)) K.Text K.Text h (λ _. refl)
value_has_kind (prefix p) t h = out_is (is_text (kind_of t)) K.Text K.Text h (λ _. refl)
value_has_kind (strip p) t h = out_is (is_text (kind_of t)) K.Text K.Text h (λ _. refl)
value_has_kind lower t h = out_is (is_text (kind_of t)) K.Text K.Text h (λ _. refl)

pub kind_out : (f : LeafFn) (t r : Plain) → IsTrue (is_some (leaf_out f (kind_of t))) → r ≡ leaf_value f t → leaf_out f (kind_of t) ≡ Some (kind_of r)
kind_out f t r h is = value_has_kind f t h ∙ ap (λ u. Some (kind_of u)) (sym is)

-- ---- what a clamping function that fits asks of its bounds
test_holds : (b : Bool) (k : Kind) → IsTrue (is_some (then_some b k)) → b ≡ true
test_holds true k h = refl
test_holds false k h = absurd (let no : false ≡ true = h in cc)

pub clamp_value : (k : Kind) (low high z : ℤ) → IsTrue (is_some (leaf_out (clamp_to low high) k)) → clamped k (clamp low high z) ≡ number_tree k (clamp low high z)
clamp_value k low high z h =
    let all = test_holds (is_whole_number k && is_in k low && is_in k high && int_le low high) k h in
    let three = first_true (is_whole_number k && is_in k low && is_in k high) (int_le low high) all in
    let two = first_true (is_whole_number k && is_in k low) (is_in k high) three in
    clamped_between k low high z (second_true (is_whole_number k) (is_in k low) two) (second_true (is_whole_number k && is_in k low) (is_in k high) three)
    (second_true (is_whole_number k && is_in k low && is_in k high) (int_le low high) all)
