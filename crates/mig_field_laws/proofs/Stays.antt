-- A treatment leaves a tree as it is where no point stands in the template, or where it does nothing.
use Rattle.std.proofs.Common.{◌≡◌, ℕ, List, Bool, true, refl, ap, ap₂, arith}
use Rattle.std.specs.Prelude.{map, if◌then◌else◌}
use Rattle.mig_model.specs.declared.form.Form.{Form}
use Rattle.mig_model.specs.Plain as plain
use Rattle.mig_model.specs.Plain.{Plain, Trees, no_tree, tree, Pairs, no_pair, pair, trees_of, items, pairs_of, entries, on_items, on_entries, each_entry}
use Rattle.mig_model.specs.Kinds.{kind_of}
use Rattle.mig_model.specs.Template.{Template, leaf, any, list, point, rec, sum, Fields, no_field, field, Choice, no_choice, choice, Cases, no_case, case, has_kind}
use Rattle.mig_model.specs.Names.{same_name}
use Rattle.mig_model.specs.Inhabits.{Entries, has_tag}
use Rattle.mig_model.specs.Family.{any_in_fields, any_in_choice, any_in_cases, is_point, has_point}
use Rattle.mig_model.proofs.Bools.{left_or, right_or}
use Rattle.mig_fold.specs.Fold.{treat, treat_fields, treat_choice, treat_cases}
use Rattle.mig_fold.proofs.Treats.{Treatment}

-- lists and maps whose parts stay
items_stay : (f : Plain → Plain) → ((t : Plain) → f t ≡ t) → (ts : Trees) → trees_of (map f (items ts)) ≡ ts
items_stay f e no_tree = refl
items_stay f e (tree t ts) = ap₂ tree (e t) (items_stay f e ts)

pairs_stay : (g : Treatment) → ((n : List ℕ) (t : Plain) → g n t ≡ t) → (ps : Pairs) → pairs_of (each_entry g (entries ps)) ≡ ps
pairs_stay g e no_pair = refl
pairs_stay g e (pair n t ps) = ap₂ (pair n) (e n t) (pairs_stay g e ps)

list_stays : (f : Plain → Plain) → ((t : Plain) → f t ≡ t) → (t : Plain) → on_items f t ≡ t
list_stays f e (plain.list ts) = ap plain.list (items_stay f e ts)
list_stays f e t = refl

map_stays : (g : Entries → Treatment) → ((es : Entries) (n : List ℕ) (t : Plain) → g es n t ≡ t) → (t : Plain) → on_entries (λ es. each_entry (g es) es) t ≡ t
map_stays g e (plain.map ps) = ap plain.map (pairs_stay (g (entries ps)) (e (entries ps)) ps)
map_stays g e t = refl

either_stays : (a b : Bool) (x y t : Plain) → x ≡ t → y ≡ t → (if a then x else (if b then y else t)) ≡ t
either_stays a b x y t e f = grind (arith, e, f)

test_stays : (a : Bool) (x y t : Plain) → x ≡ t → y ≡ t → (if a then x else y) ≡ t
test_stays a x y t e f = grind (arith, e, f)

module _ (form : Form) (h : Treatment) where
  abbrev pub Leaves : Treatment → Type 0
  Leaves g = (n : List ℕ) (t : Plain) → g n t ≡ t

  mutual
    pub stays : (V : Template) → (has_point V ≡ true → Leaves h) → (t : Plain) → treat form h V t ≡ t
    stays (leaf k) i t = refl
    stays any i t = refl
    stays (list V) i t = list_stays (treat form h V) (stays V i) t
    stays (point n) i t = i refl n t
    stays (rec fs c r) i t =
        map_stays (treat_choice form h c (treat_fields form h fs))
        (choice_stays c (λ e. i (right_or (any_in_fields is_point fs) (any_in_choice is_point c) e)) (treat_fields form h fs)
        (fields_stay fs (λ e. i (left_or (any_in_fields is_point fs) (any_in_choice is_point c) e)))) t
    stays (sum V W) i t =
        either_stays (has_kind form V (kind_of t)) (has_kind form W (kind_of t)) (treat form h V t) (treat form h W t) t
        (stays V (λ e. i (left_or (has_point V) (has_point W) e)) t) (stays W (λ e. i (right_or (has_point V) (has_point W) e)) t)

    fields_stay : (fs : Fields) → (any_in_fields is_point fs ≡ true → Leaves h) → (o : Treatment) → Leaves o → Leaves (treat_fields form h fs o)
    fields_stay no_field i o e n t = e n t
    fields_stay (field x p V fs) i o e n t =
        test_stays (same_name n x) (treat form h V t) (treat_fields form h fs o n t) t
        (stays V (λ k. i (left_or (has_point V) (any_in_fields is_point fs) k)) t) (fields_stay fs (λ k. i (right_or (has_point V) (any_in_fields is_point fs) k)) o e n t)

    choice_stays : (c : Choice) → (any_in_choice is_point c ≡ true → Leaves h) → (k : Treatment → Treatment) → ((o : Treatment) → Leaves o → Leaves (k o)) → (es : Entries)
        → Leaves (treat_choice form h c k es)
    choice_stays no_choice i k e es n t = e (λ m u. u) (λ m u. refl) n t
    choice_stays (choice tag cs kept) i k e es n t =
        test_stays (same_name n tag) t (k (treat_cases form h tag cs es) n t) t refl (e (treat_cases form h tag cs es) (cases_stay tag cs i es) n t)

    cases_stay : (tag : List ℕ) (cs : Cases) → (any_in_cases is_point cs ≡ true → Leaves h) → (es : Entries) → Leaves (treat_cases form h tag cs es)
    cases_stay tag no_case i es n t = refl
    cases_stay tag (case l fs cs) i es n t =
        test_stays (has_tag tag l es) (treat_fields form h fs (λ m u. u) n t) (treat_cases form h tag cs es n t) t
        (fields_stay fs (λ k. i (left_or (any_in_fields is_point fs) (any_in_cases is_point cs) k)) (λ m u. u) (λ m u. refl) n t)
        (cases_stay tag cs (λ k. i (right_or (any_in_fields is_point fs) (any_in_cases is_point cs) k)) es n t)
