-- A search among named types: the places of names, inserted into those that are found.
use Rattle.std.proofs.Common.{◌≡◌, ℕ, ◌+◌, ◌<◌, List, [], ◌∷◌, ◌++◌, nat_eq, map, length, get_or, drop, refl, sym, ap, ◌∙◌}
use Rattle.std.proofs.lemmas.List.{at_drop_more}
use Rattle.std.proofs.lemmas.List.Elements.{filter_map-append}
use Rattle.indexmap.specs.IndexSet.{insert_key, insert_all}
use Rattle.mig_model.specs.Template.{fields_of, cases_of}
use Rattle.mig_template.specs.View.{template_of, field_of, case_of}
use Rattle.mig_template.specs.declared.fields.Field.{Field}
use Rattle.mig_template.specs.declared.record.Case.{Case}
use Rattle.mig_schema.specs.Reach.{points, field_points, case_points, places}
use Rattle.mig_schema.specs.Types.{Named, type_place}

pub insert_all-append : (ks xs ys : List ℕ) → insert_all nat_eq ks (xs ++ ys) ≡ insert_all nat_eq (insert_all nat_eq ks xs) ys
insert_all-append ks [] ys = refl
insert_all-append ks (x ∷ xs) ys = insert_all-append (insert_key nat_eq ks x) xs ys

pub places-append : (ts : List Named) (ms ns : List (List ℕ)) → places ts (ms ++ ns) ≡ places ts ms ++ places ts ns
places-append ts ms ns = filter_map-append (type_place ts) ms ns

-- places that are inserted one after the other
pub both_inserted : (ts : List Named) (ks js is : List ℕ) (ms ns : List (List ℕ)) → js ≡ insert_all nat_eq ks (places ts ms) → is ≡ insert_all nat_eq js (places ts ns) → is ≡ insert_all nat_eq ks (places ts (ms ++ ns))
both_inserted ts ks js is ms ns e h =
    h ∙ ap (λ l. insert_all nat_eq l (places ts ns)) e ∙ sym (ap (insert_all nat_eq ks) (places-append ts ms ns) ∙ insert_all-append ks (places ts ms) (places ts ns))

-- the points of the fields and of the cases that are left, one step on
pub field_points_more : (fs : List Field) (i : ℕ) (f : Field) → i < length fs → f ≡ get_or fs i f
    → points (template_of f.template) ++ field_points (fields_of (map field_of (drop (i + 1) fs))) ≡ field_points (fields_of (map field_of (drop i fs)))
field_points_more fs i f l e =
    ap (λ (g : Field). points (template_of g.template) ++ field_points (fields_of (map field_of (drop (i + 1) fs)))) e ∙ sym (at_drop_more (λ gs. field_points (fields_of (map field_of gs))) fs i f l)

pub case_points_more : (cs : List Case) (i : ℕ) (c : Case) → i < length cs → c ≡ get_or cs i c
    → field_points (fields_of c.fields) ++ case_points (cases_of (map case_of (drop (i + 1) cs))) ≡ case_points (cases_of (map case_of (drop i cs)))
case_points_more cs i c l e =
    ap (λ (d : Case). field_points (fields_of d.fields) ++ case_points (cases_of (map case_of (drop (i + 1) cs)))) e ∙ sym (at_drop_more (λ ds. case_points (cases_of (map case_of ds))) cs i c l)

-- the names that are left, one step on
pub names_more : (ts : List Named) (ns : List (List ℕ)) (i : ℕ) (n : List ℕ) → i < length ns → n ≡ get_or ns i n → places ts ((n ∷ []) ++ drop (i + 1) ns) ≡ places ts (drop i ns)
names_more ts ns i n l e = ap (λ (m : List ℕ). places ts (m ∷ drop (i + 1) ns)) e ∙ sym (at_drop_more (places ts) ns i n l)
