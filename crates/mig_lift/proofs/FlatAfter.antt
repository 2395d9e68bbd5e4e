-- Edits of a flat record: the record after them is flat.
use Rattle.std.proofs.Common.{◌≡◌, ◌∙◌, List, ℕ, Bool, true, false, Option, Some, None, refl, ap, subst}
use Rattle.std.specs.Prelude.{IfSome, option_map, option_and_then}
use Rattle.std.specs.BTreeMap.{is_at}
use Rattle.std.specs.List.{AllPass, list_all}
use Rattle.std.specs.Map.{values_of}
use Rattle.std.proofs.lemmas.List.Sums.{AllPass-from_list_all, list_all-from_AllPass}
use Rattle.std.proofs.lemmas.Map.Views.{All-map-remove_entry, All-values-insert_entry, IfSome-lookup_from_All}
use Rattle.std.proofs.lemmas.Option.{same_Some}
use Rattle.mig_model.specs.declared.presence.Presence.TheVariants.{Must}
use Rattle.mig_model.specs.declared.rest.Rest.TheVariants.{Open}
use Rattle.mig_model.specs.Const.{Const, const_kind}
use Rattle.mig_model.specs.Fields.{if_so}
use Rattle.mig_model.specs.Names.{by_bytes, under, without, put, bring, moved}
use Rattle.mig_model.specs.Record.{record_of}
use Rattle.mig_model.specs.Template.{Template, Field, leaf, rec, fields_of, field_list, no_choice}
use Rattle.mig_template.proofs.Views.{field_list_of}
use Rattle.mig_field.specs.FieldFn.{constant, rename, add}
use Rattle.mig_field.specs.NewRecord.{FieldType}
use Rattle.mig_rule.specs.Rule as rule
use Rattle.mig_rule.specs.Target.{target}
use Rattle.mig_lift.specs.Small.{Edits, is_must_leaf, is_flat_record}
use Rattle.mig_lift.proofs.Parts.{common_function, rule_with}

abbrev IsLeaf : FieldType → Type 0
IsLeaf s = is_must_leaf s ≡ true

abbrev AreLeaves : List Field → Type 0
AreLeaves fs = AllPass is_must_leaf (values_of fs)

without_leaves : (x : List ℕ) (fs : List Field) → AreLeaves fs → AreLeaves (without x fs)
without_leaves x fs a = All-map-remove_entry (is_at (by_bytes x)) (λ e. e.1) IsLeaf fs a

put_leaves : (x : List ℕ) (s : FieldType) (fs : List Field) → IsLeaf s → AreLeaves fs → AreLeaves (put x s fs)
put_leaves x s fs h a = All-values-insert_entry by_bytes x s IsLeaf fs a h

moved_leaves : (x y : List ℕ) (fs : List Field) → AreLeaves fs → AreLeaves (moved x y fs)
moved_leaves x y fs a = by (under x fs) (IfSome-lookup_from_All IsLeaf (is_at (by_bytes x)) fs a)
  where
    rest : AreLeaves (without y (without x fs))
    rest = without_leaves y (without x fs) (without_leaves x fs a)

    by : (o : Option FieldType) → IfSome o IsLeaf → AreLeaves (bring y o (without y (without x fs)))
    by None h = rest
    by (Some s) h = put_leaves y s (without y (without x fs)) h rest

-- the open record of fields, where there is one
abbrev record_if : Bool → List Field → Option Template
record_if b fs = option_map record_of (option_map (λ gs. record { fields = gs; choice = None; rest = Open }) (if_so b fs))

flat_if : (b : Bool) (fs : List Field) → AreLeaves fs → (W : Template) → record_if b fs ≡ Some W → is_flat_record W ≡ true
flat_if true fs a W h =
    subst (λ V. is_flat_record V ≡ true) (same_Some (rec (fields_of fs) no_choice Open) W h)
    (ap (λ gs. list_all is_must_leaf (values_of gs)) (field_list_of fs) ∙ list_all-from_AllPass is_must_leaf (values_of fs) a)
flat_if false fs a W h = absurd cc

module _ (n : List ℕ) where
  renamed_flat : (x y : List ℕ) (V W : Template) → is_flat_record V ≡ true → target (rule.function (common_function (rename x y))) n V ≡ Some W → is_flat_record W ≡ true
  renamed_flat x y (rec fs no_choice Open) W e h =
      let gs = field_list fs in
      flat_if _ (moved x y gs) (moved_leaves x y gs (AllPass-from_list_all is_must_leaf (values_of gs) e)) W h
  renamed_flat x y V W e h = absurd (let k : false ≡ true = e in cc)

  added_flat : (x : List ℕ) (c : Const) (V W : Template) → is_flat_record V ≡ true → target (rule.function (common_function (add x (constant c)))) n V ≡ Some W → is_flat_record W ≡ true
  added_flat x c (rec fs no_choice Open) W e h =
      let gs = field_list fs in
      flat_if _ (put x (Must, leaf (const_kind c)) gs) (put_leaves x (Must, leaf (const_kind c)) gs refl (AllPass-from_list_all is_must_leaf (values_of gs) e)) W h
  added_flat x c V W e h = absurd (let k : false ≡ true = e in cc)

  pub flat_after : (e : Edits) (V W : Template) → is_flat_record V ≡ true → target (rule_with e) n V ≡ Some W → is_flat_record W ≡ true
  flat_after e V W flat h = by (target (rule.function (common_function (rename e.0.0 e.0.1))) n V) (renamed_flat e.0.0 e.0.1 V) h
    where
      by : (o : Option Template) → ((U : Template) → is_flat_record V ≡ true → o ≡ Some U → is_flat_record U ≡ true)
          → option_and_then (target (rule.function (common_function (add e.1.0 (constant e.1.1)))) n) o ≡ Some W → is_flat_record W ≡ true
      by None k h = absurd cc
      by (Some U) k h = added_flat e.1.0 e.1.1 U W (k U flat refl) h
