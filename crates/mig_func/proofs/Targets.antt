-- The new record, from the new fields of the scope.
use Rattle.std.proofs.Common.{◌≡◌, ℕ, List, true, false, true≢false, Bool, Option, Some, None, Result, refl, sym, ap, ◌∙◌}
use Rattle.std.specs.Prelude.{option_map, option_and_then, IfOk, IfErr}
use Rattle.mig_model.specs.Template.{Field}
use Rattle.mig_model.specs.TemplateKept.{RecordKept}
use Rattle.mig_model.specs.Record.{Cases, RecordParts, found_case, is_twice_named}
use Rattle.mig_model.proofs.OneOrder.{one_order}
use Rattle.mig_field.specs.FieldFn.{Scope, common, in_case, FieldOp, retag, add_case}
use Rattle.mig_field.specs.NewRecord.{new_by, new_fields, scoped, with_fields}
use Rattle.mig_func.specs.New.{IsMisfit, has_clash, Makes, NoneTaken, Offers, Refuses, HasFields, fields_after, taken_by_choice, taken_by_rest, is_about_cases}
use Rattle.mig_func.specs.declared.fault.FuncFault.{FuncFault}
use Rattle.mig_func.proofs.Outcomes.{ok_map2, fault_map, fault_is}
use Rattle.mig_func.proofs.Scopes.{common_free, case_free}

abbrev in_scope : FieldOp → Scope → RecordParts → Option RecordParts
in_scope op scope p = option_and_then (λ s. option_map (λ fs. with_fields scope fs p) (new_fields op p.rest s)) (scoped scope p)

pub common_is : (op : FieldOp) (p : RecordParts) → is_about_cases op ≡ false → new_by op common p ≡ in_scope op common p
common_is (retag a b) p h = absurd (true≢false h)
common_is (add_case b fs) p h = absurd (true≢false h)
common_is op p h = refl

pub case_is : (op : FieldOp) (l : List ℕ) (p : RecordParts) → new_by op (in_case l) p ≡ in_scope op (in_case l) p
case_is (retag a b) l p = refl
case_is op l p = refl

-- what is made of the fields in order
one_made : (scope : Scope) (p r : RecordParts) (o : Option (List Field)) (es : List Field) → Makes o es → HasFields scope p es r → option_map (λ fs. with_fields scope fs p) o ≡ Some r
one_made scope p r o es m h =
    let same : m.0 ≡ h.0 = one_order es m.0 h.0 m.2.same h.1.same m.2.ascend h.1.ascend in
    ap (option_map (λ fs. with_fields scope fs p)) m.1 ∙ (λ i. Some (with_fields scope (same i) p)) ∙ ap (λ q. Some q) (sym h.2)

none_made : (scope : Scope) (p : RecordParts) (o : Option (List Field)) → o ≡ None → option_map (λ fs. with_fields scope fs p) o ≡ None
none_made scope p o e = ap (option_map (λ fs. with_fields scope fs p)) e

-- the fields of a scope, and what is taken, of which the new record is made
pub record In (op : FieldOp) (scope : Scope) (p : RecordParts) : Type 0 where
  pub fields : List Field
  pub taken : List ℕ → Bool
  pub is : new_by op scope p ≡ option_map (λ fs. with_fields scope fs p) (fields_after op p.rest fields taken)
  pub free : NoneTaken taken fields

abbrev pub common_in : (op : FieldOp) (p : RecordParts) → is_about_cases op ≡ false → RecordKept p → In op common p
common_in op p plain k = record { fields = p.fields; taken = taken_by_choice p.choice; is = common_is op p plain; free = common_free p.fields p.choice k.0.distinct }

abbrev pub case_in : (op : FieldOp) (l : List ℕ) (p : RecordParts) (c : Cases) (fs : List Field) → RecordKept p → p.choice ≡ Some c → found_case l p.choice ≡ Some fs → In op (in_case l) p
case_in op l p c fs k is h = record {
  fields = fs;
  taken = taken_by_rest p;
  is = case_is op l p ∙ ap (λ o. option_and_then (λ s. option_map (λ ds. with_fields (in_case l) ds p) (new_fields op p.rest s)) (option_map (λ ds. record { fields = ds; taken = taken_by_rest p }) o)) h;
  free = case_free p c l fs is (ap (is_twice_named p.fields) (sym is) ∙ k.0.distinct) (ap (found_case l) (sym is) ∙ h);
}

-- what an outcome says of the fields, it says of the record
module _ (op : FieldOp) (scope : Scope) (p : RecordParts) (s : In op scope p) where
  pub target : (es : List Field) (res : Result RecordParts FuncFault) → Offers op p.rest s.fields es → IfOk res (λ r. HasFields scope p es r) → IfOk res (λ r. has_clash s.taken es ≡ false) → IfOk res (λ r. new_by op scope p ≡ Some r)
  target es res offers h good =
      ok_map2 res (λ r. HasFields scope p es r) (λ r. has_clash s.taken es ≡ false) (λ r. new_by op scope p ≡ Some r)
      (λ r f once. s.is ∙ one_made scope p r (fields_after op p.rest s.fields s.taken) es ((offers s.taken s.free).made once) f) h good

  pub clash_target : (es : List Field) (res : Result RecordParts FuncFault) → Offers op p.rest s.fields es → IfErr res (λ e. IsMisfit e (has_clash s.taken es ≡ true)) → IfErr res (λ e. IsMisfit e (new_by op scope p ≡ None))
  clash_target es res offers h =
      fault_map res (has_clash s.taken es ≡ true) (new_by op scope p ≡ None) (λ clash. s.is ∙ none_made scope p (fields_after op p.rest s.fields s.taken) ((offers s.taken s.free).none clash)) h

  pub refused : (fault : FuncFault) → IsMisfit fault (Refuses op p.rest s.fields) → IsMisfit fault (new_by op scope p ≡ None)
  refused fault h = fault_is fault (Refuses op p.rest s.fields) (new_by op scope p ≡ None) (λ r. s.is ∙ none_made scope p (fields_after op p.rest s.fields s.taken) (r s.taken s.free)) h
