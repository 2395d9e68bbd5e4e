-- The new fields of a scope, as a list in any order, and when they are some: none of their names is there twice or taken outside the scope.
use Rattle.std.specs.Prelude.{◌≡◌, ℕ, List, [], ◌∷◌, ◌++◌, Bool, true, false, ◌||◌, Option, Some, None, IfSome, IfNone}
use Rattle.std.specs.List.{list_any, list_all}
use Rattle.std.specs.Map.{keys_of}
use Rattle.mig_model.specs.declared.rest.Rest.{Rest}
use Rattle.mig_model.specs.Template.{Field}
use Rattle.mig_model.specs.Names.{has_twice, has}
use Rattle.mig_model.specs.Fields.{is_in_choice}
use Rattle.mig_model.specs.Record.{Case, Cases, RecordParts, IsOrderOf, choice_of}
use Rattle.mig_field.specs.FieldFn.{Scope, FieldOp, retag, add_case}
use Rattle.mig_field.specs.NewRecord.{new_fields, with_fields, is_tag, is_clear}
use Rattle.mig_func.specs.declared.fault.FuncFault.{FuncFault}
use Rattle.mig_func.specs.declared.fault.FuncFault.TheVariants.{Misfit, Memory}

-- a misfit is for this reason; want of memory says nothing
abbrev pub IsMisfit : FuncFault → Type 0 → Type 0
IsMisfit Misfit P = P
IsMisfit Memory P = Unit {0}

-- a name is there twice or taken
abbrev pub has_clash : (List ℕ → Bool) → List Field → Bool
has_clash taken es = has_twice (keys_of es) || list_any taken (keys_of es)

-- the fields in the order of their names are what was to be made
abbrev pub Makes : Option (List Field) → List Field → Type 0
Makes o es = (fs : List Field) × (o ≡ Some fs) × IsOrderOf es fs

pub record IsNew (o : Option (List Field)) (taken : List ℕ → Bool) (es : List Field) : Type 0 where
  pub made : has_clash taken es ≡ false → Makes o es
  pub none : has_clash taken es ≡ true → o ≡ None

-- what becomes of fields of which none is taken
abbrev pub fields_after : FieldOp → Rest → List Field → (List ℕ → Bool) → Option (List Field)
fields_after op r fs taken = new_fields op r (record { fields = fs; taken = taken })

abbrev pub NoneTaken : (List ℕ → Bool) → List Field → Type 0
NoneTaken taken fs = list_any taken (keys_of fs) ≡ false

abbrev pub Offers : FieldOp → Rest → List Field → List Field → Type 0
Offers op r fs es = (taken : List ℕ → Bool) → NoneTaken taken fs → IsNew (fields_after op r fs taken) taken es

abbrev pub Refuses : FieldOp → Rest → List Field → Type 0
Refuses op r fs = (taken : List ℕ → Bool) → NoneTaken taken fs → fields_after op r fs taken ≡ None

-- the record with the fields in the scope, in the order of their names
abbrev pub HasFields : Scope → RecordParts → List Field → RecordParts → Type 0
HasFields scope p es r = (fs : List Field) × IsOrderOf es fs × (r ≡ with_fields scope fs p)

-- the same, where what was to be made doesn't depend on the names that are taken
abbrev pub OffersList : Option (List Field) → List Field → List Field → Type 0
OffersList o fs es = (taken : List ℕ → Bool) → NoneTaken taken fs → IsNew o taken es

-- the names that the common fields of a record with the choice can't have
abbrev pub taken_by_choice : Option Cases → List ℕ → Bool
taken_by_choice c n = is_in_choice n (choice_of c)

-- the names that the fields of its cases can't have
abbrev pub taken_by_rest : RecordParts → List ℕ → Bool
taken_by_rest p n = has n p.fields || is_tag n p.choice

-- a choice of these cases and one more
abbrev pub with_more : List ℕ → Bool → List Case → Case → Option Cases
with_more tag kept cs d = Some (tag, cs ++ d ∷ [], kept)

-- an operation on the cases themselves
abbrev pub is_about_cases : FieldOp → Bool
is_about_cases (retag a b) = true
is_about_cases (add_case b fs) = true
is_about_cases op = false

-- the sums in all of the fields are told apart
abbrev pub are_clear : List Field → Bool
are_clear fs = list_all (λ f. is_clear f.1.1) fs

-- the fields in the order of their names, where no two names are equal
pub record AreOrdered (fs : List Field) (o : Option (List Field)) : Type 0 where
  pub some : IfSome o (IsOrderOf fs)
  pub none : IfNone o (has_twice (keys_of fs) ≡ true)
