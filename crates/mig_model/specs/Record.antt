-- The parts of a record as lists, and what they keep.
use Rattle.std.specs.Prelude.{◌≡◌, ℕ, List, [], ◌∷◌, ◌++◌, Bool, false, ◌||◌, Option, Some, None, IsPermutation, length, ◌==◌}
use Rattle.std.specs.List.{AllByRecursion, list_any, count_by}
use Rattle.std.specs.Map.{keys_of, lookup}
use Rattle.std.specs.BTreeMap.{is_at}
use Rattle.mig_model.specs.declared.presence.Presence.{Presence}
use Rattle.mig_model.specs.declared.rest.Rest.{Rest}
use Rattle.mig_model.specs.Names.{Ascends, by_bytes, has_twice, same_name, is_among}
use Rattle.mig_model.specs.Template.{Template, rec, Field, fields_of, Choice, no_choice, choice, cases_of, case_list, is_must}

-- a literal, and the fields that a record has where its tag is that literal
abbrev pub Case : Type 0
Case = List ℕ × List Field

-- the name of the tag, the cases, and whether a tag that is no literal is kept
abbrev pub Cases : Type 0
Cases = List ℕ × List Case × Bool

pub record RecordParts : Type 0 where
  pub fields : List Field
  pub choice : Option Cases
  pub rest : Rest

abbrev pub choice_of : Option Cases → Choice
choice_of None = no_choice
choice_of (Some c) = choice c.0 (cases_of c.1) c.2

abbrev pub cases_in : Choice → Option Cases
cases_in no_choice = None
cases_in (choice tag cs kept) = Some (tag, case_list cs, kept)

abbrev pub record_of : RecordParts → Template
record_of p = rec (fields_of p.fields) (choice_of p.choice) p.rest

-- how many of the fields have to be there
abbrev pub musts_in : List Field → ℕ
musts_in fs = count_by (λ f. is_must f.1.0) fs

-- a name of the case is there twice, or is that of the tag or of a common field
abbrev pub has_twice_in : List (List ℕ) → Case → Bool
has_twice_in others c = has_twice (keys_of c.1 ++ others)

-- in the cases, which stand beside those other names, two names or literals that must be distinct are equal
abbrev pub is_twice_in : List (List ℕ) → List Case → Bool
is_twice_in others cs = list_any (has_twice_in others) cs || has_twice (keys_of cs)

-- two names or literals that must be distinct are equal
abbrev pub is_twice_named : List Field → Option Cases → Bool
is_twice_named fs None = has_twice (keys_of fs)
is_twice_named fs (Some c) = has_twice (c.0 ∷ keys_of fs) || is_twice_in (c.0 ∷ keys_of fs) c.1

-- there is a choice, and it has no case
abbrev pub has_no_case : Option Cases → Bool
has_no_case None = false
has_no_case (Some c) = length c.1 == 0

abbrev pub CasesAscend : Option Cases → Type 0
CasesAscend None = Unit {0}
CasesAscend (Some c) = Ascends c.1 × AllByRecursion (λ (d : Case). Ascends d.1) c.1

-- what the type of a record keeps: all that must be distinct is, fields and cases ascend, and a choice has a case
pub record IsRecord (fs : List Field) (c : Option Cases) : Type 0 where
  pub fields : Ascends fs
  pub cases : CasesAscend c
  pub distinct : is_twice_named fs c ≡ false
  pub some : has_no_case c ≡ false

-- the pairs of one list in the order of their names
pub record IsOrderOf {A : Type 0} (given es : List (List ℕ × A)) : Type 0 where
  pub same : IsPermutation given es
  pub ascend : Ascends es

-- each case has the literal and the fields of the one given, in the order of their names
abbrev pub FieldsOrdered : List Case → List Case → Type 0
FieldsOrdered [] [] = Unit {0}
FieldsOrdered (g ∷ gs) (d ∷ ds) = (g.0 ≡ d.0) × IsOrderOf g.1 d.1 × FieldsOrdered gs ds
FieldsOrdered gs ds = ⊥

-- the cases given, in the order of their literals, with the fields of each in order
abbrev pub CasesOrdered : List Case → List Case → Type 0
CasesOrdered gs cs = (ds : List Case) × (FieldsOrdered gs ds × IsOrderOf ds cs)

-- the choice given, with its cases in order
abbrev pub IsChoiceOf : Option Cases → Option Cases → Type 0
IsChoiceOf None None = Unit {0}
IsChoiceOf (Some g) (Some c) = (g.0 ≡ c.0) × CasesOrdered g.1 c.1 × (g.2 ≡ c.2)
IsChoiceOf g c = ⊥

-- the record with the parts given, each in order
pub record IsRecordOf (fs : List Field) (c : Option Cases) (rest : Rest) (r : RecordParts) : Type 0 where
  pub fields : IsOrderOf fs r.fields
  pub choice : IsChoiceOf c r.choice
  pub rest_is : rest ≡ r.rest

-- the fields of the case with that literal
abbrev pub found_case : List ℕ → Option Cases → Option (List Field)
found_case l None = None
found_case l (Some c) = lookup (is_at (by_bytes l)) c.1
