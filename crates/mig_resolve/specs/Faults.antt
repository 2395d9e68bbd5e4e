-- The faults of a chain text, by their numbers: 1 to 9 tell of one declaration among the others, 10 of families and templates, 11 to 14 of the walk along the steps.
use Rattle.std.specs.Prelude.{◌≡◌, ℕ, ℤ, pos, suc, ◌+◌, List, [], ◌∷◌, length, Bool, true, false, not, ◌&&◌, ◌||◌, ◌==◌, nat_lt, int_le, Option, Some, None, is_some, option_map, slice_get, if◌then◌else◌}
use Rattle.std.specs.List.{count_by}
use Rattle.std.specs.Option.{option_or}
use Rattle.std.specs.Ordering.{int_eq}
use Rattle.mig_model.specs.declared.form.Form.{Form}
use Rattle.mig_model.specs.Family.{first_flaw}
use Rattle.mig_model.specs.Version.{last_version}
use Rattle.mig_rule.specs.Chain.{Path, IsRefusedAt}
use Rattle.mig_rule.specs.declared.fault.Walk.{Walk}
use Rattle.mig_rule.specs.declared.fault.Walk.TheVariants as W
use Rattle.mig_syntax.specs.DeclSyntax as decl
use Rattle.mig_syntax.specs.DeclSyntax.{DeclSyntax}
use Rattle.mig_resolve_template.specs.Templates.{template_is_wrong, template_is_twice}
use Rattle.mig_resolve_rule.specs.Rules.{fix_is_wrong, fix_is_out_of_range, fix_is_twice, fix_is_deep}
use Rattle.mig_resolve.specs.Text.{is_form, is_version, is_schema, is_own_schema, is_root, is_part, is_fix, is_under_own, has_root, has_type, nearest_version, form_in, path_in, family_in, chain_from, step_numbers}

-- the most schemas and the most fixes of a text
abbrev pub most_schemas : ℕ
most_schemas = 1024

abbrev pub most_fixes : ℕ
most_fixes = 4096

-- from 0 to the last version
abbrev pub is_version_number : ℤ → Bool
is_version_number z = int_le (pos 0) z && int_le z (pos last_version)

-- there is none before, or it is below this one
abbrev pub is_above : Option ℤ → ℤ → Bool
is_above None z = true
is_above (Some y) z = not (int_le z y)

abbrev pub is_number : Option ℤ → ℤ → Bool
is_number None z = false
is_number (Some y) z = int_eq y z

-- ---- what may be wrong with a declaration: `before` are those before it, from it backwards, and `later` those behind it
-- 1: the first declaration, and no other, is a `form`
abbrev pub form_is_misplaced : List DeclSyntax → DeclSyntax → Bool
form_is_misplaced before d = if length before == 0 then not (is_form d) else is_form d

-- 2: the second, and no other, is a `version`
abbrev pub version_is_misplaced : List DeclSyntax → DeclSyntax → Bool
version_is_misplaced before d = if length before == 1 then not (is_version d) else is_version d

-- 3: the third is a schema with a family of its own, types and roots stand under such schemas, and each of these has one root
abbrev pub third_is_no_schema : List DeclSyntax → DeclSyntax → Bool
third_is_no_schema before d = (length before == 2) && not (is_own_schema d)

abbrev pub schema_is_misplaced : List DeclSyntax → DeclSyntax → List DeclSyntax → Bool
schema_is_misplaced before d later =
    third_is_no_schema before d || ((is_part d && not (is_under_own before)) || ((is_root d && has_root before) || (is_own_schema d && not (has_root later))))

-- 4: one schema or one fix more than a text may have
abbrev pub is_one_too_many : List DeclSyntax → DeclSyntax → Bool
is_one_too_many before d = (is_schema d && (count_by is_schema before == most_schemas)) || (is_fix d && (count_by is_fix before == most_fixes))

-- 5: a schema's version is out of range or not above that of the schema before, or the `missing` number is out of range
abbrev pub version_is_wrong : List DeclSyntax → DeclSyntax → Bool
version_is_wrong before (decl.schema z follows) = not (is_version_number z) || not (is_above (nearest_version before) z)
version_is_wrong before (decl.version xs (Some z)) = not (is_version_number z)
version_is_wrong before d = false

-- 6: a fix's number isn't the version of the next schema
abbrev pub number_is_wrong : DeclSyntax → List DeclSyntax → Bool
number_is_wrong (decl.fix z x) later = not (is_number (nearest_version later) z)
number_is_wrong d later = false

-- 7: a kind word is no leaf kind of the form
abbrev pub kind_is_wrong : Form → DeclSyntax → Bool
kind_is_wrong form (decl.named n t) = template_is_wrong form t
kind_is_wrong form (decl.fix z x) = fix_is_wrong form x
kind_is_wrong form d = false

-- 8: a number is outside the range of its place
abbrev pub is_out_of_range : DeclSyntax → Bool
is_out_of_range (decl.fix z x) = fix_is_out_of_range x
is_out_of_range d = false

-- 9: two names that must be distinct are equal, or a type of this name stands already under the schema
abbrev pub is_twice : List DeclSyntax → DeclSyntax → Bool
is_twice before (decl.named n t) = template_is_twice t || has_type n before
is_twice before (decl.fix z x) = fix_is_twice x
is_twice before d = false

-- the least number from 1 to 6 that holds at the declaration
abbrev pub number_by_place : List DeclSyntax → DeclSyntax → List DeclSyntax → Option ℕ
number_by_place before d later =
    if form_is_misplaced before d then Some 1
    else (if version_is_misplaced before d then Some 2
    else (if schema_is_misplaced before d later then Some 3
    else (if is_one_too_many before d then Some 4
    else (if version_is_wrong before d then Some 5
    else (if number_is_wrong d later then Some 6
    else None)))))

-- the least from 7 to 9
abbrev pub number_by_content : Form → List DeclSyntax → DeclSyntax → Option ℕ
number_by_content form before d =
    if kind_is_wrong form d then Some 7
    else (if is_out_of_range d then Some 8
    else (if is_twice before d then Some 9
    else None))

abbrev pub number_at : Form → List DeclSyntax → DeclSyntax → List DeclSyntax → Option ℕ
number_at form before d later = option_or (number_by_place before d later) (number_by_content form before d)

-- a number and the declaration at which it holds, counted from 1
abbrev pub Fault : Type 0
Fault = ℕ × ℕ

-- the fault of the lesser number; of two with one number the first
abbrev pub lesser : Option Fault → Option Fault → Option Fault
lesser None g = g
lesser (Some f) None = Some f
lesser (Some f) (Some g) = if nat_lt g.0 f.0 then Some g else Some f

-- where so many declarations are all, the next is missing: the `form`, the `version`, or the first schema
abbrev pub fault_at_end : ℕ → Option Fault
fault_at_end n = if nat_lt n 3 then Some (n + 1, n + 1) else None

-- the least number from 1 to 9 that holds anywhere from here on, and for it the least declaration
abbrev pub least_fault : Form → List DeclSyntax → List DeclSyntax → Option Fault
least_fault form before [] = fault_at_end (length before)
least_fault form before (d ∷ later) = lesser (option_map (λ n. (n, suc (length before))) (number_at form before d later)) (least_fault form (d ∷ before) later)

abbrev pub early_fault : List DeclSyntax → Option Fault
early_fault ds = least_fault (form_in ds) [] ds

-- 10: the family of a schema isn't formed, or a template that a fix brings nests too deep
abbrev pub is_unformed : Form → Path → DeclSyntax → List DeclSyntax → Bool
is_unformed form path (decl.schema z false) later = is_some (first_flaw (family_in form path later))
is_unformed form path (decl.fix z x) later = fix_is_deep x
is_unformed form path d later = false

-- the first declaration at which it is so, where the first of these has the number k
abbrev pub unformed_from : Form → Path → ℕ → List DeclSyntax → Option ℕ
unformed_from form path k [] = None
unformed_from form path k (d ∷ later) = if is_unformed form path d later then Some k else unformed_from form path (suc k) later

abbrev pub unformed : List DeclSyntax → Option ℕ
unformed ds = unformed_from (form_in ds) (path_in ds) 1 ds

-- the number of what is wrong on the walk along the steps; the first three are never met where none of 1 to 9 holds
abbrev pub walk_number : Walk → ℕ
walk_number W.First = 3
walk_number W.Order = 5
walk_number W.Number = 6
walk_number W.NoName = 11
walk_number W.Missed = 12
walk_number W.IllFormed = 13
walk_number W.Mismatch = 14

-- the one fault of a text: of 1 to 10 the least number that holds anywhere, at the first declaration at which it does; where none holds, what is wrong at the first step at which something is
pub data IsFaultAt (ds : List DeclSyntax) : ℕ → ℕ → Type 0 where
  early : (n k : ℕ) → early_fault ds ≡ Some (n, k) → IsFaultAt ds n k
  late : (k : ℕ) → early_fault ds ≡ None → unformed ds ≡ Some k → IsFaultAt ds 10 k
  walk : (j k : ℕ) (w : Walk) → early_fault ds ≡ None → unformed ds ≡ None → IsRefusedAt (chain_from ds) j w → slice_get (step_numbers 1 ds) j ≡ Some k → IsFaultAt ds (walk_number w) k
