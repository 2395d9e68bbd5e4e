-- Whether two templates are equal, as a test.
use Rattle.std.specs.Prelude.{◌≡◌, ◌↔◌, Bool, true, false, IsTrue, ◌&&◌}
use Rattle.mig_model.specs.declared.presence.Presence.{Presence}
use Rattle.mig_model.specs.declared.presence.Presence.TheVariants.{Must, May}
use Rattle.mig_model.specs.declared.rest.Rest.{Rest}
use Rattle.mig_model.specs.declared.rest.Rest.TheVariants.{Open, Closed}
use Rattle.mig_model.specs.Template.{Template, leaf, any, list, point, rec, sum, Fields, no_field, field, Choice, no_choice, choice, Cases, no_case, case, same_kind}
use Rattle.mig_model.specs.Names.{same_name}

abbrev pub same_presence : Presence → Presence → Bool
same_presence Must Must = true
same_presence May May = true
same_presence p q = false

abbrev pub same_rest : Rest → Rest → Bool
same_rest Open Open = true
same_rest Closed Closed = true
same_rest r s = false

abbrev pub same_kept : Bool → Bool → Bool
same_kept true true = true
same_kept false false = true
same_kept k l = false

abbrev mutual
  pub same_template : Template → Template → Bool
  same_template (leaf a) (leaf b) = same_kind a b
  same_template any any = true
  same_template (list V) (list W) = same_template V W
  same_template (point m) (point n) = same_name m n
  same_template (rec fs c r) (rec gs d s) = same_fields fs gs && (same_choice c d && same_rest r s)
  same_template (sum V W) (sum X Y) = same_template V X && same_template W Y
  same_template V W = false

  pub same_fields : Fields → Fields → Bool
  same_fields no_field no_field = true
  same_fields (field x p V fs) (field y q W gs) = same_name x y && (same_presence p q && (same_template V W && same_fields fs gs))
  same_fields fs gs = false

  pub same_choice : Choice → Choice → Bool
  same_choice no_choice no_choice = true
  same_choice (choice m cs k) (choice n ds l) = same_name m n && (same_cases cs ds && same_kept k l)
  same_choice c d = false

  pub same_cases : Cases → Cases → Bool
  same_cases no_case no_case = true
  same_cases (case l fs cs) (case m gs ds) = same_name l m && (same_fields fs gs && same_cases cs ds)
  same_cases cs ds = false

-- the test passes exactly at equal templates
abbrev pub SameIsEqual : Type 0
SameIsEqual = (V W : Template) → IsTrue (same_template V W) ↔ (V ≡ W)
