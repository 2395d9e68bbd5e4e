-- Templates as plain data, and their root kinds.
use Rattle.std.specs.Prelude.{ℕ, List, [], ◌∷◌, Bool, true, false, ◌||◌, ◌==◌}
use Rattle.std.specs.Ordering.{is_eq}
use Rattle.mig_model.specs.declared.form.Form.{Form}
use Rattle.mig_model.specs.declared.form.Form.TheVariants as F
use Rattle.mig_model.specs.declared.kind.Kind.{Kind}
use Rattle.mig_model.specs.declared.kind.Kind.TheVariants as K
use Rattle.mig_model.specs.declared.presence.Presence.{Presence}
use Rattle.mig_model.specs.declared.presence.Presence.TheVariants.{Must, May}
use Rattle.mig_model.specs.declared.rest.Rest.{Rest}
use Rattle.mig_model.specs.declared.rest.Rest.TheVariants.{Open, Closed}
use Rattle.mig_model.specs.Names.{by_bytes, same_name}

mutual
  -- a leaf of a kind, any tree of the form, a list, a named type, a record, or one of two
  pub data Template : Type 0 where
    leaf : Kind → Template
    any : Template
    list : Template → Template
    point : List ℕ → Template
    rec : Fields → Choice → Rest → Template
    sum : Template → Template → Template

  pub data Fields : Type 0 where
    no_field : Fields
    field : List ℕ → Presence → Template → Fields → Fields

  -- the tag's name, for each literal that it may have the fields of that case, and whether a tag that is no literal is kept
  pub data Choice : Type 0 where
    no_choice : Choice
    choice : List ℕ → Cases → Bool → Choice

  pub data Cases : Type 0 where
    no_case : Cases
    case : List ℕ → Fields → Cases → Cases

-- a field's name, presence and template
abbrev pub Field : Type 0
Field = List ℕ × (Presence × Template)

abbrev pub fields_of : List Field → Fields
fields_of [] = no_field
fields_of (f ∷ fs) = field f.0 f.1.0 f.1.1 (fields_of fs)

abbrev pub field_list : Fields → List Field
field_list no_field = []
field_list (field x p V fs) = (x, (p, V)) ∷ field_list fs

abbrev pub cases_of : List (List ℕ × List Field) → Cases
cases_of [] = no_case
cases_of (c ∷ cs) = case c.0 (fields_of c.1) (cases_of cs)

abbrev pub case_list : Cases → List (List ℕ × List Field)
case_list no_case = []
case_list (case l fs cs) = (l, field_list fs) ∷ case_list cs

abbrev pub kind_number : Kind → ℕ
kind_number K.Byte = 0
kind_number K.Short = 1
kind_number K.Int = 2
kind_number K.Long = 3
kind_number K.Float = 4
kind_number K.Double = 5
kind_number K.Text = 6
kind_number K.Bytes = 7
kind_number K.Ints = 8
kind_number K.Longs = 9
kind_number K.List = 10
kind_number K.Map = 11
kind_number K.Null = 12
kind_number K.Bool = 13
kind_number K.Whole = 14

abbrev pub same_kind : Kind → Kind → Bool
same_kind a b = kind_number a == kind_number b

-- a kind of the form
abbrev pub is_of_form : Form → Kind → Bool
is_of_form F.Nbt K.Null = false
is_of_form F.Nbt K.Bool = false
is_of_form F.Nbt K.Whole = false
is_of_form F.Nbt k = true
is_of_form F.Json K.Text = true
is_of_form F.Json K.List = true
is_of_form F.Json K.Map = true
is_of_form F.Json K.Null = true
is_of_form F.Json K.Bool = true
is_of_form F.Json K.Whole = true
is_of_form F.Json k = false

abbrev pub is_nbt : Form → Bool
is_nbt F.Nbt = true
is_nbt F.Json = false

-- every kind but List and Map
abbrev pub is_leaf : Kind → Bool
is_leaf K.List = false
is_leaf K.Map = false
is_leaf k = true

-- the template has the root kind; a point has none of its own
abbrev pub has_kind : Form → Template → Kind → Bool
has_kind form (leaf a) k = same_kind a k
has_kind form any k = is_of_form form k
has_kind form (list V) k = same_kind K.List k
has_kind form (point n) k = false
has_kind form (rec fs c r) k = same_kind K.Map k
has_kind form (sum V W) k = has_kind form V k || has_kind form W k

abbrev pub is_must : Presence → Bool
is_must Must = true
is_must May = false

abbrev pub is_open : Rest → Bool
is_open Open = true
is_open Closed = false
