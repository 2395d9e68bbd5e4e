-- The children of a template: the element of a list, the templates of a record's fields and of its cases' fields, the sides of a sum.
use Rattle.std.specs.Prelude.{ℕ, List, [], ◌∷◌, ◌++◌, Option, Some, None, if◌then◌else◌}
use Rattle.mig_model.specs.declared.form.Form.{Form}
use Rattle.mig_model.specs.Kinds.{kind_of}
use Rattle.mig_model.specs.Plain.{Plain, on_items, on_entries, each_entry}
use Rattle.mig_model.specs.Template as template
use Rattle.mig_model.specs.Template.{Template, Fields, no_field, field, Choice, no_choice, choice, Cases, no_case, case, has_kind}
use Rattle.mig_model.specs.Names.{same_name}
use Rattle.mig_model.specs.Inhabits.{Entries, has_tag}

-- a child, and its name where it is a field
abbrev pub Child : Type 0
Child = Option (List ℕ) × Template

abbrev pub field_children : Fields → List Child
field_children no_field = []
field_children (field x p V fs) = (Some x, V) ∷ field_children fs

abbrev pub case_children : Cases → List Child
case_children no_case = []
case_children (case l fs cs) = field_children fs ++ case_children cs

abbrev pub choice_children : Choice → List Child
choice_children no_choice = []
choice_children (choice tag cs kept) = case_children cs

abbrev pub children : Template → List Child
children (template.list V) = (None, V) ∷ []
children (template.rec fs c r) = field_children fs ++ choice_children c
children (template.sum V W) = (None, V) ∷ (None, W) ∷ []
children V = []

-- the template with another in place of each child
abbrev pub map_fields : (Child → Template) → Fields → Fields
map_fields f no_field = no_field
map_fields f (field x p V fs) = field x p (f (Some x, V)) (map_fields f fs)

abbrev pub map_cases : (Child → Template) → Cases → Cases
map_cases f no_case = no_case
map_cases f (case l fs cs) = case l (map_fields f fs) (map_cases f cs)

abbrev pub map_choice : (Child → Template) → Choice → Choice
map_choice f no_choice = no_choice
map_choice f (choice tag cs kept) = choice tag (map_cases f cs) kept

abbrev pub map_children : (Child → Template) → Template → Template
map_children f (template.list V) = template.list (f (None, V))
map_children f (template.rec fs c r) = template.rec (map_fields f fs) (map_choice f c) r
map_children f (template.sum V W) = template.sum (f (None, V)) (f (None, W))
map_children f V = V

-- the child that a pair of a map belongs to: a common field, or a field of the case whose literal is the tag
abbrev pub field_child : List ℕ → Fields → Option Child
field_child n no_field = None
field_child n (field x p V fs) = if same_name n x then Some (Some x, V) else field_child n fs

abbrev pub case_child : List ℕ → List ℕ → Cases → Entries → Option Child
case_child n tag no_case es = None
case_child n tag (case l fs cs) es = if has_tag tag l es then field_child n fs else case_child n tag cs es

abbrev pub choice_child : List ℕ → Choice → Entries → Option Child
choice_child n no_choice es = None
choice_child n (choice tag cs kept) es = case_child n tag cs es

abbrev pub entry_child : List ℕ → Fields → Choice → Entries → Option Child
entry_child n fs c es = first (field_child n fs)
  where
    first : Option Child → Option Child
    first (Some child) = Some child
    first None = choice_child n c es

abbrev pub at_child : (Child → Plain → Plain) → Option Child → Plain → Plain
at_child f None t = t
at_child f (Some c) t = f c t

-- the tree with something done to the tree of each child: to each item of a list, to the trees of the fields that are there, and in a sum to the tree itself, by its kind
abbrev pub at_children : Form → (Child → Plain → Plain) → Template → Plain → Plain
at_children form f (template.list V) t = on_items (f (None, V)) t
at_children form f (template.rec fs c r) t = on_entries (λ es. each_entry (λ n u. at_child f (entry_child n fs c es) u) es) t
at_children form f (template.sum V W) t = if has_kind form V (kind_of t) then f (None, V) t else (if has_kind form W (kind_of t) then f (None, W) t else t)
at_children form f V t = t
