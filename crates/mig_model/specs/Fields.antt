-- Fields by their names.
use Rattle.std.specs.Prelude.{ℕ, List, Bool, false, not, ◌&&◌, ◌||◌, Option, Some, None, is_some, if◌then◌else◌}
use Rattle.std.specs.BTreeMap.{insert_entry, is_at}
use Rattle.std.specs.Map.{lookup, remove_entry}
use Rattle.mig_model.specs.declared.presence.Presence.{Presence}
use Rattle.mig_model.specs.Names.{by_bytes, same_name}
use Rattle.mig_model.specs.Template.{Template, Fields, fields_of, field_list, Choice, no_choice, choice, Cases, no_case, case}

-- the presence and template of a field
abbrev pub find_field : List ℕ → Fields → Option (Presence × Template)
find_field x fs = lookup (is_at (by_bytes x)) (field_list fs)

-- the fields without a name
abbrev pub without_field : List ℕ → Fields → Fields
without_field x fs = fields_of (remove_entry (is_at (by_bytes x)) (field_list fs))

-- one more field, at its place by the order of bytes
abbrev pub with_field : List ℕ → Presence → Template → Fields → Fields
with_field x p V fs = fields_of (insert_entry by_bytes (field_list fs) x (p, V))

-- the name is a field
abbrev pub is_field : List ℕ → Fields → Bool
is_field x fs = is_some (find_field x fs)

abbrev pub is_case_field : List ℕ → Cases → Bool
is_case_field x no_case = false
is_case_field x (case l fs cs) = is_field x fs || is_case_field x cs

abbrev pub is_in_choice : List ℕ → Choice → Bool
is_in_choice x no_choice = false
is_in_choice x (choice tag cs kept) = same_name x tag || is_case_field x cs

-- the name is no common field, not the tag and no field of a case
abbrev pub is_free : List ℕ → Fields → Choice → Bool
is_free x fs c = not (is_field x fs) && not (is_in_choice x c)

abbrev pub if_so : {A : Type 0} → Bool → A → Option A
if_so b a = if b then Some a else None
