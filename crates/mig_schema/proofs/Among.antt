-- A name among the names of fields.
use Rattle.std.proofs.Common.{◌≡◌, ℕ, List, sym, ap, ◌∙◌}
use Rattle.std.specs.Prelude.{is_some}
use Rattle.std.specs.BTreeMap.{is_at}
use Rattle.std.specs.Map.{keys_of, lookup}
use Rattle.mig_model.specs.Fields.{is_field, find_field}
use Rattle.mig_model.specs.Names.{by_bytes, is_among, under}
use Rattle.mig_model.specs.Template as model
use Rattle.mig_model.specs.Template.{fields_of}
use Rattle.mig_template.proofs.Found.{among_is_found}
use Rattle.mig_template.proofs.Views.{field_list_of}

-- a name is a field exactly where it is among the fields' names
pub among_is_field : (n : List ℕ) (fs : List model.Field) → is_among (keys_of fs) n ≡ is_field n (fields_of fs)
among_is_field n fs = sym (among_is_found n fs) ∙ ap (λ l. is_some (lookup (is_at (by_bytes n)) l)) (sym (field_list_of fs))

-- a field is found among fields as it is found by the definition
pub found_is_field : (n : List ℕ) (fs : List model.Field) → under n fs ≡ find_field n (fields_of fs)
found_is_field n fs = ap (λ l. lookup (is_at (by_bytes n)) l) (sym (field_list_of fs))
