-- What was read so far of a list or of a map.
use Rattle.std.proofs.Common.{◌≡◌, List, length, None, IsTrue}
use Rattle.std.specs.List.{filter}
use Rattle.mig_model.specs.Plain.{Plain, trees_of}
use Rattle.mig_model.specs.Inhabits.{Entries}
use Rattle.mig_model.specs.Template.{Template, fields_of, is_open}
use Rattle.mig_model.specs.Family.{Family, body}
use Rattle.mig_model.specs.Place.{wrong_item, wrong_entry}
use Rattle.mig_value.specs.Typed.{Typed, items_of, slots_of, out_items, out_slots, tag_pair}
use Rattle.mig_value.specs.Nodes.{Test, nodes_in_items, sum_items, sum_entries}
use Rattle.mig_value.specs.Parts.{RecordParts}
use Rattle.mig_value.specs.Fit.{EachItem, EachSlot, FieldsFit, FitAsRead, IsAtomOf}
use Rattle.mig_write.specs.Lists.{record_nodes}
use Rattle.mig_codec.specs.Parted.{wrong_pair, pair_nodes, is_tagged}
use Rattle.mig_codec.specs.Reading.{IsTyped, wrong_part, part_nodes}
use Rattle.mig_row.specs.Row.{Row, Belongs, common, cased, unknown, belongs}
use Rattle.std.specs.Prelude.{Bool, true, false}

pub record GatheredItems (f : Family) (V : Template) (ts : List Plain) (vs : List Typed) : Type 0 where
  pub right : wrong_item (wrong_part f V) 0 ts ≡ None
  pub typed : EachItem (IsTyped f V) (items_of vs)
  pub trees : out_items (items_of vs) ≡ trees_of ts
  pub count : length vs ≡ length ts
  pub counted : (q : Test) → nodes_in_items q (items_of vs) ≡ sum_items (part_nodes f q V) ts

abbrev pub is_common : Belongs → Bool
is_common (common V) = true
is_common b = false

abbrev pub is_cased : Belongs → Bool
is_cased (cased V) = true
is_cased b = false

abbrev pub is_unknown : Belongs → Bool
is_unknown unknown = true
is_unknown b = false

-- the pairs whose names belong so
abbrev pub those : (Belongs → Bool) → Row → Entries → Entries
those p row es = filter (λ e. p (belongs row e.0)) es

pub record Gathered (f : Family) (row : Row) (es : Entries) (p : RecordParts) : Type 0 where
  pub right : wrong_entry (wrong_pair f row) es ≡ None
  pub fields : out_slots (slots_of p.fields) ≡ those is_common row es
  pub tag : tag_pair p.tag ≡ those is_tagged row es
  pub cases : out_slots (slots_of p.cased) ≡ those is_cased row es
  pub others : out_slots (slots_of p.rest) ≡ those is_unknown row es
  pub fields_fit : EachSlot (FieldsFit (IsAtomOf f.form) (FitAsRead f.form (body f)) (fields_of row.fields)) (slots_of p.fields)
  pub cases_fit : EachSlot (FieldsFit (IsAtomOf f.form) (FitAsRead f.form (body f)) (fields_of row.cased)) (slots_of p.cased)
  pub others_fit : EachSlot (λ n v. (belongs row n ≡ unknown) × IsTrue (is_open row.rest) × IsAtomOf f.form v) (slots_of p.rest)
  pub counted : (q : Test) → record_nodes q p ≡ sum_entries (pair_nodes f q row) es
