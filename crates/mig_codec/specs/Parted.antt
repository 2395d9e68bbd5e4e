-- A record's map, of which each pair is put where its name belongs.
use Rattle.std.specs.Prelude.{◌≡◌, ℕ, List, [], ◌∷◌, ◌++◌, map, Bool, true, false, Option, Some, None, Result, Ok, Err, IsTrue}
use Rattle.std.specs.List.{filter}
use Rattle.std.specs.Map.{keys_of}
use Rattle.mig_model.specs.declared.presence.Presence.{Presence}
use Rattle.mig_model.specs.Plain as plain
use Rattle.mig_model.specs.Plain.{Plain}
use Rattle.mig_model.specs.Names.{under, has_twice}
use Rattle.mig_model.specs.Inhabits.{Entries, has_musts, is_in_form}
use Rattle.mig_model.specs.Template.{Template, fields_of, is_open}
use Rattle.mig_model.specs.Family.{Family, body}
use Rattle.mig_model.specs.declared.rest.Rest.{Rest}
use Rattle.mig_model.specs.Place.{Place, named, Wrong, sooner, place_under, place, wrong_entry}
use Rattle.mig_value.specs.Typed.{atom, slots_of, out_slots, tag_pair, in_order}
use Rattle.mig_value.specs.Nodes.{Test, sum_entries}
use Rattle.mig_value.specs.Parts.{RecordParts}
use Rattle.mig_value.specs.Fit.{EachSlot, FieldsFit, FitAsRead, IsAtomOf}
use Rattle.mig_value.specs.View.{typed_of, slot_of}
use Rattle.mig_value.specs.declared.record.RecValue.{RecValue}
use Rattle.mig_codec.specs.declared.pieces.Pieces.{Pieces}
use Rattle.mig_codec.specs.declared.pieces.Placed.{Placed}
use Rattle.mig_codec.specs.declared.pieces.Placed.TheVariants as P
use Rattle.mig_codec.specs.declared.stop.Stop.{Stop}
use Rattle.mig_write.specs.Lists.{record_nodes, pairs_in}
use Rattle.mig_row.specs.Row.{Row, Belongs, common, tagged, cased, unknown, belongs, wrong_in, missing_in}
use Rattle.mig_codec.specs.Reading.{IsRead, IsPart, StopsAt, part_nodes}

abbrev pub pieces_of : Pieces → RecordParts
pieces_of p = record { fields = map slot_of p.fields.items; tag = p.tag; cased = map slot_of p.cased.items; rest = map slot_of p.rest.items }

-- one more pair, behind those that are there
abbrev pub added : RecordParts → Placed → RecordParts
added p (P.Field s) = record { fields = p.fields ++ slot_of s ∷ []; tag = p.tag; cased = p.cased; rest = p.rest }
added p (P.Tag n l) = record { fields = p.fields; tag = Some (n, l); cased = p.cased; rest = p.rest }
added p (P.Cased s) = record { fields = p.fields; tag = p.tag; cased = p.cased ++ slot_of s ∷ []; rest = p.rest }
added p (P.Unknown s) = record { fields = p.fields; tag = p.tag; cased = p.cased; rest = p.rest ++ slot_of s ∷ [] }

-- the pair was read, and belongs where it is put
abbrev pub IsPlaced : Family → Row → List ℕ → Plain → Placed → Type 0
IsPlaced f row n t (P.Field s) = (V : Template) × (belongs row n ≡ common V) × (s.name ≡ n) × IsRead f V t (typed_of s.value)
IsPlaced f row n t (P.Tag m l) = (belongs row n ≡ tagged) × (m ≡ n) × (t ≡ plain.text l)
IsPlaced f row n t (P.Cased s) = (V : Template) × (belongs row n ≡ cased V) × (s.name ≡ n) × IsRead f V t (typed_of s.value)
IsPlaced f row n t (P.Unknown s) = (belongs row n ≡ unknown) × IsTrue (is_open row.rest) × (s.name ≡ n) × (typed_of s.value ≡ atom t) × IsTrue (is_in_form f.form t)

-- the first wrong place of a tree under a name
abbrev pub wrong_pair : Family → Row → (List ℕ → Plain → Option Place)
wrong_pair f row = wrong_in f.form (place f) row

-- how many trees stand at points whose name passes, in a tree under a name that belongs there
abbrev pub nodes_as : Family → Test → Belongs → Plain → ℕ
nodes_as f p (common V) t = part_nodes f p V t
nodes_as f p tagged t = 0
nodes_as f p (cased V) t = part_nodes f p V t
nodes_as f p unknown t = 0

abbrev pub pair_nodes : Family → Test → Row → List ℕ → Plain → ℕ
pair_nodes f p row n t = nodes_as f p (belongs row n) t

abbrev pub below_name : List ℕ → Option Place → Wrong
below_name n None = None
below_name n (Some p) = Some (n, p)

abbrev pub Places : Family → Row → List ℕ → Plain → Result Placed Stop → Type 0
Places f row n t (Ok placed) = IsPlaced f row n t placed
Places f row n t (Err stop) = StopsAt stop (place_under (below_name n (wrong_pair f row n t)))

-- the tree is a text
abbrev pub TagAt : Plain → Type 0
TagAt (plain.text s) = Unit {0}
TagAt t = ⊥

-- an unknown name stands where the rest is open
abbrev pub PlacesUnknown : Rest → List ℕ → Plain → Result Placed Stop → Type 0
PlacesUnknown r n t (Ok (P.Unknown s)) = IsTrue (is_open r) × (s.name ≡ n) × (typed_of s.value ≡ atom t)
PlacesUnknown r n t (Ok placed) = ⊥
PlacesUnknown r n t (Err stop) = (is_open r ≡ false) × StopsAt stop (Some (named n ∷ []))

-- the map has a text under the tag's name
abbrev pub HasTag : Option (List ℕ) → Entries → Type 0
HasTag None es = Unit {0}
HasTag (Some tag) es = (s : List ℕ) × (under tag es ≡ Some (plain.text s))

abbrev pub tag_names : Option (List ℕ) → List (List ℕ)
tag_names None = []
tag_names (Some tag) = tag ∷ []

-- the templates of a record in a body, whose names are distinct
pub record IsRow (f : Family) (row : Row) : Type 0 where
  pub fields : (n : List ℕ) (p : Presence) (V : Template) → under n row.fields ≡ Some (p, V) → IsPart f V
  pub cased : (n : List ℕ) (p : Presence) (V : Template) → under n row.cased ≡ Some (p, V) → IsPart f V
  pub apart : has_twice (keys_of row.cased ++ (tag_names row.tag ++ keys_of row.fields)) ≡ false

abbrev pub is_tagged : Belongs → Bool
is_tagged tagged = true
is_tagged b = false

-- the first wrong name of the map, or the first Must field that isn't there
abbrev pub wrong_row : Family → Row → Entries → Option Place
wrong_row f row es = place_under (sooner (wrong_entry (wrong_pair f row) es) (missing_in row es))

-- the map was read as the record value
pub record IsRowRead (f : Family) (row : Row) (es : Entries) (p : RecordParts) : Type 0 where
  pub right : wrong_row f row es ≡ None
  pub fields : EachSlot (FieldsFit (IsAtomOf f.form) (FitAsRead f.form (body f)) (fields_of row.fields)) (slots_of p.fields)
  pub cased : EachSlot (FieldsFit (IsAtomOf f.form) (FitAsRead f.form (body f)) (fields_of row.cased)) (slots_of p.cased)
  pub rest : EachSlot (λ n v. (belongs row n ≡ unknown) × IsTrue (is_open row.rest) × IsAtomOf f.form v) (slots_of p.rest)
  pub field_musts : has_musts (fields_of row.fields) (out_slots (slots_of p.fields)) ≡ true
  pub cased_musts : has_musts (fields_of row.cased) (out_slots (slots_of p.cased)) ≡ true
  pub tag : tag_pair p.tag ≡ filter (λ e. is_tagged (belongs row e.0)) es
  pub pairs : in_order (pairs_in p) ≡ es
  pub counted : (q : Test) → record_nodes q p ≡ sum_entries (pair_nodes f q row) es

abbrev pub ReadsRow : Family → Row → Entries → Result RecValue Stop → Type 0
ReadsRow f row es (Ok p) = IsRowRead f row es p
ReadsRow f row es (Err stop) = StopsAt stop (wrong_row f row es)
