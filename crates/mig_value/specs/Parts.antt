-- The parts of a record value and of a node, and what a record value keeps.
use Rattle.std.specs.Prelude.{◌≡◌, ℕ, suc, ◌+◌, List, [], ◌∷◌, ◌++◌, false, Option, Some, None}
use Rattle.std.specs.Map.{keys_of}
use Rattle.mig_model.specs.Names.{Ascends, has_twice}
use Rattle.mig_value.specs.Typed.{Typed, rec, Slot, Tag, slots_of, typed_size, slot_list_size}

pub record RecordParts : Type 0 where
  pub fields : List Slot
  pub tag : Option Tag
  pub cased : List Slot
  pub rest : List Slot

abbrev pub record_of : RecordParts → Typed
record_of p = rec (slots_of p.fields) p.tag (slots_of p.cased) (slots_of p.rest)

abbrev pub tag_name : Option Tag → List (List ℕ)
tag_name None = []
tag_name (Some t) = t.0 ∷ []

-- the names of all pairs
abbrev pub names_in : RecordParts → List (List ℕ)
names_in p = keys_of p.fields ++ (tag_name p.tag ++ (keys_of p.cased ++ keys_of p.rest))

-- each list of slots ascends by name, and all names are distinct
pub record IsRecordValue (p : RecordParts) : Type 0 where
  pub fields : Ascends p.fields
  pub cased : Ascends p.cased
  pub rest : Ascends p.rest
  pub distinct : has_twice (names_in p) ≡ false

-- a node: the name of its type, and its body
abbrev pub NodeParts : Type 0
NodeParts = List ℕ × Typed

-- what a record value has besides its common fields
pub record Besides : Type 0 where
  pub tag : Option Tag
  pub cased : List Slot
  pub rest : List Slot

-- without any of them there is nothing
abbrev pub beside : Option Besides → Besides
beside None = record { tag = None; cased = []; rest = [] }
beside (Some b) = b

abbrev pub with_besides : List Slot → Besides → RecordParts
with_besides fs b = record { fields = fs; tag = b.tag; cased = b.cased; rest = b.rest }

abbrev pub besides_size : Besides → ℕ
besides_size b = suc (slot_list_size b.cased + slot_list_size b.rest)

abbrev pub record_size : RecordParts → ℕ
record_size p = suc (suc (slot_list_size p.fields + (slot_list_size p.cased + slot_list_size p.rest)))

abbrev pub node_size : NodeParts → ℕ
node_size n = suc (typed_size n.1)
