-- The value under a name of a record value, and its literal.
use Rattle.std.specs.Prelude.{ℕ, List, Bool, false, Option, Some, None, is_some, if◌then◌else◌}
use Rattle.std.specs.Option.{option_or}
use Rattle.mig_model.specs.Plain as plain
use Rattle.mig_model.specs.Names.{same_name}
use Rattle.mig_value.specs.Typed.{Typed, atom, rec, Slots, no_slot, slot, Tag}

-- the atom that stands where a focus was taken out
abbrev pub null : Typed
null = atom plain.null

-- the value of the first slot of the name
abbrev pub value_in : List ℕ → Slots → Option Typed
value_in x no_slot = None
value_in x (slot n v ss) = if same_name x n then Some v else value_in x ss

-- the slots with another value in the first slot of the name
abbrev pub with_value : List ℕ → Typed → Slots → Slots
with_value x w no_slot = no_slot
with_value x w (slot n v ss) = if same_name x n then slot n w ss else slot n v (with_value x w ss)

-- the value under a name of a record value: that of a field, or else that of a field of its case
abbrev pub value_under : List ℕ → Typed → Option Typed
value_under x (rec fs tag cs rs) = option_or (value_in x fs) (value_in x cs)
value_under x v = None

-- the record value with another value under a name
abbrev pub with_value_under : List ℕ → Typed → Typed → Typed
with_value_under x w (rec fs tag cs rs) = if is_some (value_in x fs) then rec (with_value x w fs) tag cs rs else rec fs tag (with_value x w cs) rs
with_value_under x w v = v

-- the tag of a record value
abbrev pub tag_of : Typed → Option Tag
tag_of (rec fs tag cs rs) = tag
tag_of v = None

abbrev pub is_tagged_as : List ℕ → Option Tag → Bool
is_tagged_as l None = false
is_tagged_as l (Some t) = same_name l t.1

-- the tag of the record value has this literal
abbrev pub has_literal : List ℕ → Typed → Bool
has_literal l v = is_tagged_as l (tag_of v)
