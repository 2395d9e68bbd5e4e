-- What the parts of a record in the program stand for.
use Rattle.std.specs.Prelude.{ℕ, List, [], ◌∷◌, Option, Some, None, option_map, if◌then◌else◌}
use Rattle.std.specs.Borrow.{Bor}
use Rattle.std.specs.Ordering.{is_lt}
use Rattle.mig_model.specs.Names.{by_bytes}
use Rattle.mig_model.specs.Place.{Place, Wrong, named}
use Rattle.mig_model.specs.Record as parts
use Rattle.mig_model.specs.Template as model
use Rattle.mig_template.specs.View.{template_of}
use Rattle.mig_row.specs.Row as plain
use Rattle.mig_row.specs.declared.row.Row.{Row}
use Rattle.mig_row.specs.declared.row.Belongs.{Belongs}
use Rattle.mig_row.specs.declared.row.Belongs.TheVariants as B

abbrev pub fields_in : Option (Bor (List model.Field)) → List model.Field
fields_in None = []
fields_in (Some fs) = fs.now

abbrev pub row_view : Row → plain.Row
row_view r = record { fields = r.fields.now; tag = option_map (λ n. n.now) r.tag; cased = fields_in r.cased; rest = r.rest }

abbrev pub belongs_view : Belongs → plain.Belongs
belongs_view (B.Common V) = plain.common (template_of V.now)
belongs_view B.Tagged = plain.tagged
belongs_view (B.Cased V) = plain.cased (template_of V.now)
belongs_view B.Unknown = plain.unknown

-- a name that isn't there
abbrev pub missing_view : Option (Bor (List ℕ)) → Wrong
missing_view None = None
missing_view (Some n) = Some (n.now, [])

-- what is missing, where it comes before the name
abbrev pub earlier : List ℕ → Wrong → Wrong
earlier n None = None
earlier n (Some m) = if is_lt (by_bytes m.0 n) then Some m else None

-- what is missing before the name, or what is wrong there
abbrev pub or_first : Wrong → Option Place → Option Place
or_first missing None = None
or_first None (Some p) = Some p
or_first (Some m) (Some p) = Some (named m.0 ∷ m.1)

-- the tag's place
abbrev pub tag_place : Option parts.Cases → Option Place
tag_place None = Some []
tag_place (Some c) = Some (named c.0 ∷ [])
