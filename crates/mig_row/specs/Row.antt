-- A record at a map whose tag is known: the fields that its maps may have, and where each name belongs.
use Rattle.std.specs.Prelude.{ℕ, List, [], Bool, true, false, Option, Some, None, count_by, if◌then◌else◌}
use Rattle.mig_model.specs.declared.form.Form.{Form}
use Rattle.mig_model.specs.declared.presence.Presence.{Presence}
use Rattle.mig_model.specs.declared.rest.Rest.{Rest}
use Rattle.mig_model.specs.declared.rest.Rest.TheVariants.{Open}
use Rattle.mig_model.specs.Plain as plain
use Rattle.mig_model.specs.Plain.{Plain}
use Rattle.mig_model.specs.Names.{under, same_name}
use Rattle.mig_model.specs.Template.{Template, Field, fields_of, is_must, is_open}
use Rattle.mig_model.specs.Inhabits.{Entries}
use Rattle.mig_model.specs.Place.{Place, Wrong, sooner, missing, unless, wrong}
use Rattle.mig_model.specs.Record as parts
use Rattle.mig_model.specs.Record.{RecordParts, found_case}

-- the common fields, the tag's name where there is a choice, the fields of the tag's case, and whether other names may stand there
pub record Row : Type 0 where
  pub fields : List Field
  pub tag : Option (List ℕ)
  pub cased : List Field
  pub rest : Rest

-- a name is that of a common field with its template, the tag, a field of the case, or unknown
pub data Belongs : Type 0 where
  common : Template → Belongs
  tagged : Belongs
  cased : Template → Belongs
  unknown : Belongs

abbrev pub is_tag : Option (List ℕ) → List ℕ → Bool
is_tag None n = false
is_tag (Some tag) n = same_name n tag

abbrev pub in_case : Option (Presence × Template) → Belongs
in_case None = unknown
in_case (Some s) = cased s.1

abbrev pub in_fields : Option (Presence × Template) → Belongs → Belongs
in_fields None other = other
in_fields (Some s) other = common s.1

-- by the fields alone
abbrev pub among_fields : Row → List ℕ → Belongs
among_fields row n = in_fields (under n row.fields) (in_case (under n row.cased))

abbrev pub belongs : Row → List ℕ → Belongs
belongs row n = if is_tag row.tag n then tagged else among_fields row n

-- what is wrong with a tree under a name that belongs there
abbrev pub wrong_as : Form → (List ℕ → Plain → Option Place) → Rest → Belongs → Plain → Option Place
wrong_as form w r (common V) t = wrong form w V t
wrong_as form w r tagged t = None
wrong_as form w r (cased V) t = wrong form w V t
wrong_as form w r unknown t = unless (is_open r)

abbrev pub wrong_in : Form → (List ℕ → Plain → Option Place) → Row → List ℕ → Plain → Option Place
wrong_in form w row n t = wrong_as form w row.rest (belongs row n) t

-- the name is that of a Must field
abbrev pub is_must_field : Option (Presence × Template) → Bool
is_must_field None = false
is_must_field (Some s) = is_must s.0

-- how many names of a map are those of Must fields
abbrev pub musts_among : List Field → Entries → ℕ
musts_among fs es = count_by (λ e. is_must_field (under e.0 fs)) es

-- the first Must field that isn't there
abbrev pub missing_in : Row → Entries → Wrong
missing_in row es = sooner (missing (fields_of row.fields) es) (missing (fields_of row.cased) es)

-- the fields of the tag's case; where it has none and is kept, no fields more, and other names may stand there
abbrev pub with_case : RecordParts → List ℕ → Bool → Option (List Field) → Option Row
with_case p tag kept (Some fs) = Some (record { fields = p.fields; tag = Some tag; cased = fs; rest = p.rest })
with_case p tag true None = Some (record { fields = p.fields; tag = Some tag; cased = []; rest = Open })
with_case p tag false None = None

abbrev pub with_tag : RecordParts → List ℕ → Bool → Option Plain → Option Row
with_tag p tag kept (Some (plain.text s)) = with_case p tag kept (found_case s p.choice)
with_tag p tag kept o = None

abbrev pub with_choice : RecordParts → Option parts.Cases → Entries → Option Row
with_choice p None es = Some (record { fields = p.fields; tag = None; cased = []; rest = p.rest })
with_choice p (Some c) es = with_tag p c.0 c.2 (under c.0 es)

-- the record at a map; none where there is a choice and the tag isn't a literal of it, nor another text that is kept
abbrev pub row_of : RecordParts → Entries → Option Row
row_of p es = with_choice p p.choice es
