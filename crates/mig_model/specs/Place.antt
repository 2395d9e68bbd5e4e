-- The first wrong place of a tree at a template, one level at a time: w says it of a tree at a point.
use Rattle.std.specs.Prelude.{ℕ, zero, suc, List, [], ◌∷◌, Bool, false, not, ◌&&◌, ◌||◌, Option, Some, None, is_some, option_map, if◌then◌else◌}
use Rattle.std.specs.Ordering.{is_lt}
use Rattle.mig_model.specs.declared.form.Form.{Form}
use Rattle.mig_model.specs.declared.rest.Rest.{Rest}
use Rattle.mig_model.specs.Plain as plain
use Rattle.mig_model.specs.Plain.{Plain, items, entries}
use Rattle.mig_model.specs.Kinds.{kind_of}
use Rattle.mig_model.specs.Names.{by_bytes, under, same_name}
use Rattle.mig_model.specs.Template.{Template, leaf, any, list, point, rec, sum, Fields, no_field, field, Choice, no_choice, choice, Cases, no_case, case, same_kind, has_kind, is_must, is_open}
use Rattle.mig_model.specs.Inhabits.{Entries, is_in_form, has_tag, has_text, depth}
use Rattle.mig_model.specs.Family.{Family, body}

pub data PlaceStep : Type 0 where
  named : List ℕ → PlaceStep
  index : ℕ → PlaceStep

-- the steps from the root down
abbrev pub Place : Type 0
Place = List PlaceStep

-- what is wrong under one name of a map
abbrev pub Wrong : Type 0
Wrong = Option (List ℕ × Place)

-- the one whose name comes first
abbrev pub sooner : Wrong → Wrong → Wrong
sooner None b = b
sooner (Some a) None = Some a
sooner (Some a) (Some b) = if is_lt (by_bytes b.0 a.0) then Some b else Some a

abbrev pub place_under : Wrong → Option Place
place_under None = None
place_under (Some a) = Some (named a.0 ∷ a.1)

-- the first item that is wrong, counted from i
abbrev pub or_else : Option Place → Option Place → Option Place
or_else None b = b
or_else (Some p) b = Some p

abbrev pub wrong_item : (Plain → Option Place) → ℕ → List Plain → Option Place
wrong_item w i [] = None
wrong_item w i (t ∷ ts) = or_else (option_map (λ p. index i ∷ p) (w t)) (wrong_item w (suc i) ts)

abbrev pub within_list : (List Plain → Option Place) → Plain → Option Place
within_list w (plain.list ts) = w (items ts)
within_list w t = Some []

abbrev pub within_map : (Entries → Option Place) → Plain → Option Place
within_map w (plain.map ps) = w (entries ps)
within_map w t = Some []

abbrev pub at_name : List ℕ → Option Place → Wrong → Wrong
at_name n None b = b
at_name n (Some p) b = Some (n, p)

-- the first pair that is wrong, in the order of the names
abbrev pub wrong_entry : (List ℕ → Plain → Option Place) → Entries → Wrong
wrong_entry w [] = None
wrong_entry w (e ∷ es) = at_name e.0 (w e.0 e.1) (wrong_entry w es)

-- the first Must field that isn't there
abbrev pub missing : Fields → Entries → Wrong
missing no_field es = None
missing (field x p V fs) es = if not (is_must p) || is_some (under x es) then missing fs es else Some (x, [])

abbrev pub missing_in_case : List ℕ → Cases → Entries → Wrong
missing_in_case tag no_case es = None
missing_in_case tag (case l fs cs) es = if has_tag tag l es then missing fs es else missing_in_case tag cs es

abbrev pub is_literal : List ℕ → Cases → Entries → Bool
is_literal tag no_case es = false
is_literal tag (case l fs cs) es = has_tag tag l es || is_literal tag cs es

-- the tag is a case's literal, or another text, which is kept
abbrev pub is_tagged : List ℕ → Cases → Bool → Entries → Bool
is_tagged tag cs kept es = is_literal tag cs es || (kept && has_text tag es)

-- of a map's pairs and the Must fields, the first name that is wrong; the tag's name where the tag is
abbrev pub wrong_map : Fields → Choice → Entries → Wrong → Option Place
wrong_map fs no_choice es bad = place_under (sooner bad (missing fs es))
wrong_map fs (choice tag cs kept) es bad = if is_tagged tag cs kept es then place_under (sooner bad (sooner (missing fs es) (missing_in_case tag cs es))) else Some (named tag ∷ [])

abbrev pub unless : Bool → Option Place
unless b = if b then None else Some []

abbrev mutual
  pub wrong : Form → (List ℕ → Plain → Option Place) → Template → Plain → Option Place
  wrong form w (leaf k) t = unless (same_kind (kind_of t) k)
  wrong form w any t = unless (is_in_form form t)
  wrong form w (list V) t = within_list (wrong_item (wrong form w V) 0) t
  wrong form w (point n) t = w n t
  wrong form w (rec fs c r) t = within_map (λ es. wrong_map fs c es (wrong_entry (wrong_choice form w c (wrong_fields form w fs) r es) es)) t
  wrong form w (sum V W) t = if has_kind form V (kind_of t) then wrong form w V t else (if has_kind form W (kind_of t) then wrong form w W t else Some [])

  pub wrong_fields : Form → (List ℕ → Plain → Option Place) → Fields → (List ℕ → Plain → Option Place) → List ℕ → Plain → Option Place
  wrong_fields form w no_field other n t = other n t
  wrong_fields form w (field x p V fs) other n t = if same_name n x then wrong form w V t else wrong_fields form w fs other n t

  pub wrong_choice : Form → (List ℕ → Plain → Option Place) → Choice → ((List ℕ → Plain → Option Place) → List ℕ → Plain → Option Place) → Rest → Entries → List ℕ → Plain → Option Place
  wrong_choice form w no_choice common r es n t = common (λ m u. unless (is_open r)) n t
  wrong_choice form w (choice tag cs kept) common r es n t = if same_name n tag then None else common (wrong_cases form w tag cs r es) n t

  pub wrong_cases : Form → (List ℕ → Plain → Option Place) → List ℕ → Cases → Rest → Entries → List ℕ → Plain → Option Place
  wrong_cases form w tag no_case r es n t = None
  wrong_cases form w tag (case l fs cs) r es n t = if has_tag tag l es then wrong_fields form w fs (λ m u. unless (is_open r)) n t else wrong_cases form w tag cs r es n t

abbrev pub place_within : Form → (List ℕ → Template) → ℕ → List ℕ → Plain → Option Place
place_within form bodies zero n t = Some []
place_within form bodies (suc k) n t = wrong form (place_within form bodies k) (bodies n) t

-- the first wrong place of a tree at the body of the named type n, or none where the tree inhabits it
abbrev pub place : Family → List ℕ → Plain → Option Place
place f n t = place_within f.form (body f) (suc (depth t)) n t
