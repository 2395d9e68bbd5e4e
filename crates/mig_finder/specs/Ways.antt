-- The places of a name as ways in plain trees, and a tree with something done at a place.
use Rattle.std.specs.Prelude.{ℕ, List, [], ◌∷◌, ◌++◌, map, Bool, false, if◌then◌else◌}
use Rattle.mig_model.specs.declared.form.Form.{Form}
use Rattle.mig_model.specs.Plain as plain
use Rattle.mig_model.specs.Plain.{Plain, entries, on_items, on_entries, each_entry}
use Rattle.mig_model.specs.Kinds.{kind_of}
use Rattle.mig_model.specs.Inhabits.{has_tag}
use Rattle.mig_model.specs.Template as template
use Rattle.mig_model.specs.Template.{Template, Fields, no_field, field, Choice, no_choice, choice, Cases, no_case, case, has_kind}
use Rattle.mig_model.specs.Names.{same_name}

-- a step: to the tree under a name of a map, where it is there; on from a map whose tag, under the first name, is the literal; to each item of a list; on from a tree of one of the template's kinds
pub data Step : Type 0 where
  name : List ℕ → Step
  tagged : List ℕ → List ℕ → Step
  item : Step
  kinds : Form → Template → Step

abbrev pub Way : Type 0
Way = List Step

abbrev pub is_tagged : List ℕ → List ℕ → Plain → Bool
is_tagged tag l (plain.map ps) = has_tag tag l (entries ps)
is_tagged tag l t = false

-- the tree with f done where a step leads
abbrev pub at_step : Step → (Plain → Plain) → Plain → Plain
at_step (name x) f t = on_entries (each_entry (λ n u. if same_name x n then f u else u)) t
at_step (tagged tag l) f t = if is_tagged tag l t then f t else t
at_step item f t = on_items f t
at_step (kinds form V) f t = if has_kind form V (kind_of t) then f t else t

-- the tree with f done where a way leads
abbrev pub at_place : Way → (Plain → Plain) → Plain → Plain
at_place [] f t = f t
at_place (s ∷ w) f t = at_step s (at_place w f) t

-- the ways on from a step
abbrev pub after : Step → List Way → List Way
after s ws = map (λ w. s ∷ w) ws

-- the ways to the places of a name in a template, in the order of the places
abbrev mutual
  pub ways : Form → List ℕ → Template → List Way
  ways form x (template.list V) = after item (ways form x V)
  ways form x (template.rec fs c r) = field_ways form x fs ++ choice_ways form x c
  ways form x (template.sum V W) = after (kinds form V) (ways form x V) ++ after (kinds form W) (ways form x W)
  ways form x V = []

  pub field_ways : Form → List ℕ → Fields → List Way
  field_ways form x no_field = []
  field_ways form x (field y p V fs) = (if same_name x y then (name y ∷ []) ∷ [] else after (name y) (ways form x V)) ++ field_ways form x fs

  pub choice_ways : Form → List ℕ → Choice → List Way
  choice_ways form x no_choice = []
  choice_ways form x (choice tag cs kept) = case_ways form x tag cs

  pub case_ways : Form → List ℕ → List ℕ → Cases → List Way
  case_ways form x tag no_case = []
  case_ways form x tag (case l fs cs) = after (tagged tag l) (field_ways form x fs) ++ case_ways form x tag cs
