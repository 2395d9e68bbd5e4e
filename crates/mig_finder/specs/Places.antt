-- The places of a name in a template: the optic to each, and the template there. Nothing inside a place is looked at.
use Rattle.std.specs.Prelude.{ℕ, List, [], ◌∷◌, ◌++◌, map, if◌then◌else◌}
use Rattle.mig_model.specs.declared.presence.Presence.{Presence}
use Rattle.mig_model.specs.declared.presence.Presence.TheVariants.{Must, May}
use Rattle.mig_model.specs.Template as template
use Rattle.mig_model.specs.Template.{Template, Fields, no_field, field, Choice, no_choice, choice, Cases, no_case, case}
use Rattle.mig_model.specs.Names.{same_name}
use Rattle.mig_path.specs.declared.side.Side.TheVariants.{Left, Right}
use Rattle.mig_path.specs.Path.{Path, field_at, may_field, case_of, each, side, then_}

abbrev pub Place : Type 0
Place = Path × Template

-- places inside what an optic leads to
abbrev pub behind : Path → List Place → List Place
behind o ps = map (λ p. (then_ o p.0, p.1)) ps

abbrev pub to_field : List ℕ → Presence → Path
to_field x Must = field_at x
to_field x May = may_field x

abbrev mutual
  pub places : List ℕ → Template → List Place
  places x (template.list V) = behind each (places x V)
  places x (template.rec fs c r) = field_places x fs ++ choice_places x c
  places x (template.sum V W) = behind (side Left) (places x V) ++ behind (side Right) (places x W)
  places x V = []

  -- a field of the name is a place; any other field has those in its template
  pub field_places : List ℕ → Fields → List Place
  field_places x no_field = []
  field_places x (field y p V fs) = (if same_name x y then (to_field y p, V) ∷ [] else behind (to_field y p) (places x V)) ++ field_places x fs

  pub choice_places : List ℕ → Choice → List Place
  choice_places x no_choice = []
  choice_places x (choice tag cs kept) = case_places x cs

  pub case_places : List ℕ → Cases → List Place
  case_places x no_case = []
  case_places x (case l fs cs) = behind (case_of l) (field_places x fs) ++ case_places x cs
