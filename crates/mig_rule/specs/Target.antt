-- The template that a rule gives on a part of the body of a named type, or none where it doesn't fit. It depends on the rule, the name and the template alone.
use Rattle.std.specs.Prelude.{ℕ, zero, suc, List, Bool, true, false, Option, Some, None, option_map, option_and_then, is_some, unwrap_or, if◌then◌else◌}
use Rattle.std.specs.Option.{option_or}
use Rattle.std.specs.List.{list_any}
use Rattle.mig_model.specs.Family.{nests}
use Rattle.mig_model.specs.Template.{Template, rec, field_list}
use Rattle.mig_model.specs.Names.{same_name}
use Rattle.mig_model.specs.Record.{RecordParts, cases_in, record_of}
use Rattle.mig_field.specs.FieldFn.{FieldFn}
use Rattle.mig_field.specs.NewRecord.{new_record}
use Rattle.mig_rule.specs.Rule as rule
use Rattle.mig_rule.specs.Rule.{Rule}
use Rattle.mig_rule.specs.Children.{Child, children, map_children}

-- what fits some templates, and gives others on them
abbrev pub Retyping : Type 0
Retyping = Template → Option Template

-- what becomes of a template: it stays, it becomes another, or what has to fit a part of it doesn't
pub data Outcome : Type 0 where
  stays : Outcome
  becomes : Template → Outcome
  unfit : Outcome

abbrev pub if_it_fits : Option Template → Outcome
if_it_fits None = stays
if_it_fits (Some W) = becomes W

abbrev pub it_must_fit : Option Template → Outcome
it_must_fit None = unfit
it_must_fit (Some W) = becomes W

-- the new template, where it becomes one
abbrev pub changed : Outcome → Option Template
changed (becomes W) = Some W
changed o = None

abbrev pub changed_or : Template → Outcome → Template
changed_or V o = unwrap_or (changed o) V

abbrev pub is_unfit : Outcome → Bool
is_unfit unfit = true
is_unfit o = false

abbrev pub is_changed : Outcome → Bool
is_changed o = is_some (changed o)

-- by what becomes of its children: it is unfit where one is, and becomes another where one does
abbrev pub by_children : (Child → Outcome) → Template → Outcome
by_children o V =
    if list_any (λ c. is_unfit (o c)) (children V) then unfit
    else (if list_any (λ c. is_changed (o c)) (children V) then becomes (map_children (λ c. changed_or c.1 (o c)) V) else stays)

-- each child that it fits; it has to fit one
abbrev pub all_children : Retyping → Retyping
all_children R V = changed (by_children (λ c. if_it_fits (R c.1)) V)

-- at the template that the children give, where it fits that; without a child that was fit, at the template itself
abbrev pub then_itself : Retyping → Template → Option Template → Option Template
then_itself R V None = R V
then_itself R V (Some W) = option_or (R W) (Some W)

-- at each part that it fits, from below, with at most k levels
abbrev pub everywhere_within : Retyping → ℕ → Retyping
everywhere_within R zero V = None
everywhere_within R (suc k) V = then_itself R V (all_children (everywhere_within R k) V)

abbrev pub is_name : List ℕ → Option (List ℕ) → Bool
is_name x None = false
is_name x (Some y) = same_name x y

-- a field of the name x is a place, and R has to fit it; any other child has the places inside
abbrev pub place_or : List ℕ → Retyping → (Template → Outcome) → Child → Outcome
place_or x R inside c = if is_name x c.0 then it_must_fit (R c.1) else inside c.1

-- at each place of x, with at most k levels
abbrev pub places_within : List ℕ → Retyping → ℕ → Template → Outcome
places_within x R zero V = stays
places_within x R (suc k) V = by_children (place_or x R (places_within x R k)) V

abbrev pub parts_of : Template → Option RecordParts
parts_of (rec fs c r) = Some (record { fields = field_list fs; choice = cases_in c; rest = r })
parts_of V = None

abbrev pub new_template : FieldFn → Template → Option Template
new_template f V = option_and_then (λ p. option_map record_of (new_record f p)) (parts_of V)

abbrev pub target : Rule → List ℕ → Retyping
target rule.nop n V = Some V
target (rule.function f) n V = new_template f V
target (rule.on m r) n V = if same_name n m then target r n V else None
target (rule.at x r) n V = changed (places_within x (target r n) (nests V) V)
target (rule.seq r s) n V = option_and_then (target s n) (target r n V)
target (rule.or_else r s) n V = option_or (target r n V) (target s n V)
target (rule.all r) n V = all_children (target r n) V
target (rule.everywhere r) n V = everywhere_within (target r n) (nests V) V
