-- What the templates of a text stand for, and what may be wrong with them.
use Rattle.std.specs.Prelude.{ℕ, zero, suc, List, [], ◌∷◌, Bool, true, false, ◌||◌, Option, Some, None, map, unwrap_or, if◌then◌else◌}
use Rattle.mig_model.specs.declared.form.Form.{Form}
use Rattle.mig_model.specs.declared.presence.Presence.{Presence}
use Rattle.mig_model.specs.declared.presence.Presence.TheVariants.{Must, May}
use Rattle.mig_model.specs.declared.rest.Rest.{Rest}
use Rattle.mig_model.specs.declared.rest.Rest.TheVariants.{Open, Closed}
use Rattle.mig_model.specs.Names.{gathered}
use Rattle.mig_model.specs.Record.{Case, Cases, is_twice_named, has_no_case, choice_of}
use Rattle.mig_model.specs.Template as template
use Rattle.mig_model.specs.Template.{Template, Field, fields_of}
use Rattle.mig_syntax.specs.TemplateSyntax as syntax
use Rattle.mig_syntax.specs.TemplateSyntax.{TemplateSyntax, FieldsSyntax, ChoiceSyntax, CasesSyntax}
use Rattle.mig_resolve_template.specs.Constants.{is_wrong_kind}

-- `?` stands, or it doesn't
abbrev pub presence_from : Bool → Presence
presence_from may = if may then May else Must

-- `..` stands, or it doesn't
abbrev pub rest_from : Bool → Rest
rest_from dots = if dots then Open else Closed

-- in the order of the names; as given where two are equal
abbrev pub in_order : {A : Type 0} → List (List ℕ × A) → List (List ℕ × A)
in_order es = unwrap_or (gathered es) es

-- the cases in the order of their literals, with the fields of each in the order of their names
abbrev pub cases_in_order : List Case → List Case
cases_in_order cs = in_order (map (λ (c : Case). (c.0, in_order c.1)) cs)

abbrev pub choice_in_order : Option Cases → Option Cases
choice_in_order None = None
choice_in_order (Some c) = Some (c.0, cases_in_order c.1, c.2)

abbrev mutual
  pub template_from : TemplateSyntax → Template
  template_from (syntax.leaf k) = template.leaf k
  template_from syntax.any = template.any
  template_from (syntax.list t) = template.list (template_from t)
  template_from (syntax.record_of fs c dots) = template.rec (fields_of (in_order (given_fields fs))) (choice_of (choice_in_order (given_choice c))) (rest_from dots)
  template_from (syntax.point n) = template.point n
  template_from (syntax.sum s t) = template.sum (template_from s) (template_from t)

  -- the fields as they are written
  pub given_fields : FieldsSyntax → List Field
  given_fields syntax.no_field = []
  given_fields (syntax.field n may t fs) = (n, (presence_from may, template_from t)) ∷ given_fields fs

  pub given_choice : ChoiceSyntax → Option Cases
  given_choice syntax.no_choice = None
  given_choice (syntax.choice tag cs kept) = Some (tag, given_cases cs, kept)

  pub given_cases : CasesSyntax → List Case
  given_cases syntax.no_case = []
  given_cases (syntax.case l fs cs) = (l, given_fields fs) ∷ given_cases cs

-- ---- kind words: one of them is no leaf kind of the form
abbrev mutual
  pub template_is_wrong : Form → TemplateSyntax → Bool
  template_is_wrong form (syntax.leaf k) = is_wrong_kind form k
  template_is_wrong form (syntax.list t) = template_is_wrong form t
  template_is_wrong form (syntax.record_of fs c dots) = fields_are_wrong form fs || choice_is_wrong form c
  template_is_wrong form (syntax.sum s t) = template_is_wrong form s || template_is_wrong form t
  template_is_wrong form t = false

  pub fields_are_wrong : Form → FieldsSyntax → Bool
  fields_are_wrong form syntax.no_field = false
  fields_are_wrong form (syntax.field n may t fs) = template_is_wrong form t || fields_are_wrong form fs

  pub choice_is_wrong : Form → ChoiceSyntax → Bool
  choice_is_wrong form syntax.no_choice = false
  choice_is_wrong form (syntax.choice tag cs kept) = cases_are_wrong form cs

  pub cases_are_wrong : Form → CasesSyntax → Bool
  cases_are_wrong form syntax.no_case = false
  cases_are_wrong form (syntax.case l fs cs) = fields_are_wrong form fs || cases_are_wrong form cs

-- ---- names: those of a record that must be distinct aren't; or a choice has no case, which the grammar has not
abbrev pub is_no_record : List Field → Option Cases → Bool
is_no_record fs c = is_twice_named fs c || has_no_case c

-- so it is in a record of the template
abbrev mutual
  pub template_is_twice : TemplateSyntax → Bool
  template_is_twice (syntax.list t) = template_is_twice t
  template_is_twice (syntax.record_of fs c dots) = is_no_record (given_fields fs) (given_choice c) || (fields_are_twice fs || choice_is_twice c)
  template_is_twice (syntax.sum s t) = template_is_twice s || template_is_twice t
  template_is_twice t = false

  pub fields_are_twice : FieldsSyntax → Bool
  fields_are_twice syntax.no_field = false
  fields_are_twice (syntax.field n may t fs) = template_is_twice t || fields_are_twice fs

  pub choice_is_twice : ChoiceSyntax → Bool
  choice_is_twice syntax.no_choice = false
  choice_is_twice (syntax.choice tag cs kept) = cases_are_twice cs

  pub cases_are_twice : CasesSyntax → Bool
  cases_are_twice syntax.no_case = false
  cases_are_twice (syntax.case l fs cs) = fields_are_twice fs || cases_are_twice cs

-- ---- nesting: more than so many templates stand on the longest way down, this one counted
abbrev mutual
  pub nests_above : ℕ → TemplateSyntax → Bool
  nests_above zero t = true
  nests_above (suc k) (syntax.list t) = nests_above k t
  nests_above (suc k) (syntax.record_of fs c dots) = fields_nest_above k fs || choice_nests_above k c
  nests_above (suc k) (syntax.sum s t) = nests_above k s || nests_above k t
  nests_above (suc k) t = false

  pub fields_nest_above : ℕ → FieldsSyntax → Bool
  fields_nest_above k syntax.no_field = false
  fields_nest_above k (syntax.field n may t fs) = nests_above k t || fields_nest_above k fs

  pub choice_nests_above : ℕ → ChoiceSyntax → Bool
  choice_nests_above k syntax.no_choice = false
  choice_nests_above k (syntax.choice tag cs kept) = cases_nest_above k cs

  pub cases_nest_above : ℕ → CasesSyntax → Bool
  cases_nest_above k syntax.no_case = false
  cases_nest_above k (syntax.case l fs cs) = fields_nest_above k fs || cases_nest_above k cs

-- the most that a newtype, a fill or a field of `addcase` may nest
abbrev pub most_levels : ℕ
most_levels = 64
