-- The syntax of a template as plain data, wherever its boxes and lists lie in memory.
use Rattle.std.specs.Prelude.{ℕ, suc, ◌+◌, List, [], ◌∷◌, Bool, Option, Some, None}
use Rattle.mig_model.specs.declared.kind.Kind.{Kind}

mutual
  pub data TemplateSyntax : Type 0 where
    leaf : Kind → TemplateSyntax
    any : TemplateSyntax
    list : TemplateSyntax → TemplateSyntax
    -- the fields, the choice, and whether `..` stands
    record_of : FieldsSyntax → ChoiceSyntax → Bool → TemplateSyntax
    point : List ℕ → TemplateSyntax
    sum : TemplateSyntax → TemplateSyntax → TemplateSyntax

  pub data FieldsSyntax : Type 0 where
    no_field : FieldsSyntax
    field : List ℕ → Bool → TemplateSyntax → FieldsSyntax → FieldsSyntax

  pub data ChoiceSyntax : Type 0 where
    no_choice : ChoiceSyntax
    -- the name of the tag, the cases, and whether `else kept` stands
    choice : List ℕ → CasesSyntax → Bool → ChoiceSyntax

  pub data CasesSyntax : Type 0 where
    no_case : CasesSyntax
    -- the literal, and the fields
    case : List ℕ → FieldsSyntax → CasesSyntax → CasesSyntax

-- a name, whether `?` stands, and the template
abbrev pub FieldSyntax : Type 0
FieldSyntax = List ℕ × (Bool × TemplateSyntax)

abbrev pub fields_of : List FieldSyntax → FieldsSyntax
fields_of [] = no_field
fields_of (f ∷ fs) = field f.0 f.1.0 f.1.1 (fields_of fs)

-- a literal, and the fields of its case
abbrev pub CaseSyntax : Type 0
CaseSyntax = List ℕ × List FieldSyntax

-- the name of a tag, the cases, and whether `else kept` stands
abbrev pub CasesOfTag : Type 0
CasesOfTag = List ℕ × (List CaseSyntax × Bool)

abbrev pub cases_of : List CaseSyntax → CasesSyntax
cases_of [] = no_case
cases_of (c ∷ cs) = case c.0 (fields_of c.1) (cases_of cs)

abbrev pub choice_of : Option CasesOfTag → ChoiceSyntax
choice_of None = no_choice
choice_of (Some c) = choice c.0 (cases_of c.1.0) c.1.1

abbrev mutual
  pub template_size : TemplateSyntax → ℕ
  template_size (list t) = suc (template_size t)
  template_size (record_of fs c dots) = suc (fields_size fs + choice_size c)
  template_size (sum s t) = suc (template_size s + template_size t)
  template_size _ = 1

  pub fields_size : FieldsSyntax → ℕ
  fields_size no_field = 0
  fields_size (field n may t fs) = template_size t + fields_size fs

  pub choice_size : ChoiceSyntax → ℕ
  choice_size no_choice = 0
  choice_size (choice n cs kept) = suc (cases_size cs)

  pub cases_size : CasesSyntax → ℕ
  cases_size no_case = 0
  cases_size (case l fs cs) = suc (fields_size fs + cases_size cs)

abbrev pub field_list_size : List FieldSyntax → ℕ
field_list_size fs = fields_size (fields_of fs)

abbrev pub cases_of_tag_size : CasesOfTag → ℕ
cases_of_tag_size c = choice_size (choice_of (Some c))
