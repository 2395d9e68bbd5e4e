-- The grammar of templates: which tokens are one, and with which syntax. The quoted words of the productions are reserved words;
-- `( )` around alternatives that `|` parts only group. A number says how many levels are free, from the part itself down.
use Rattle.std.specs.Prelude.{◌≡◌, ℕ, suc, List, [], ◌∷◌, ◌++◌, Bool, true, false, Option, Some, None}
use Rattle.mig_model.specs.declared.kind.Kind.{Kind}
use Rattle.mig_token.specs.declared.mark.Mark.{Mark}
use Rattle.mig_token.specs.declared.mark.Mark.TheVariants as M
use Rattle.mig_token.specs.Token.{Tok, mark, name, text}
use Rattle.mig_syntax.specs.TemplateSyntax as template
use Rattle.mig_syntax.specs.TemplateSyntax.{TemplateSyntax, FieldSyntax, CaseSyntax, CasesOfTag, fields_of, choice_of}
use Rattle.mig_reader.specs.Grammar.{kind_word, optional}

-- the levels at which a rule and a template may stand
abbrev pub max_levels : ℕ
max_levels = 256

-- [, ..]
abbrev pub comma_dots : Bool → List Tok
comma_dots true = mark M.Comma ∷ mark M.Dots ∷ []
comma_dots false = []

-- [, 'else' 'kept']
abbrev pub comma_kept : Bool → List Tok
comma_kept true = mark M.Comma ∷ mark M.Else ∷ mark M.Kept ∷ []
comma_kept false = []

mutual
  -- part = kind | 'any' | 'list' part | { [members] } | NAME | ( template )
  pub data Part : ℕ → List Tok → TemplateSyntax → Type 0 where
    a_kind : (d : ℕ) (m : Mark) (k : Kind) → kind_word m ≡ Some k → Part (suc d) (mark m ∷ []) (template.leaf k)
    any : (d : ℕ) → Part (suc d) (mark M.Any ∷ []) template.any
    list : (d : ℕ) (a : List Tok) (t : TemplateSyntax) → Part d a t → Part (suc d) (mark M.List ∷ a) (template.list t)
    no_members : (d : ℕ) → Part (suc d) (mark M.CurlyOpen ∷ mark M.CurlyClose ∷ []) (template.record_of (fields_of []) (choice_of None) false)
    members : (d : ℕ) (a : List Tok) (fs : List FieldSyntax) (c : Option CasesOfTag) (dots : Bool) → Members d a fs c dots → Part (suc d) (mark M.CurlyOpen ∷ (a ++ mark M.CurlyClose ∷ [])) (template.record_of (fields_of fs) (choice_of c) dots)
    point : (d : ℕ) (n : List ℕ) → Part (suc d) (name n ∷ []) (template.point n)
    brackets : (d : ℕ) (a : List Tok) (t : TemplateSyntax) → Template d a t → Part (suc d) (mark M.Open ∷ (a ++ mark M.Close ∷ [])) t

  -- template = part ['or' template]
  pub data Template : ℕ → List Tok → TemplateSyntax → Type 0 where
    part : (d : ℕ) (a : List Tok) (t : TemplateSyntax) → Part d a t → Template d a t
    or : (d : ℕ) (a b : List Tok) (s t : TemplateSyntax) → Part (suc d) a s → Template d b t → Template (suc d) (a ++ mark M.Or ∷ b) (template.sum s t)

  -- members = .. | choice [, ..] | field [, members]
  pub data Members : ℕ → List Tok → List FieldSyntax → Option CasesOfTag → Bool → Type 0 where
    dots : (d : ℕ) → Members d (mark M.Dots ∷ []) [] None true
    choice : (d : ℕ) (a : List Tok) (c : CasesOfTag) (dots : Bool) → Choice d a c → Members d (a ++ comma_dots dots) [] (Some c) dots
    last_field : (d : ℕ) (a : List Tok) (f : FieldSyntax) → Field d a f → Members d a (f ∷ []) None false
    more_fields : (d : ℕ) (a b : List Tok) (f : FieldSyntax) (fs : List FieldSyntax) (c : Option CasesOfTag) (dots : Bool) → Field d a f → Members d b fs c dots → Members d (a ++ mark M.Comma ∷ b) (f ∷ fs) c dots

  -- field = STRING [?] : template
  pub data Field : ℕ → List Tok → FieldSyntax → Type 0 where
    a_field : (d : ℕ) (n : List ℕ) (may : Bool) (a : List Tok) (t : TemplateSyntax) → Template d a t → Field d (text n ∷ (optional M.Question may ++ mark M.Colon ∷ a)) (n, (may, t))

  -- choice = 'choice' STRING { cases [, 'else' 'kept'] }
  pub data Choice : ℕ → List Tok → CasesOfTag → Type 0 where
    a_choice : (d : ℕ) (n : List ℕ) (a : List Tok) (cs : List CaseSyntax) (kept : Bool) → Cases d a cs → Choice d (mark M.Choice ∷ text n ∷ mark M.CurlyOpen ∷ (a ++ (comma_kept kept ++ mark M.CurlyClose ∷ []))) (n, (cs, kept))

  -- cases = case [, cases]
  pub data Cases : ℕ → List Tok → List CaseSyntax → Type 0 where
    last_case : (d : ℕ) (a : List Tok) (c : CaseSyntax) → Case d a c → Cases d a (c ∷ [])
    more_cases : (d : ℕ) (a b : List Tok) (c : CaseSyntax) (cs : List CaseSyntax) → Case d a c → Cases d b cs → Cases d (a ++ mark M.Comma ∷ b) (c ∷ cs)

  -- case = STRING braced
  pub data Case : ℕ → List Tok → CaseSyntax → Type 0 where
    a_case : (d : ℕ) (n : List ℕ) (a : List Tok) (fs : List FieldSyntax) → Braced d a fs → Case d (text n ∷ a) (n, fs)

  -- braced = { [fields] }
  pub data Braced : ℕ → List Tok → List FieldSyntax → Type 0 where
    no_fields : (d : ℕ) → Braced d (mark M.CurlyOpen ∷ mark M.CurlyClose ∷ []) []
    some_fields : (d : ℕ) (a : List Tok) (fs : List FieldSyntax) → Fields d a fs → Braced d (mark M.CurlyOpen ∷ (a ++ mark M.CurlyClose ∷ [])) fs

  -- fields = field [, fields]
  pub data Fields : ℕ → List Tok → List FieldSyntax → Type 0 where
    one_field : (d : ℕ) (a : List Tok) (f : FieldSyntax) → Field d a f → Fields d a (f ∷ [])
    further_fields : (d : ℕ) (a b : List Tok) (f : FieldSyntax) (fs : List FieldSyntax) → Field d a f → Fields d b fs → Fields d (a ++ mark M.Comma ∷ b) (f ∷ fs)
