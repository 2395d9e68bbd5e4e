-- The grammar of declarations: which tokens are one, and with which syntax. The quoted words of the productions are reserved words;
-- `( )` around alternatives that `|` parts only group.
use Rattle.std.specs.Prelude.{ℕ, ℤ, List, [], ◌∷◌, ◌++◌, Bool, Option, Some, None}
use Rattle.mig_model.specs.declared.form.Form.TheVariants as F
use Rattle.mig_token.specs.declared.mark.Mark.TheVariants as M
use Rattle.mig_token.specs.Token.{Tok, mark, name, number, text}
use Rattle.mig_syntax.specs.TemplateSyntax.{TemplateSyntax}
use Rattle.mig_syntax.specs.RuleSyntax.{LeafSyntax, RuleSyntax}
use Rattle.mig_syntax.specs.DeclSyntax as decl
use Rattle.mig_syntax.specs.DeclSyntax.{StepSyntax, FixSyntax, DeclSyntax}
use Rattle.mig_reader.specs.Grammar.{optional}
use Rattle.mig_parse_template.specs.Grammar.{max_levels, Template}
use Rattle.mig_parse_leaf.specs.Grammar.{Leaf}
use Rattle.mig_parse_rule.specs.Grammar.{Rule}

-- step = STRING | 'each' | 'left' | 'right' | 'case' STRING
pub data Step : List Tok → StepSyntax → Type 0 where
  field_step : (x : List ℕ) → Step (text x ∷ []) (decl.field x)
  each_step : Step (mark M.Each ∷ []) decl.each
  left_step : Step (mark M.Left ∷ []) decl.left
  right_step : Step (mark M.Right ∷ []) decl.right
  case_step : (x : List ℕ) → Step (mark M.Case ∷ text x ∷ []) (decl.case x)

-- steps = step [steps]
pub data Steps : List Tok → List StepSyntax → Type 0 where
  last_step : (a : List Tok) (s : StepSyntax) → Step a s → Steps a (s ∷ [])
  more_steps : (a b : List Tok) (s : StepSyntax) (ss : List StepSyntax) → Step a s → Steps b ss → Steps (a ++ b) (s ∷ ss)

-- fix = 'newtype' NAME = template | 'droptype' NAME | 'deep' steps : leaf | rule
pub data Fix : List Tok → FixSyntax → Type 0 where
  new_type : (n : List ℕ) (a : List Tok) (t : TemplateSyntax) → Template max_levels a t → Fix (mark M.NewType ∷ name n ∷ mark M.Equals ∷ a) (decl.new_type n t)
  drop_type : (n : List ℕ) → Fix (mark M.DropType ∷ name n ∷ []) (decl.drop_type n)
  deep : (a b : List Tok) (ss : List StepSyntax) (f : LeafSyntax) → Steps a ss → Leaf b f → Fix (mark M.Deep ∷ (a ++ mark M.Colon ∷ b)) (decl.deep ss f)
  a_rule : (a : List Tok) (r : RuleSyntax) → Rule max_levels a r → Fix a (decl.rule r)

-- ['missing' NUMBER]
abbrev pub missing : Option ℤ → List Tok
missing None = []
missing (Some z) = mark M.Missing ∷ number z ∷ []

-- names = STRING [STRING [STRING]]
pub data Names : List Tok → List (List ℕ) → Type 0 where
  one_name : (x : List ℕ) → Names (text x ∷ []) (x ∷ [])
  two_names : (x y : List ℕ) → Names (text x ∷ text y ∷ []) (x ∷ y ∷ [])
  three_names : (x y z : List ℕ) → Names (text x ∷ text y ∷ text z ∷ []) (x ∷ y ∷ z ∷ [])

-- declaration = 'form' ('nbt' | 'json') | 'version' names ['missing' NUMBER] | 'schema' NUMBER ['follows'] | 'type' NAME = template | 'root' NAME | 'fix' NUMBER fix
pub data Declaration : List Tok → DeclSyntax → Type 0 where
  form_nbt : Declaration (mark M.Form ∷ mark M.Nbt ∷ []) (decl.form F.Nbt)
  form_json : Declaration (mark M.Form ∷ mark M.Json ∷ []) (decl.form F.Json)
  version : (a : List Tok) (xs : List (List ℕ)) (n : Option ℤ) → Names a xs → Declaration (mark M.Version ∷ (a ++ missing n)) (decl.version xs n)
  schema : (z : ℤ) (b : Bool) → Declaration (mark M.Schema ∷ number z ∷ optional M.Follows b) (decl.schema z b)
  named : (n : List ℕ) (a : List Tok) (t : TemplateSyntax) → Template max_levels a t → Declaration (mark M.Type ∷ name n ∷ mark M.Equals ∷ a) (decl.named n t)
  root : (n : List ℕ) → Declaration (mark M.Root ∷ name n ∷ []) (decl.root n)
  fix : (z : ℤ) (a : List Tok) (f : FixSyntax) → Fix a f → Declaration (mark M.Fix ∷ number z ∷ a) (decl.fix z f)
