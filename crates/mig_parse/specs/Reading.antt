-- Reading a declaration from left to right: what was read and the tokens after it, or nothing.
use Rattle.std.specs.Prelude.{ℕ, ℤ, zero, suc, List, [], ◌∷◌, ◌++◌, length, drop, Option, Some, None, if◌then◌else◌}
use Rattle.mig_model.specs.declared.form.Form.{Form}
use Rattle.mig_model.specs.declared.form.Form.TheVariants as F
use Rattle.mig_token.specs.declared.mark.Mark.TheVariants as M
use Rattle.mig_syntax.specs.DeclSyntax as decl
use Rattle.mig_syntax.specs.DeclSyntax.{StepSyntax, FixSyntax, DeclSyntax}
use Rattle.mig_reader.specs.Reading.{◌>>=◌, Reader, begins, begins_text, behind, optional_at, name_at, text_at, number_at, word}
use Rattle.mig_parse_template.specs.Grammar.{max_levels}
use Rattle.mig_parse_template.specs.Reading.{template_at}
use Rattle.mig_parse_leaf.specs.Reading.{leaf_at}
use Rattle.mig_parse_rule.specs.Reading.{rule_at}

-- declarations, behind their first word
unfoldable pub form_at : Reader Form
form_at ts =
    if begins M.Nbt ts then Some (F.Nbt, drop 1 ts) else (do
      rest ← behind M.Json ts
      Some (F.Json, rest))

unfoldable pub missing_at : Reader (Option ℤ)
missing_at ts =
    if begins M.Missing ts then (do
      z ← number_at (drop 1 ts)
      Some (Some z.0, z.1))
    else Some (None, ts)

-- the names before, and one more where a string comes
unfoldable pub further_name_at : List (List ℕ) → Reader (List (List ℕ))
further_name_at xs ts = if begins_text ts then (do
  x ← text_at ts
  Some (xs ++ x.0 ∷ [], x.1)) else Some (xs, ts)

-- one to three strings
unfoldable pub names_at : Reader (List (List ℕ))
names_at ts = do
  x ← text_at ts
  xs ← further_name_at (x.0 ∷ []) x.1
  further_name_at xs.0 xs.1

unfoldable pub version_at : Reader DeclSyntax
version_at ts = do
  xs ← names_at ts
  z ← missing_at xs.1
  Some (decl.version xs.0 z.0, z.1)

unfoldable pub schema_at : Reader DeclSyntax
schema_at ts = do
  z ← number_at ts
  Some (decl.schema z.0 (optional_at M.Follows z.1).0, (optional_at M.Follows z.1).1)

unfoldable pub named_at : Reader DeclSyntax
named_at ts = do
  n ← name_at ts
  rest ← behind M.Equals n.1
  t ← template_at max_levels rest
  Some (decl.named n.0 t.0, t.1)

abbrev pub field_step_at : Reader StepSyntax
field_step_at ts = do
  x ← text_at ts
  Some (decl.field x.0, x.1)

abbrev pub case_step_at : Reader StepSyntax
case_step_at ts = do
  x ← text_at ts
  Some (decl.case x.0, x.1)

unfoldable pub step_at : Reader StepSyntax
step_at ts = word M.Each (λ us. Some (decl.each, us)) (word M.Left (λ us. Some (decl.left, us)) (word M.Right (λ us. Some (decl.right, us)) (word M.Case case_step_at field_step_at))) ts

-- one or more steps, up to a colon; n bounds them
unfoldable pub steps_at : ℕ → Reader (List StepSyntax)
steps_at zero ts = None
steps_at (suc n) ts = do
  s ← step_at ts
  if begins M.Colon s.1 then Some (s.0 ∷ [], s.1) else (do
    ss ← steps_at n s.1
    Some (s.0 ∷ ss.0, ss.1))

-- fixes, behind their first word
unfoldable pub new_type_at : Reader FixSyntax
new_type_at ts = do
  n ← name_at ts
  rest ← behind M.Equals n.1
  t ← template_at max_levels rest
  Some (decl.new_type n.0 t.0, t.1)

abbrev pub drop_type_at : Reader FixSyntax
drop_type_at ts = do
  n ← name_at ts
  Some (decl.drop_type n.0, n.1)

unfoldable pub deep_at : Reader FixSyntax
deep_at ts = do
  ss ← steps_at (length ts) ts
  rest ← behind M.Colon ss.1
  f ← leaf_at rest
  Some (decl.deep ss.0 f.0, f.1)

abbrev pub rule_fix_at : Reader FixSyntax
rule_fix_at ts = do
  r ← rule_at max_levels ts
  Some (decl.rule r.0, r.1)

unfoldable pub fix_text_at : Reader FixSyntax
fix_text_at ts = word M.NewType new_type_at (word M.DropType drop_type_at (word M.Deep deep_at rule_fix_at)) ts

unfoldable pub fix_at : Reader DeclSyntax
fix_at ts = do
  z ← number_at ts
  f ← fix_text_at z.1
  Some (decl.fix z.0 f.0, f.1)

unfoldable pub declaration_at : Reader DeclSyntax
declaration_at ts =
    if begins M.Form ts then (do
      f ← form_at (drop 1 ts)
      Some (decl.form f.0, f.1))
    else (if begins M.Version ts then version_at (drop 1 ts)
    else (if begins M.Schema ts then schema_at (drop 1 ts)
    else (if begins M.Type ts then named_at (drop 1 ts)
    else (if begins M.Root ts then (do
      n ← name_at (drop 1 ts)
      Some (decl.root n.0, n.1))
    else (do
      rest ← behind M.Fix ts
      fix_at rest)))))
