-- Reading a field function from left to right: what was read and the tokens after it, or nothing.
use Rattle.std.specs.Prelude.{ℕ, List, length, drop, Some, if◌then◌else◌}
use Rattle.mig_token.specs.declared.mark.Mark.TheVariants as M
use Rattle.mig_syntax.specs.RuleSyntax as rule
use Rattle.mig_syntax.specs.RuleSyntax.{FillSyntax, FunctionSyntax}
use Rattle.mig_reader.specs.Reading.{◌>>=◌, Reader, begins, behind, text_at, kind_or_any_at, word, last_word, listed_at}
use Rattle.mig_parse_template.specs.Grammar.{max_levels}
use Rattle.mig_parse_template.specs.Reading.{braced_at, part_at, template_at}
use Rattle.mig_parse_leaf.specs.Reading.{const_at, leaf_at}

unfoldable pub fill_at : Reader FillSyntax
fill_at ts =
    if begins M.List ts then (do
      t ← part_at max_levels (drop 1 ts)
      Some (rule.empty_list t.0, t.1))
    else (do
      c ← const_at ts
      Some (rule.const c.0, c.1))

unfoldable pub rename_at : Reader FunctionSyntax
rename_at ts = do
  x ← text_at ts
  y ← text_at x.1
  Some (rule.rename x.0 y.0, y.1)

unfoldable pub add_at : Reader FunctionSyntax
add_at ts = do
  x ← text_at ts
  rest ← behind M.Equals x.1
  f ← fill_at rest
  Some (rule.add x.0 f.0, f.1)

unfoldable pub learn_at : Reader FunctionSyntax
learn_at ts = do
  x ← text_at ts
  k ← kind_or_any_at x.1
  Some (rule.learn x.0 k.0, k.1)

unfoldable pub default_at : Reader FunctionSyntax
default_at ts = do
  x ← text_at ts
  rest ← behind M.Equals x.1
  f ← fill_at rest
  Some (rule.default x.0 f.0, f.1)

unfoldable pub map_at : Reader FunctionSyntax
map_at ts = do
  x ← text_at ts
  f ← leaf_at x.1
  Some (rule.map x.0 f.0, f.1)

unfoldable pub nest_at : Reader FunctionSyntax
nest_at ts = do
  start ← behind M.Open ts
  xs ← listed_at text_at (length start) start
  rest ← behind M.Close xs.1
  y ← text_at rest
  Some (rule.nest xs.0 y.0, y.1)

unfoldable pub unify_at : Reader FunctionSyntax
unify_at ts = do
  x ← text_at ts
  f ← leaf_at x.1
  rest ← behind M.Or f.1
  g ← leaf_at rest
  Some (rule.unify x.0 f.0 g.0, g.1)

unfoldable pub retag_at : Reader FunctionSyntax
retag_at ts = do
  x ← text_at ts
  y ← text_at x.1
  Some (rule.retag x.0 y.0, y.1)

unfoldable pub add_case_at : Reader FunctionSyntax
add_case_at ts = do
  x ← text_at ts
  fs ← braced_at (template_at max_levels) x.1
  Some (rule.add_case x.0 fs.0, fs.1)

-- a function of one name
abbrev pub one_name_at : (List ℕ → FunctionSyntax) → Reader FunctionSyntax
one_name_at make ts = do
  x ← text_at ts
  Some (make x.0, x.1)

unfoldable pub shape_function_at : Reader FunctionSyntax
shape_function_at ts = word M.Wrap (one_name_at rule.wrap) (word M.Unify unify_at (word M.Retag retag_at (last_word M.AddCase add_case_at))) ts

unfoldable pub field_function_at : Reader FunctionSyntax
field_function_at ts =
    word M.Default default_at (word M.MayBe (one_name_at rule.maybe) (word M.Map map_at (word M.Nest nest_at (word M.Unnest (one_name_at rule.unnest) shape_function_at)))) ts

unfoldable pub function_at : Reader FunctionSyntax
function_at ts =
    word M.Rename rename_at (word M.Drop (one_name_at rule.drop) (word M.Add add_at (word M.Learn learn_at (word M.Forget (one_name_at rule.forget) field_function_at)))) ts
