-- What is read as a fill or a field function is in the grammar of these.
use Rattle.std.proofs.Common.{◌≡◌, inl, inr, ℕ, List, [], ◌∷◌, ◌++◌, length, drop, Option, Some, None, sym, ap, subst, ◌∙◌, append_assoc}
use Rattle.mig_model.specs.declared.kind.Kind.{Kind}
use Rattle.mig_token.specs.declared.mark.Mark.{Mark}
use Rattle.mig_token.specs.declared.mark.Mark.TheVariants as M
use Rattle.mig_token.specs.Token.{Tok, mark, text}
use Rattle.mig_syntax.specs.RuleSyntax as rule
use Rattle.mig_syntax.specs.RuleSyntax.{FillSyntax, FunctionSyntax}
use Rattle.mig_reader.specs.Grammar as shared
use Rattle.mig_parse_function.specs.Grammar as g
use Rattle.mig_reader.specs.Grammar.{String}
use Rattle.mig_parse_template.specs.Grammar.{max_levels}
use Rattle.mig_parse_function.specs.Grammar.{Fill, Function}
use Rattle.mig_reader.specs.Reading.{begins, behind, text_at, kind_or_any_at, listed_at, word, last_word}
use Rattle.mig_parse_template.specs.Reading.{part_at, template_at, braced_at}
use Rattle.mig_parse_leaf.specs.Reading.{const_at, leaf_at}
use Rattle.mig_parse_function.specs.Reading.{fill_at, one_name_at, rename_at, add_at, learn_at, default_at, map_at, nest_at, unify_at, retag_at, add_case_at, shape_function_at, field_function_at, function_at}
use Rattle.mig_reader.proofs.Fronts.{here, bind_some, moved, Sound, begins_is, behind_is, text_is, word_sound, last_word_sound, kind_or_any_sound, IsKindOrAny}
use Rattle.mig_reader.proofs.Lists.{listed_sound}
use Rattle.mig_parse_template.proofs.TemplateSound.{part_sound, template_sound, braced_sound}
use Rattle.mig_parse_leaf.proofs.LeafSound.{const_sound, leaf_sound}
use Rattle.mig_model.proofs.Options.{chosen}

fill_sound : Sound fill_at Fill
unfolding fill_at
fill_sound ts f rest e = elim (chosen (begins M.List ts) _ _ (here f rest) e) [
  | inl p ↦
      let b = bind_some (part_at max_levels (drop 1 ts)) _ (f, rest) p.1 in
      let s = part_sound max_levels (drop 1 ts) b.0.0 b.0.1 b.1 in
      let all : ts ≡ mark M.List ∷ (s.a ++ b.0.1) = begins_is M.List ts p.0 ∙ ap (λ (l : List Tok). mark M.List ∷ l) s.is in
      moved (λ x a. Fill a x) (rule.empty_list b.0.0) f (mark M.List ∷ s.a) ts b.0.1 rest all (g.empty_list s.a b.0.0 s.good) b.2
  | inr p ↦
      let b = bind_some (const_at ts) _ (f, rest) p.1 in
      let s = const_sound ts b.0.0 b.0.1 b.1 in
      moved (λ x a. Fill a x) (rule.const b.0.0) f s.a ts b.0.1 rest s.is (g.a_const s.a b.0.0 s.good) b.2
]

string_sound : Sound text_at String
string_sound ts x rest e = record { a = text x ∷ []; is = text_is ts x rest e; good = shared.string x }

-- a function of one name
one_name_sound : (m : Mark) (make : List ℕ → FunctionSyntax) → ((x : List ℕ) → Function (mark m ∷ text x ∷ []) (make x)) → Sound (one_name_at make) (λ a f. Function (mark m ∷ a) f)
one_name_sound m make good ts f rest e =
    let x = bind_some (text_at ts) _ (f, rest) e in
    moved (λ y a. Function (mark m ∷ a) y) (make x.0.0) f (text x.0.0 ∷ []) ts x.0.1 rest (text_is ts x.0.0 x.0.1 x.1) (good x.0.0) x.2

rename_sound : Sound rename_at (λ a f. Function (mark M.Rename ∷ a) f)
unfolding rename_at
rename_sound ts f rest e =
    let x = bind_some (text_at ts) _ (f, rest) e in
    let y = bind_some (text_at x.0.1) _ (f, rest) x.2 in
    let all : ts ≡ (text x.0.0 ∷ text y.0.0 ∷ []) ++ y.0.1 = text_is ts x.0.0 x.0.1 x.1 ∙ ap (λ (l : List Tok). text x.0.0 ∷ l) (text_is x.0.1 y.0.0 y.0.1 y.1) in
    moved (λ x a. Function (mark M.Rename ∷ a) x) (rule.rename x.0.0 y.0.0) f (text x.0.0 ∷ text y.0.0 ∷ []) ts y.0.1 rest all (g.rename x.0.0 y.0.0) y.2

add_sound : Sound add_at (λ a f. Function (mark M.Add ∷ a) f)
unfolding add_at
add_sound ts f rest e =
    let x = bind_some (text_at ts) _ (f, rest) e in
    let b = bind_some (behind M.Equals x.0.1) _ (f, rest) x.2 in
    let c = bind_some (fill_at b.0) _ (f, rest) b.2 in
    let s = fill_sound b.0 c.0.0 c.0.1 c.1 in
    let all : ts ≡ (text x.0.0 ∷ mark M.Equals ∷ s.a) ++ c.0.1 = text_is ts x.0.0 x.0.1 x.1 ∙ ap (λ (l : List Tok). text x.0.0 ∷ l) (behind_is M.Equals x.0.1 b.0 b.1 ∙ ap (λ (l : List Tok). mark M.Equals ∷ l) (s.is)) in
    moved (λ x a. Function (mark M.Add ∷ a) x) (rule.add x.0.0 c.0.0) f (text x.0.0 ∷ mark M.Equals ∷ s.a) ts c.0.1 rest all (g.add x.0.0 s.a c.0.0 s.good) c.2

-- `learn`, a name, and a kind word or `any`
learned : (x : List ℕ) (k : Option Kind) (a : List Tok) → IsKindOrAny a k → Function (mark M.Learn ∷ text x ∷ a) (rule.learn x k)
learned x (Some k) a p = subst (λ (l : List Tok). Function (mark M.Learn ∷ text x ∷ l) (rule.learn x (Some k))) (sym p.2) (g.learn x p.0 k p.1)
learned x None a p = subst (λ (l : List Tok). Function (mark M.Learn ∷ text x ∷ l) (rule.learn x None)) (sym p) (g.learn_any x)

learn_sound : Sound learn_at (λ a f. Function (mark M.Learn ∷ a) f)
unfolding learn_at
learn_sound ts f rest e =
    let x = bind_some (text_at ts) _ (f, rest) e in
    let c = bind_some (kind_or_any_at x.0.1) _ (f, rest) x.2 in
    let s = kind_or_any_sound x.0.1 c.0.0 c.0.1 c.1 in
    let all : ts ≡ (text x.0.0 ∷ s.a) ++ c.0.1 = text_is ts x.0.0 x.0.1 x.1 ∙ ap (λ (l : List Tok). text x.0.0 ∷ l) (s.is) in
    moved (λ x a. Function (mark M.Learn ∷ a) x) (rule.learn x.0.0 c.0.0) f (text x.0.0 ∷ s.a) ts c.0.1 rest all (learned x.0.0 c.0.0 s.a s.good) c.2

default_sound : Sound default_at (λ a f. Function (mark M.Default ∷ a) f)
unfolding default_at
default_sound ts f rest e =
    let x = bind_some (text_at ts) _ (f, rest) e in
    let b = bind_some (behind M.Equals x.0.1) _ (f, rest) x.2 in
    let c = bind_some (fill_at b.0) _ (f, rest) b.2 in
    let s = fill_sound b.0 c.0.0 c.0.1 c.1 in
    let all : ts ≡ (text x.0.0 ∷ mark M.Equals ∷ s.a) ++ c.0.1 = text_is ts x.0.0 x.0.1 x.1 ∙ ap (λ (l : List Tok). text x.0.0 ∷ l) (behind_is M.Equals x.0.1 b.0 b.1 ∙ ap (λ (l : List Tok). mark M.Equals ∷ l) (s.is)) in
    moved (λ x a. Function (mark M.Default ∷ a) x) (rule.default x.0.0 c.0.0) f (text x.0.0 ∷ mark M.Equals ∷ s.a) ts c.0.1 rest all (g.default x.0.0 s.a c.0.0 s.good) c.2

map_sound : Sound map_at (λ a f. Function (mark M.Map ∷ a) f)
unfolding map_at
map_sound ts f rest e =
    let x = bind_some (text_at ts) _ (f, rest) e in
    let c = bind_some (leaf_at x.0.1) _ (f, rest) x.2 in
    let s = leaf_sound x.0.1 c.0.0 c.0.1 c.1 in
    let all : ts ≡ (text x.0.0 ∷ s.a) ++ c.0.1 = text_is ts x.0.0 x.0.1 x.1 ∙ ap (λ (l : List Tok). text x.0.0 ∷ l) (s.is) in
    moved (λ x a. Function (mark M.Map ∷ a) x) (rule.map x.0.0 c.0.0) f (text x.0.0 ∷ s.a) ts c.0.1 rest all (g.map x.0.0 s.a c.0.0 s.good) c.2

nest_sound : Sound nest_at (λ a f. Function (mark M.Nest ∷ a) f)
unfolding nest_at
nest_sound ts f rest e =
    let b = bind_some (behind M.Open ts) _ (f, rest) e in
    let c = bind_some (listed_at text_at (length b.0) b.0) _ (f, rest) b.2 in
    let s = listed_sound text_at String string_sound (length b.0) b.0 c.0.0 c.0.1 c.1 in
    let b2 = bind_some (behind M.Close c.0.1) _ (f, rest) c.2 in
    let y = bind_some (text_at b2.0) _ (f, rest) b2.2 in
    let all : ts ≡ (mark M.Open ∷ (s.a ++ mark M.Close ∷ text y.0.0 ∷ [])) ++ y.0.1 = behind_is M.Open ts b.0 b.1 ∙ ap (λ (l : List Tok). mark M.Open ∷ l) (s.is ∙ (ap (λ (l : List Tok). s.a ++ l) (behind_is M.Close c.0.1 b2.0 b2.1 ∙ ap (λ (l : List Tok). mark M.Close ∷ l) (text_is b2.0 y.0.0 y.0.1 y.1)) ∙ sym (append_assoc s.a (mark M.Close ∷ text y.0.0 ∷ []) y.0.1))) in
    moved (λ x a. Function (mark M.Nest ∷ a) x) (rule.nest c.0.0 y.0.0) f (mark M.Open ∷ (s.a ++ mark M.Close ∷ text y.0.0 ∷ [])) ts y.0.1 rest all (g.nest s.a c.0.0 y.0.0 s.good) y.2

unify_sound : Sound unify_at (λ a f. Function (mark M.Unify ∷ a) f)
unfolding unify_at
unify_sound ts f rest e =
    let x = bind_some (text_at ts) _ (f, rest) e in
    let c = bind_some (leaf_at x.0.1) _ (f, rest) x.2 in
    let s = leaf_sound x.0.1 c.0.0 c.0.1 c.1 in
    let b = bind_some (behind M.Or c.0.1) _ (f, rest) c.2 in
    let c2 = bind_some (leaf_at b.0) _ (f, rest) b.2 in
    let s2 = leaf_sound b.0 c2.0.0 c2.0.1 c2.1 in
    let all : ts ≡ (text x.0.0 ∷ (s.a ++ mark M.Or ∷ s2.a)) ++ c2.0.1 = text_is ts x.0.0 x.0.1 x.1 ∙ ap (λ (l : List Tok). text x.0.0 ∷ l) (s.is ∙ (ap (λ (l : List Tok). s.a ++ l) (behind_is M.Or c.0.1 b.0 b.1 ∙ ap (λ (l : List Tok). mark M.Or ∷ l) (s2.is)) ∙ sym (append_assoc s.a (mark M.Or ∷ s2.a) c2.0.1))) in
    moved (λ x a. Function (mark M.Unify ∷ a) x) (rule.unify x.0.0 c.0.0 c2.0.0) f (text x.0.0 ∷ (s.a ++ mark M.Or ∷ s2.a)) ts c2.0.1 rest all (g.unify x.0.0 s.a s2.a c.0.0 c2.0.0 s.good s2.good) c2.2

retag_sound : Sound retag_at (λ a f. Function (mark M.Retag ∷ a) f)
unfolding retag_at
retag_sound ts f rest e =
    let x = bind_some (text_at ts) _ (f, rest) e in
    let y = bind_some (text_at x.0.1) _ (f, rest) x.2 in
    let all : ts ≡ (text x.0.0 ∷ text y.0.0 ∷ []) ++ y.0.1 = text_is ts x.0.0 x.0.1 x.1 ∙ ap (λ (l : List Tok). text x.0.0 ∷ l) (text_is x.0.1 y.0.0 y.0.1 y.1) in
    moved (λ x a. Function (mark M.Retag ∷ a) x) (rule.retag x.0.0 y.0.0) f (text x.0.0 ∷ text y.0.0 ∷ []) ts y.0.1 rest all (g.retag x.0.0 y.0.0) y.2

add_case_sound : Sound add_case_at (λ a f. Function (mark M.AddCase ∷ a) f)
unfolding add_case_at
add_case_sound ts f rest e =
    let x = bind_some (text_at ts) _ (f, rest) e in
    let c = bind_some (braced_at (template_at max_levels) x.0.1) _ (f, rest) x.2 in
    let s = braced_sound max_levels (template_at max_levels) (template_sound max_levels) x.0.1 c.0.0 c.0.1 c.1 in
    let all : ts ≡ (text x.0.0 ∷ s.a) ++ c.0.1 = text_is ts x.0.0 x.0.1 x.1 ∙ ap (λ (l : List Tok). text x.0.0 ∷ l) (s.is) in
    moved (λ x a. Function (mark M.AddCase ∷ a) x) (rule.add_case x.0.0 c.0.0) f (text x.0.0 ∷ s.a) ts c.0.1 rest all (g.add_case x.0.0 s.a c.0.0 s.good) c.2

shape_sound : Sound shape_function_at Function
unfolding shape_function_at
shape_sound =
    word_sound M.Wrap (one_name_at rule.wrap) (word M.Unify unify_at (word M.Retag retag_at (last_word M.AddCase add_case_at))) Function (one_name_sound M.Wrap rule.wrap g.wrap) (word_sound M.Unify unify_at (word M.Retag retag_at (last_word M.AddCase add_case_at)) Function unify_sound (word_sound M.Retag retag_at (last_word M.AddCase add_case_at) Function retag_sound (last_word_sound M.AddCase add_case_at Function add_case_sound)))

field_sound : Sound field_function_at Function
unfolding field_function_at
field_sound =
    word_sound M.Default default_at (word M.MayBe (one_name_at rule.maybe) (word M.Map map_at (word M.Nest nest_at (word M.Unnest (one_name_at rule.unnest) shape_function_at)))) Function default_sound (word_sound M.MayBe (one_name_at rule.maybe) (word M.Map map_at (word M.Nest nest_at (word M.Unnest (one_name_at rule.unnest) shape_function_at))) Function (one_name_sound M.MayBe rule.maybe g.maybe) (word_sound M.Map map_at (word M.Nest nest_at (word M.Unnest (one_name_at rule.unnest) shape_function_at)) Function map_sound (word_sound M.Nest nest_at (word M.Unnest (one_name_at rule.unnest) shape_function_at) Function nest_sound (word_sound M.Unnest (one_name_at rule.unnest) shape_function_at Function (one_name_sound M.Unnest rule.unnest g.unnest) shape_sound))))

pub function_sound : Sound function_at Function
unfolding function_at
function_sound =
    word_sound M.Rename rename_at (word M.Drop (one_name_at rule.drop) (word M.Add add_at (word M.Learn learn_at (word M.Forget (one_name_at rule.forget) field_function_at)))) Function rename_sound (word_sound M.Drop (one_name_at rule.drop) (word M.Add add_at (word M.Learn learn_at (word M.Forget (one_name_at rule.forget) field_function_at))) Function (one_name_sound M.Drop rule.drop g.drop) (word_sound M.Add add_at (word M.Learn learn_at (word M.Forget (one_name_at rule.forget) field_function_at)) Function add_sound (word_sound M.Learn learn_at (word M.Forget (one_name_at rule.forget) field_function_at) Function learn_sound (word_sound M.Forget (one_name_at rule.forget) field_function_at Function (one_name_sound M.Forget rule.forget g.forget) field_sound))))
