-- What is in the grammar of fixes is read, and what is read as a fix is in it; and how a loop reads steps.
use Rattle.std.proofs.Common.{◌≡◌, inl, inr, ℕ, zero, suc, ◌+◌, ◌-◌, ◌≤◌, ◌<◌, List, [], ◌∷◌, ◌++◌, length, true, false, Some, None, refl, sym, ap, ◌∙◌, append_assoc, arith}
use Rattle.mig_token.specs.declared.mark.Mark.TheVariants as M
use Rattle.mig_token.specs.Token.{Tok, mark, name, text}
use Rattle.mig_reader.specs.declared.error.ParseError.{ParseError}
use Rattle.mig_reader.specs.declared.error.ParseError.TheVariants as errors
use Rattle.mig_syntax.specs.TemplateSyntax.{TemplateSyntax}
use Rattle.mig_syntax.specs.RuleSyntax.{LeafSyntax, FunctionSyntax, RuleSyntax}
use Rattle.mig_syntax.specs.DeclSyntax as decl
use Rattle.mig_syntax.specs.DeclSyntax.{StepSyntax, FixSyntax}
use Rattle.mig_parse_function.specs.Grammar as function_grammar
use Rattle.mig_parse_rule.specs.Grammar as rule_grammar
use Rattle.mig_parse.specs.Grammar as g
use Rattle.mig_parse_template.specs.Grammar.{max_levels}
use Rattle.mig_parse_function.specs.Grammar.{Function}
use Rattle.mig_parse_rule.specs.Grammar.{Rule}
use Rattle.mig_parse.specs.Grammar.{Step, Steps, Fix}
use Rattle.mig_reader.specs.Reading.{Fails, Read, begins, behind, name_at, text_at, word, after_items}
use Rattle.mig_parse_template.specs.Reading.{template_at}
use Rattle.mig_parse_leaf.specs.Reading.{leaf_at}
use Rattle.mig_parse_rule.specs.Reading.{rule_at}
use Rattle.mig_parse.specs.Reading.{field_step_at, case_step_at, step_at, steps_at, new_type_at, drop_type_at, deep_at, rule_fix_at, fix_text_at}
use Rattle.mig_reader.proofs.Fronts.{here, bind_some, moved, Sound, behind_is, name_is, text_is, word_sound, done_sound}
use Rattle.mig_reader.proofs.Lists.{regroup}
use Rattle.mig_parse_template.proofs.TemplateRead.{template_read}
use Rattle.mig_parse_template.proofs.TemplateSound.{template_sound}
use Rattle.mig_parse_leaf.proofs.LeafRead.{leaf_read}
use Rattle.mig_parse_leaf.proofs.LeafSound.{leaf_sound}
use Rattle.mig_parse_rule.proofs.RuleRead.{rule_read}
use Rattle.mig_parse_rule.proofs.RuleSound.{rule_sound}
use Rattle.mig_model.proofs.Options.{chosen}

-- ---- what is in the grammar is read
step_read : {a : List Tok} {s : StepSyntax} → Step a s → (rest : List Tok) → step_at (a ++ rest) ≡ here s rest
unfolding step_at
step_read (g.field_step x) rest = refl
step_read g.each_step rest = refl
step_read g.left_step rest = refl
step_read g.right_step rest = refl
step_read (g.case_step x) rest = refl

some_step : {a : List Tok} {s : StepSyntax} → Step a s → 0 < length a
some_step (g.field_step x) = omega arith
some_step g.each_step = omega arith
some_step g.left_step = omega arith
some_step g.right_step = omega arith
some_step (g.case_step x) = omega arith

no_colon : {a : List Tok} {s : StepSyntax} → Step a s → (rest : List Tok) → begins M.Colon (a ++ rest) ≡ false
no_colon (g.field_step x) rest = refl
no_colon _ rest = refl

no_colon_yet : {a : List Tok} {ss : List StepSyntax} → Steps a ss → (rest : List Tok) → begins M.Colon (a ++ rest) ≡ false
no_colon_yet (g.last_step a s p) rest = no_colon p rest
no_colon_yet (g.more_steps a b s ss p q) rest = ap (begins M.Colon) (append_assoc a b rest) ∙ no_colon p (b ++ rest)

steps_last : (n : ℕ) (ts rest : List Tok) (s : StepSyntax) → 0 < n → step_at ts ≡ here s rest → begins M.Colon rest ≡ true → steps_at n ts ≡ here (s ∷ []) rest
unfolding steps_at
steps_last zero ts rest s l e h = absurd (omega arith)
steps_last (suc n) ts rest s l e h = rw (e, h) refl

steps_more : (n : ℕ) (ts us rest : List Tok) (s : StepSyntax) (ss : List StepSyntax) → step_at ts ≡ here s us → begins M.Colon us ≡ false → steps_at n us ≡ here ss rest → steps_at (suc n) ts ≡ here (s ∷ ss) rest
unfolding steps_at
steps_more n ts us rest s ss e h f = rw (e, h, f) refl

both_long : (a b : List Tok) → length (a ++ b) ≡ length a + length b
both_long [] b = omega arith
both_long (x ∷ a) b = omega (arith, both_long a b)

steps_read : {a : List Tok} {ss : List StepSyntax} → Steps a ss → (n : ℕ) (rest : List Tok) → length a ≤ n → begins M.Colon rest ≡ true → steps_at n (a ++ rest) ≡ here ss rest
steps_read (g.last_step a s p) n rest l h = steps_last n (a ++ rest) rest s (omega (arith, some_step p)) (step_read p rest) h
steps_read (g.more_steps a b s ss p q) zero rest l h = absurd (omega (arith, some_step p, both_long a b))
steps_read (g.more_steps a b s ss p q) (suc n) rest l h =
    ap (steps_at (suc n)) (append_assoc a b rest)
    ∙ steps_more n (a ++ (b ++ rest)) (b ++ rest) rest s ss (step_read p (b ++ rest)) (no_colon_yet q rest) (steps_read q n rest (omega (arith, some_step p, both_long a b)) h)

new_type_read : (n : List ℕ) (ts rest : List Tok) (t : TemplateSyntax) → template_at max_levels ts ≡ here t rest → fix_text_at (mark M.NewType ∷ name n ∷ mark M.Equals ∷ ts) ≡ here (decl.new_type n t) rest
unfolding fix_text_at new_type_at
new_type_read n ts rest t e = rw e refl

drop_type_read : (n : List ℕ) (rest : List Tok) → fix_text_at (mark M.DropType ∷ name n ∷ rest) ≡ here (decl.drop_type n) rest
unfolding fix_text_at
drop_type_read n rest = refl

deep_read : (ts us rest : List Tok) (ss : List StepSyntax) (f : LeafSyntax) → steps_at (length ts) ts ≡ here ss (mark M.Colon ∷ us) → leaf_at us ≡ here f rest → fix_text_at (mark M.Deep ∷ ts) ≡ here (decl.deep ss f) rest
unfolding fix_text_at deep_at
deep_read ts us rest ss f e h = rw (e, h) refl

-- the words of fixes that are no rules
abbrev NoFixWord : List Tok → Type 0
NoFixWord ts = (begins M.NewType ts ≡ false) × (begins M.DropType ts ≡ false) × (begins M.Deep ts ≡ false)

no_fix_word_function : {a : List Tok} {f : FunctionSyntax} → Function a f → (rest : List Tok) → NoFixWord (a ++ rest)
no_fix_word_function (function_grammar.rename x y) rest = (refl, refl, refl)
no_fix_word_function _ rest = (refl, refl, refl)

no_fix_word : {d : ℕ} {a : List Tok} {r : RuleSyntax} → Rule d a r → (rest : List Tok) → NoFixWord (a ++ rest)
no_fix_word (rule_grammar.a_function d a f p) rest = no_fix_word_function p rest
no_fix_word _ rest = (refl, refl, refl)

rule_fix_read : (ts rest : List Tok) (r : RuleSyntax) → NoFixWord ts → rule_at max_levels ts ≡ here r rest → fix_text_at ts ≡ here (decl.rule r) rest
unfolding fix_text_at
rule_fix_read ts rest r h e = rw (h.0, h.1, h.2, e) refl

pub fix_text_read : {a : List Tok} {f : FixSyntax} → Fix a f → (rest : List Tok) → begins M.Or rest ≡ false → fix_text_at (a ++ rest) ≡ here f rest
fix_text_read (g.new_type n a t p) rest h = new_type_read n (a ++ rest) rest t (template_read p rest h)
fix_text_read (g.drop_type n) rest h = drop_type_read n rest
fix_text_read (g.deep a b ss f p q) rest h =
    let us = mark M.Colon ∷ (b ++ rest) in
    let ts = a ++ us in
    let e : (a ++ mark M.Colon ∷ b) ++ rest ≡ ts = append_assoc a (mark M.Colon ∷ b) rest in
    let within : length a ≤ length ts = omega (arith, both_long a us) in
    ap (λ (l : List Tok). fix_text_at (mark M.Deep ∷ l)) e ∙ deep_read ts (b ++ rest) rest ss f (steps_read p (length ts) us within refl) (leaf_read q rest)
fix_text_read (g.a_rule a r p) rest h = rule_fix_read (a ++ rest) rest r (no_fix_word p rest) (rule_read p rest)

-- ---- what is read is in the grammar

field_step_sound : Sound field_step_at Step
field_step_sound ts s rest e =
    let x = bind_some (text_at ts) _ (s, rest) e in
    let all : ts ≡ (text x.0.0 ∷ []) ++ x.0.1 = text_is ts x.0.0 x.0.1 x.1 in
    moved (λ x a. Step a x) (decl.field x.0.0) s (text x.0.0 ∷ []) ts x.0.1 rest all (g.field_step x.0.0) x.2

case_step_sound : Sound case_step_at (λ a s. Step (mark M.Case ∷ a) s)
case_step_sound ts s rest e =
    let x = bind_some (text_at ts) _ (s, rest) e in
    let all : ts ≡ (text x.0.0 ∷ []) ++ x.0.1 = text_is ts x.0.0 x.0.1 x.1 in
    moved (λ x a. Step (mark M.Case ∷ a) x) (decl.case x.0.0) s (text x.0.0 ∷ []) ts x.0.1 rest all (g.case_step x.0.0) x.2

step_sound : Sound step_at Step
unfolding step_at
step_sound =
    word_sound M.Each (λ us. Some (decl.each, us)) (word M.Left (λ us. Some (decl.left, us)) (word M.Right (λ us. Some (decl.right, us)) (word M.Case case_step_at field_step_at))) Step (done_sound (λ a s. Step (mark M.Each ∷ a) s) decl.each g.each_step) (word_sound M.Left (λ us. Some (decl.left, us)) (word M.Right (λ us. Some (decl.right, us)) (word M.Case case_step_at field_step_at)) Step (done_sound (λ a s. Step (mark M.Left ∷ a) s) decl.left g.left_step) (word_sound M.Right (λ us. Some (decl.right, us)) (word M.Case case_step_at field_step_at) Step (done_sound (λ a s. Step (mark M.Right ∷ a) s) decl.right g.right_step) (word_sound M.Case case_step_at field_step_at Step case_step_sound field_step_sound)))

steps_sound : (n : ℕ) → Sound (steps_at n) Steps
unfolding steps_at
steps_sound zero ts ss rest e = absurd cc
steps_sound (suc n) ts ss rest e =
    let b = bind_some (step_at ts) _ (ss, rest) e in
    let s = step_sound ts b.0.0 b.0.1 b.1 in
    elim (chosen (begins M.Colon b.0.1) _ _ (here ss rest) b.2) [
      | inl p ↦ moved (λ x a. Steps a x) (b.0.0 ∷ []) ss s.a ts b.0.1 rest s.is (g.last_step s.a b.0.0 s.good) p.1
      | inr p ↦
          let c = bind_some (steps_at n b.0.1) _ (ss, rest) p.1 in
          let r = steps_sound n b.0.1 c.0.0 c.0.1 c.1 in
          let all : ts ≡ (s.a ++ r.a) ++ c.0.1 = s.is ∙ ap (λ (l : List Tok). s.a ++ l) r.is ∙ sym (append_assoc s.a r.a c.0.1) in
          moved (λ x a. Steps a x) (b.0.0 ∷ c.0.0) ss (s.a ++ r.a) ts c.0.1 rest all (g.more_steps s.a r.a b.0.0 c.0.0 s.good r.good) c.2
    ]

new_type_sound : Sound new_type_at (λ a f. Fix (mark M.NewType ∷ a) f)
unfolding new_type_at
new_type_sound ts f rest e =
    let n = bind_some (name_at ts) _ (f, rest) e in
    let b = bind_some (behind M.Equals n.0.1) _ (f, rest) n.2 in
    let c = bind_some (template_at max_levels b.0) _ (f, rest) b.2 in
    let s = template_sound max_levels b.0 c.0.0 c.0.1 c.1 in
    let all : ts ≡ (name n.0.0 ∷ mark M.Equals ∷ s.a) ++ c.0.1 = name_is ts n.0.0 n.0.1 n.1 ∙ ap (λ (l : List Tok). name n.0.0 ∷ l) (behind_is M.Equals n.0.1 b.0 b.1 ∙ ap (λ (l : List Tok). mark M.Equals ∷ l) (s.is)) in
    moved (λ x a. Fix (mark M.NewType ∷ a) x) (decl.new_type n.0.0 c.0.0) f (name n.0.0 ∷ mark M.Equals ∷ s.a) ts c.0.1 rest all (g.new_type n.0.0 s.a c.0.0 s.good) c.2

drop_type_sound : Sound drop_type_at (λ a f. Fix (mark M.DropType ∷ a) f)
drop_type_sound ts f rest e =
    let n = bind_some (name_at ts) _ (f, rest) e in
    let all : ts ≡ (name n.0.0 ∷ []) ++ n.0.1 = name_is ts n.0.0 n.0.1 n.1 in
    moved (λ x a. Fix (mark M.DropType ∷ a) x) (decl.drop_type n.0.0) f (name n.0.0 ∷ []) ts n.0.1 rest all (g.drop_type n.0.0) n.2

deep_sound : Sound deep_at (λ a f. Fix (mark M.Deep ∷ a) f)
unfolding deep_at
deep_sound ts f rest e =
    let c = bind_some (steps_at (length ts) ts) _ (f, rest) e in
    let s = steps_sound (length ts) ts c.0.0 c.0.1 c.1 in
    let b = bind_some (behind M.Colon c.0.1) _ (f, rest) c.2 in
    let c2 = bind_some (leaf_at b.0) _ (f, rest) b.2 in
    let s2 = leaf_sound b.0 c2.0.0 c2.0.1 c2.1 in
    let all : ts ≡ (s.a ++ mark M.Colon ∷ s2.a) ++ c2.0.1 = s.is ∙ (ap (λ (l : List Tok). s.a ++ l) (behind_is M.Colon c.0.1 b.0 b.1 ∙ ap (λ (l : List Tok). mark M.Colon ∷ l) (s2.is)) ∙ sym (append_assoc s.a (mark M.Colon ∷ s2.a) c2.0.1)) in
    moved (λ x a. Fix (mark M.Deep ∷ a) x) (decl.deep c.0.0 c2.0.0) f (s.a ++ mark M.Colon ∷ s2.a) ts c2.0.1 rest all (g.deep s.a s2.a c.0.0 c2.0.0 s.good s2.good) c2.2

rule_fix_sound : Sound rule_fix_at Fix
rule_fix_sound ts f rest e =
    let c = bind_some (rule_at max_levels ts) _ (f, rest) e in
    let s = rule_sound max_levels ts c.0.0 c.0.1 c.1 in
    let all : ts ≡ s.a ++ c.0.1 = s.is in
    moved (λ x a. Fix a x) (decl.rule c.0.0) f s.a ts c.0.1 rest all (g.a_rule s.a c.0.0 s.good) c.2

pub fix_text_sound : Sound fix_text_at Fix
unfolding fix_text_at
fix_text_sound =
    word_sound M.NewType new_type_at (word M.DropType drop_type_at (word M.Deep deep_at rule_fix_at)) Fix new_type_sound (word_sound M.DropType drop_type_at (word M.Deep deep_at rule_fix_at) Fix drop_type_sound (word_sound M.Deep deep_at rule_fix_at Fix deep_sound rule_fix_sound))

-- ---- a loop
pub no_step : (e : ParseError) (front : List StepSyntax) (count i : ℕ) (ts : List Tok) (total : Read (List StepSyntax)) → i < count → Fails e (step_at ts)
    → after_items front (steps_at (count - i) ts) ≡ total → Fails e total
unfolding steps_at
no_step errors.Memory front count i ts total lt f so_far = tt
no_step errors.Wrong front count i ts total lt f so_far =
    let k : count - i ≡ suc (count - (i + 1)) = omega arith in
    let one : after_items front (steps_at (count - i) ts) ≡ None = rw (k, f) refl in
    sym so_far ∙ one

pub last_step : (front : List StepSyntax) (count i : ℕ) (ts : List Tok) (s : StepSyntax) (after : List Tok) (total : Read (List StepSyntax)) → i < count → step_at ts ≡ Some (s, after) → begins M.Colon after ≡ true
    → after_items front (steps_at (count - i) ts) ≡ total → total ≡ Some (front ++ s ∷ [], after)
unfolding steps_at
last_step front count i ts s after total lt is ends so_far =
    let k : count - i ≡ suc (count - (i + 1)) = omega arith in
    let one : after_items front (steps_at (count - i) ts) ≡ Some (front ++ s ∷ [], after) = rw (k, is, ends) refl in
    sym so_far ∙ one

pub further_step : (front : List StepSyntax) (count i : ℕ) (ts : List Tok) (s : StepSyntax) (after : List Tok) (total : Read (List StepSyntax)) → i < count → step_at ts ≡ Some (s, after) → begins M.Colon after ≡ false
    → after_items front (steps_at (count - i) ts) ≡ total → after_items (front ++ s ∷ []) (steps_at (count - (i + 1)) after) ≡ total
unfolding steps_at
further_step front count i ts s after total lt is more so_far =
    let k : count - i ≡ suc (count - (i + 1)) = omega arith in
    let one : after_items front (steps_at (count - i) ts) ≡ after_items (front ++ s ∷ []) (steps_at (count - (i + 1)) after) = rw (k, is, more) (regroup front s (steps_at (count - (i + 1)) after)) in
    sym one ∙ so_far

pub no_more_step : (front : List StepSyntax) (count i : ℕ) (ts : List Tok) (total : Read (List StepSyntax)) → count ≤ i → after_items front (steps_at (count - i) ts) ≡ total → total ≡ None
unfolding steps_at
no_more_step front count i ts total le so_far =
    let k : count - i ≡ 0 = omega arith in
    let one : after_items front (steps_at (count - i) ts) ≡ None = rw k refl in
    sym so_far ∙ one
