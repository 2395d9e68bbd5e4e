-- What is read as a rule is in the grammar of rules.
use Rattle.std.proofs.Common.{◌≡◌, inl, inr, ℕ, zero, suc, List, [], ◌∷◌, ◌++◌, drop, Some, None, sym, ap, ◌∙◌, append_assoc}
use Rattle.mig_token.specs.declared.mark.Mark.TheVariants as M
use Rattle.mig_token.specs.Token.{Tok, mark, name, text}
use Rattle.mig_syntax.specs.RuleSyntax as rule
use Rattle.mig_syntax.specs.RuleSyntax.{RuleSyntax, rules_of}
use Rattle.mig_parse_rule.specs.Grammar as g
use Rattle.mig_parse_rule.specs.Grammar.{Rule, Rules}
use Rattle.mig_reader.specs.Reading.{◌>>=◌, Reader, begins, behind, name_at, text_at, word}
use Rattle.mig_parse_function.specs.Reading.{function_at}
use Rattle.mig_parse_rule.specs.Reading.{scoped_at, common_at, all_at, everywhere_at, on_at, places_at, seq_at, or_else_at, joined_with, rule_with, comma_with, rule_at, rules_at}
use Rattle.mig_reader.proofs.Fronts.{here, bind_some, Front, moved, Sound, begins_is, behind_is, name_is, text_is, word_sound, done_sound}
use Rattle.mig_parse_function.proofs.FunctionSound.{function_sound}
use Rattle.mig_model.proofs.Options.{chosen}

module _ (d : ℕ) (R : Reader RuleSyntax) (rsound : Sound R (Rule d)) (S : Reader (List RuleSyntax)) (ssound : Sound S (Rules d)) where
  all_sound : Sound (all_at R) (λ a r. Rule (suc d) (mark M.All ∷ a) r)
  all_sound ts r rest e =
      let c = bind_some (R ts) _ (r, rest) e in
      let s = rsound ts c.0.0 c.0.1 c.1 in
      let all : ts ≡ s.a ++ c.0.1 = s.is in
      moved (λ x a. Rule (suc d) (mark M.All ∷ a) x) (rule.all c.0.0) r s.a ts c.0.1 rest all (g.all d s.a c.0.0 s.good) c.2

  everywhere_sound : Sound (everywhere_at R) (λ a r. Rule (suc d) (mark M.Everywhere ∷ a) r)
  everywhere_sound ts r rest e =
      let c = bind_some (R ts) _ (r, rest) e in
      let s = rsound ts c.0.0 c.0.1 c.1 in
      let all : ts ≡ s.a ++ c.0.1 = s.is in
      moved (λ x a. Rule (suc d) (mark M.Everywhere ∷ a) x) (rule.everywhere c.0.0) r s.a ts c.0.1 rest all (g.everywhere d s.a c.0.0 s.good) c.2

  on_sound : Sound (on_at R) (λ a r. Rule (suc d) (mark M.On ∷ a) r)
  unfolding on_at
  on_sound ts r rest e =
      let n = bind_some (name_at ts) _ (r, rest) e in
      let c = bind_some (R n.0.1) _ (r, rest) n.2 in
      let s = rsound n.0.1 c.0.0 c.0.1 c.1 in
      let all : ts ≡ (name n.0.0 ∷ s.a) ++ c.0.1 = name_is ts n.0.0 n.0.1 n.1 ∙ ap (λ (l : List Tok). name n.0.0 ∷ l) (s.is) in
      moved (λ x a. Rule (suc d) (mark M.On ∷ a) x) (rule.on n.0.0 c.0.0) r (name n.0.0 ∷ s.a) ts c.0.1 rest all (g.on d n.0.0 s.a c.0.0 s.good) c.2

  places_sound : Sound (places_at R) (λ a r. Rule (suc d) (mark M.At ∷ a) r)
  unfolding places_at
  places_sound ts r rest e =
      let x = bind_some (text_at ts) _ (r, rest) e in
      let c = bind_some (R x.0.1) _ (r, rest) x.2 in
      let s = rsound x.0.1 c.0.0 c.0.1 c.1 in
      let all : ts ≡ (text x.0.0 ∷ s.a) ++ c.0.1 = text_is ts x.0.0 x.0.1 x.1 ∙ ap (λ (l : List Tok). text x.0.0 ∷ l) (s.is) in
      moved (λ x a. Rule (suc d) (mark M.At ∷ a) x) (rule.at x.0.0 c.0.0) r (text x.0.0 ∷ s.a) ts c.0.1 rest all (g.at d x.0.0 s.a c.0.0 s.good) c.2

  seq_sound : Sound (seq_at S) (λ a r. Rule (suc d) (mark M.Seq ∷ a) r)
  unfolding seq_at
  seq_sound ts r rest e =
      let b = bind_some (behind M.Open ts) _ (r, rest) e in
      let c = bind_some (S b.0) _ (r, rest) b.2 in
      let s = ssound b.0 c.0.0 c.0.1 c.1 in
      let b2 = bind_some (behind M.Close c.0.1) _ (r, rest) c.2 in
      let all : ts ≡ (mark M.Open ∷ (s.a ++ mark M.Close ∷ [])) ++ b2.0 = behind_is M.Open ts b.0 b.1 ∙ ap (λ (l : List Tok). mark M.Open ∷ l) (s.is ∙ (ap (λ (l : List Tok). s.a ++ l) (behind_is M.Close c.0.1 b2.0 b2.1) ∙ sym (append_assoc s.a (mark M.Close ∷ []) b2.0))) in
      moved (λ x a. Rule (suc d) (mark M.Seq ∷ a) x) (rule.seq (rules_of c.0.0)) r (mark M.Open ∷ (s.a ++ mark M.Close ∷ [])) ts b2.0 rest all (g.seq d s.a c.0.0 s.good) b2.2

  or_else_sound : Sound (or_else_at R) (λ a r. Rule (suc d) (mark M.OrElse ∷ a) r)
  unfolding or_else_at
  or_else_sound ts r rest e =
      let b = bind_some (behind M.Open ts) _ (r, rest) e in
      let c = bind_some (R b.0) _ (r, rest) b.2 in
      let s = rsound b.0 c.0.0 c.0.1 c.1 in
      let b2 = bind_some (behind M.Comma c.0.1) _ (r, rest) c.2 in
      let c2 = bind_some (R b2.0) _ (r, rest) b2.2 in
      let s2 = rsound b2.0 c2.0.0 c2.0.1 c2.1 in
      let b3 = bind_some (behind M.Close c2.0.1) _ (r, rest) c2.2 in
      let all : ts ≡ (mark M.Open ∷ (s.a ++ mark M.Comma ∷ (s2.a ++ mark M.Close ∷ []))) ++ b3.0 = behind_is M.Open ts b.0 b.1 ∙ ap (λ (l : List Tok). mark M.Open ∷ l) (s.is ∙ (ap (λ (l : List Tok). s.a ++ l) (behind_is M.Comma c.0.1 b2.0 b2.1 ∙ ap (λ (l : List Tok). mark M.Comma ∷ l) (s2.is ∙ (ap (λ (l : List Tok). s2.a ++ l) (behind_is M.Close c2.0.1 b3.0 b3.1) ∙ sym (append_assoc s2.a (mark M.Close ∷ []) b3.0)))) ∙ sym (append_assoc s.a (mark M.Comma ∷ (s2.a ++ mark M.Close ∷ [])) b3.0))) in
      moved (λ x a. Rule (suc d) (mark M.OrElse ∷ a) x) (rule.or_else c.0.0 c2.0.0) r (mark M.Open ∷ (s.a ++ mark M.Comma ∷ (s2.a ++ mark M.Close ∷ []))) ts b3.0 rest all (g.or_else d s.a s2.a c.0.0 c2.0.0 s.good s2.good) b3.2

  scoped_sound : Sound scoped_at (λ a r. Rule (suc d) (mark M.In ∷ a) r)
  unfolding scoped_at
  scoped_sound ts r rest e =
      let x = bind_some (text_at ts) _ (r, rest) e in
      let c = bind_some (function_at x.0.1) _ (r, rest) x.2 in
      let s = function_sound x.0.1 c.0.0 c.0.1 c.1 in
      let all : ts ≡ (text x.0.0 ∷ s.a) ++ c.0.1 = text_is ts x.0.0 x.0.1 x.1 ∙ ap (λ (l : List Tok). text x.0.0 ∷ l) (s.is) in
      moved (λ x a. Rule (suc d) (mark M.In ∷ a) x) (rule.function (Some x.0.0) c.0.0) r (text x.0.0 ∷ s.a) ts c.0.1 rest all (g.in_case d x.0.0 s.a c.0.0 s.good) c.2

  common_sound : Sound common_at (Rule (suc d))
  common_sound ts r rest e =
      let c = bind_some (function_at ts) _ (r, rest) e in
      let s = function_sound ts c.0.0 c.0.1 c.1 in
      let all : ts ≡ s.a ++ c.0.1 = s.is in
      moved (λ x a. Rule (suc d) a x) (rule.function None c.0.0) r s.a ts c.0.1 rest all (g.a_function d s.a c.0.0 s.good) c.2

  joined_sound : Sound (joined_with R S) (Rule (suc d))
  unfolding joined_with
  joined_sound =
      word_sound M.At (places_at R) (word M.Seq (seq_at S) (word M.OrElse (or_else_at R) (word M.In scoped_at common_at))) (Rule (suc d)) places_sound (word_sound M.Seq (seq_at S) (word M.OrElse (or_else_at R) (word M.In scoped_at common_at)) (Rule (suc d)) seq_sound (word_sound M.OrElse (or_else_at R) (word M.In scoped_at common_at) (Rule (suc d)) or_else_sound (word_sound M.In scoped_at common_at (Rule (suc d)) scoped_sound common_sound)))

  with_sound : Sound (rule_with R S) (Rule (suc d))
  unfolding rule_with
  with_sound =
      word_sound M.Nop (λ us. Some (rule.nop, us)) (word M.All (all_at R) (word M.Everywhere (everywhere_at R) (word M.On (on_at R) (joined_with R S)))) (Rule (suc d)) (done_sound (λ a r. Rule (suc d) (mark M.Nop ∷ a) r) rule.nop (g.nop d)) (word_sound M.All (all_at R) (word M.Everywhere (everywhere_at R) (word M.On (on_at R) (joined_with R S))) (Rule (suc d)) all_sound (word_sound M.Everywhere (everywhere_at R) (word M.On (on_at R) (joined_with R S)) (Rule (suc d)) everywhere_sound (word_sound M.On (on_at R) (joined_with R S) (Rule (suc d)) on_sound joined_sound)))

  comma_sound : (ts : List Tok) (rs : List RuleSyntax) (rest : List Tok) → (rule_with R S ts >>= comma_with S) ≡ here rs rest → Front (λ a. Rules (suc d) a rs) ts rest
  comma_sound ts rs rest e =
      let b = bind_some (rule_with R S ts) (comma_with S) (rs, rest) e in
      let s = with_sound ts b.0.0 b.0.1 b.1 in
      elim (chosen (begins M.Comma b.0.1) _ _ (here rs rest) b.2) [
        | inl p ↦
            let c = bind_some (S (drop 1 b.0.1)) _ (rs, rest) p.1 in
            let r = ssound (drop 1 b.0.1) c.0.0 c.0.1 c.1 in
            let comma : b.0.1 ≡ mark M.Comma ∷ (r.a ++ c.0.1) = begins_is M.Comma b.0.1 p.0 ∙ ap (λ (l : List Tok). mark M.Comma ∷ l) r.is in
            let all : ts ≡ (s.a ++ mark M.Comma ∷ r.a) ++ c.0.1 = s.is ∙ ap (λ (l : List Tok). s.a ++ l) comma ∙ sym (append_assoc s.a (mark M.Comma ∷ r.a) c.0.1) in
            moved (λ x a. Rules (suc d) a x) (b.0.0 ∷ c.0.0) rs (s.a ++ mark M.Comma ∷ r.a) ts c.0.1 rest all (g.more_rules d s.a r.a b.0.0 c.0.0 s.good r.good) c.2
        | inr p ↦ moved (λ x a. Rules (suc d) a x) (b.0.0 ∷ []) rs s.a ts b.0.1 rest s.is (g.last_rule (suc d) s.a b.0.0 s.good) p.1
      ]

mutual
  unfolding rule_at

  rules_sound : (d : ℕ) → Sound (rules_at d) (Rules d)
  rules_sound zero ts rs rest e = absurd cc
  rules_sound (suc d) ts rs rest e = comma_sound d (rule_at d) (rule_sound d) (rules_at d) (rules_sound d) ts rs rest e

  pub rule_sound : (d : ℕ) → Sound (rule_at d) (Rule d)
  rule_sound zero ts r rest e = absurd cc
  rule_sound (suc d) ts r rest e = with_sound d (rule_at d) (rule_sound d) (rules_at d) (rules_sound d) ts r rest e
