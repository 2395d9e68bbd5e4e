-- What all names and texts of tokens are, all names and texts of their template are.
use Rattle.std.proofs.Common.{ℕ, suc, List, [], ◌∷◌, ◌++◌, Bool, Option, Some}
use Rattle.std.specs.List.{AllByRecursion}
use Rattle.mig_token.specs.declared.mark.Mark.TheVariants as M
use Rattle.mig_token.specs.Token.{Tok}
use Rattle.mig_syntax.specs.TemplateSyntax.{TemplateSyntax, FieldSyntax, CaseSyntax, CasesOfTag, fields_of, choice_of, cases_of}
use Rattle.mig_reader.specs.Grammar.{optional}
use Rattle.mig_parse_template.specs.Grammar as g
use Rattle.mig_parse_template.specs.Grammar.{Part, Template, Members, Field, Choice, Cases, Case, Braced, Fields}
use Rattle.mig_parse.specs.Texts.{template_texts, fields_texts, choice_texts, cases_texts}
use Rattle.mig_parse.proofs.TokenTexts.{OfTokens, front_of, rest_of, both, added}

mutual
  pub all_part : (P : List ℕ → Type 0) (d : ℕ) (a : List Tok) (t : TemplateSyntax) → Part d a t → OfTokens P a → AllByRecursion P (template_texts t)
  all_part P d a t (g.a_kind e m k is) h = tt
  all_part P d a t (g.any e) h = tt
  all_part P d a t (g.list e b u p) h = all_part P e b u p h.1
  all_part P d a t (g.no_members e) h = tt
  all_part P d a t (g.members e b fs c dots p) h = all_members P e b fs c dots p (front_of P b _ h.1)
  all_part P d a t (g.point e n) h = (h.0, tt)
  all_part P d a t (g.brackets e b u p) h = all_template P e b u p (front_of P b _ h.1)

  pub all_template : (P : List ℕ → Type 0) (d : ℕ) (a : List Tok) (t : TemplateSyntax) → Template d a t → OfTokens P a → AllByRecursion P (template_texts t)
  all_template P d a t (g.part e b u p) h = all_part P e b u p h
  all_template P d a t (g.or e b k s u p q) h = both P (template_texts s) (template_texts u) (all_part P (suc e) b s p (front_of P b _ h)) (all_template P e k u q (rest_of P b _ h).1)

  all_members : (P : List ℕ → Type 0) (d : ℕ) (a : List Tok) (fs : List FieldSyntax) (c : Option CasesOfTag) (dots : Bool) → Members d a fs c dots → OfTokens P a → AllByRecursion P (fields_texts (fields_of fs) ++ choice_texts (choice_of c))
  all_members P d a fs c dots (g.dots e) h = tt
  all_members P d a fs c dots (g.choice e b k also p) h = all_choice P e b k p (front_of P b _ h)
  all_members P d a fs c dots (g.last_field e b f p) h =
      let x = all_field P e b f p h in
      (x.0, added P (template_texts f.1.1) [] [] x.1 tt)
  all_members P d a fs c dots (g.more_fields e b k f more o also p q) h =
      let x = all_field P e b f p (front_of P b _ h) in
      (x.0, added P (template_texts f.1.1) (fields_texts (fields_of more)) (choice_texts (choice_of o)) x.1 (all_members P e k more o also q (rest_of P b _ h).1))

  all_field : (P : List ℕ → Type 0) (d : ℕ) (a : List Tok) (f : FieldSyntax) → Field d a f → OfTokens P a → AllByRecursion P (f.0 ∷ template_texts f.1.1)
  all_field P d a f (g.a_field e n may b t p) h = (h.0, all_template P e b t p (rest_of P (optional M.Question may) _ h.1).1)

  all_choice : (P : List ℕ → Type 0) (d : ℕ) (a : List Tok) (c : CasesOfTag) → Choice d a c → OfTokens P a → AllByRecursion P (choice_texts (choice_of (Some c)))
  all_choice P d a c (g.a_choice e n b cs kept p) h = (h.1.0, all_cases P e b cs p (front_of P b _ h.1.1.1))

  all_cases : (P : List ℕ → Type 0) (d : ℕ) (a : List Tok) (cs : List CaseSyntax) → Cases d a cs → OfTokens P a → AllByRecursion P (cases_texts (cases_of cs))
  all_cases P d a cs (g.last_case e b c p) h =
      let x = all_case P e b c p h in
      (x.0, both P (fields_texts (fields_of c.1)) [] x.1 tt)
  all_cases P d a cs (g.more_cases e b k c more p q) h =
      let x = all_case P e b c p (front_of P b _ h) in
      (x.0, both P (fields_texts (fields_of c.1)) (cases_texts (cases_of more)) x.1 (all_cases P e k more q (rest_of P b _ h).1))

  all_case : (P : List ℕ → Type 0) (d : ℕ) (a : List Tok) (c : CaseSyntax) → Case d a c → OfTokens P a → AllByRecursion P (c.0 ∷ fields_texts (fields_of c.1))
  all_case P d a c (g.a_case e n b fs p) h = (h.0, all_braced P e b fs p h.1)

  pub all_braced : (P : List ℕ → Type 0) (d : ℕ) (a : List Tok) (fs : List FieldSyntax) → Braced d a fs → OfTokens P a → AllByRecursion P (fields_texts (fields_of fs))
  all_braced P d a fs (g.no_fields e) h = tt
  all_braced P d a fs (g.some_fields e b gs p) h = all_fields P e b gs p (front_of P b _ h.1)

  all_fields : (P : List ℕ → Type 0) (d : ℕ) (a : List Tok) (fs : List FieldSyntax) → Fields d a fs → OfTokens P a → AllByRecursion P (fields_texts (fields_of fs))
  all_fields P d a fs (g.one_field e b f p) h =
      let x = all_field P e b f p h in
      (x.0, both P (template_texts f.1.1) [] x.1 tt)
  all_fields P d a fs (g.further_fields e b k f more p q) h =
      let x = all_field P e b f p (front_of P b _ h) in
      (x.0, both P (template_texts f.1.1) (fields_texts (fields_of more)) x.1 (all_fields P e k more q (rest_of P b _ h).1))
