-- The names and texts of a declaration are spelled: they are names and texts of its tokens.
use Rattle.std.proofs.Common.{ℕ, List, []}
use Rattle.std.specs.List.{AllByRecursion, flat_map}
use Rattle.mig_token.specs.Token.{Tok}
use Rattle.mig_syntax.specs.DeclSyntax.{StepSyntax, FixSyntax, DeclSyntax}
use Rattle.mig_parse.specs.Grammar as g
use Rattle.mig_parse.specs.Grammar.{Step, Steps, Fix, Names, Declaration}
use Rattle.mig_parse.specs.Texts.{IsSpelledText, leaf_texts, step_texts, fix_texts, decl_texts}
use Rattle.mig_parse.specs.Law.{TextsAreSpelled}
use Rattle.mig_parse.proofs.TokenTexts.{OfTokens, front_of, rest_of, both, spelled_tokens}
use Rattle.mig_parse.proofs.TemplateTexts.{all_template}
use Rattle.mig_parse.proofs.RuleTexts.{all_leaf, all_rule}

all_step : (P : List ℕ → Type 0) (a : List Tok) (s : StepSyntax) → Step a s → OfTokens P a → AllByRecursion P (step_texts s)
all_step P a s (g.field_step x) h = (h.0, tt)
all_step P a s (g.case_step x) h = (h.1.0, tt)
all_step P a s _ h = tt

all_steps : (P : List ℕ → Type 0) (a : List Tok) (ss : List StepSyntax) → Steps a ss → OfTokens P a → AllByRecursion P (flat_map step_texts ss)
all_steps P a ss (g.last_step b s p) h = both P (step_texts s) [] (all_step P b s p h) tt
all_steps P a ss (g.more_steps b k s more p q) h = both P (step_texts s) (flat_map step_texts more) (all_step P b s p (front_of P b _ h)) (all_steps P k more q (rest_of P b _ h))

all_fix : (P : List ℕ → Type 0) (a : List Tok) (f : FixSyntax) → Fix a f → OfTokens P a → AllByRecursion P (fix_texts f)
all_fix P a f (g.new_type n b t p) h = (h.1.0, all_template P _ b t p h.1.1.1)
all_fix P a f (g.drop_type n) h = (h.1.0, tt)
all_fix P a f (g.deep b k ss t p q) h = both P (flat_map step_texts ss) (leaf_texts t) (all_steps P b ss p (front_of P b _ h.1)) (all_leaf P k t q (rest_of P b _ h.1).1)
all_fix P a f (g.a_rule b r p) h = all_rule P _ b r p h

all_names : (P : List ℕ → Type 0) (a : List Tok) (xs : List (List ℕ)) → Names a xs → OfTokens P a → AllByRecursion P xs
all_names P a xs (g.one_name x) h = (h.0, tt)
all_names P a xs (g.two_names x y) h = (h.0, (h.1.0, tt))
all_names P a xs (g.three_names x y z) h = (h.0, (h.1.0, (h.1.1.0, tt)))

-- what all names and texts of the tokens are, all names and texts of the declaration are
pub all_declaration : (P : List ℕ → Type 0) (a : List Tok) (d : DeclSyntax) → Declaration a d → OfTokens P a → AllByRecursion P (decl_texts d)
all_declaration P a d g.form_nbt h = tt
all_declaration P a d g.form_json h = tt
all_declaration P a d (g.version b xs n p) h = all_names P b xs p (front_of P b _ h.1)
all_declaration P a d (g.schema z follows) h = tt
all_declaration P a d (g.named n b t p) h = (h.1.0, all_template P _ b t p h.1.1.1)
all_declaration P a d (g.root n) h = (h.1.0, tt)
all_declaration P a d (g.fix z b f p) h = all_fix P b f p h.1.1

pub texts_are_spelled : TextsAreSpelled
texts_are_spelled piece d p = all_declaration IsSpelledText p.0 d p.2 (spelled_tokens piece p.0 p.1)
