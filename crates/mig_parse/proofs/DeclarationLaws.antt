-- A declaration is read with its own syntax, and what is read is a declaration.
use Rattle.std.proofs.Common.{◌≡◌, ◌⊎◌, inl, inr, ℕ, ℤ, List, [], ◌∷◌, ◌++◌, length, drop, Bool, true, false, Option, Some, None, refl, sym, ap, subst, ◌∙◌, append_assoc, append-nil, arith, eqb-true}
use Rattle.std.specs.Prelude.{◌==◌}
use Rattle.mig_model.specs.declared.form.Form.{Form}
use Rattle.mig_model.specs.declared.form.Form.TheVariants as F
use Rattle.mig_token.specs.declared.mark.Mark.{Mark}
use Rattle.mig_token.specs.declared.mark.Mark.TheVariants as M
use Rattle.mig_token.specs.declared.token.Token.{Token}
use Rattle.mig_token.specs.Token.{Tok, mark, name, number, text, toks}
use Rattle.mig_reader.specs.declared.error.ParseError.{ParseError}
use Rattle.mig_reader.specs.declared.error.ParseError.TheVariants as errors
use Rattle.mig_syntax.specs.TemplateSyntax.{TemplateSyntax}
use Rattle.mig_syntax.specs.DeclSyntax as decl
use Rattle.mig_syntax.specs.DeclSyntax.{FixSyntax, DeclSyntax}
use Rattle.mig_parse.specs.Grammar as g
use Rattle.mig_reader.specs.Grammar.{optional}
use Rattle.mig_parse_template.specs.Grammar.{max_levels}
use Rattle.mig_parse.specs.Grammar.{Declaration, Names, missing}
use Rattle.mig_reader.specs.Reading.{◌>>=◌, Fails, begins, begins_text, behind, optional_at, name_at, text_at, number_at}
use Rattle.mig_parse_template.specs.Reading.{template_at}
use Rattle.mig_parse.specs.Reading.{fix_text_at, form_at, missing_at, further_name_at, names_at, version_at, schema_at, named_at, fix_at, declaration_at}
use Rattle.mig_parse.specs.Law.{HasOneDeclaration}
use Rattle.mig_reader.proofs.Fronts.{here, bind_some, Front, moved, Sound, begins_is, behind_is, name_is, text_is, number_is, optional_is}
use Rattle.mig_parse_template.proofs.TemplateRead.{template_read}
use Rattle.mig_parse_template.proofs.TemplateSound.{template_sound}
use Rattle.mig_parse.proofs.FixLaws.{fix_text_read, fix_text_sound}
use Rattle.std.proofs.lemmas.Option.{same_Some}
use Rattle.mig_model.proofs.Options.{chosen}

-- ---- what is a declaration is read

nbt_read : declaration_at (mark M.Form ∷ mark M.Nbt ∷ []) ≡ here (decl.form F.Nbt) []
unfolding declaration_at form_at
nbt_read = refl

json_read : declaration_at (mark M.Form ∷ mark M.Json ∷ []) ≡ here (decl.form F.Json) []
unfolding declaration_at form_at
json_read = refl

version_read : {a : List Tok} {xs : List (List ℕ)} (n : Option ℤ) → Names a xs → declaration_at (mark M.Version ∷ (a ++ missing n)) ≡ here (decl.version xs n) []
unfolding declaration_at version_at names_at further_name_at missing_at
version_read None (g.one_name x) = refl
version_read None (g.two_names x y) = refl
version_read None (g.three_names x y z) = refl
version_read (Some n) (g.one_name x) = refl
version_read (Some n) (g.two_names x y) = refl
version_read (Some n) (g.three_names x y z) = refl

schema_read : (z : ℤ) (b : Bool) → declaration_at (mark M.Schema ∷ number z ∷ optional M.Follows b) ≡ here (decl.schema z b) []
unfolding declaration_at schema_at
schema_read z true = refl
schema_read z false = refl

named_read : (n : List ℕ) (a : List Tok) (t : TemplateSyntax) → template_at max_levels a ≡ here t [] → declaration_at (mark M.Type ∷ name n ∷ mark M.Equals ∷ a) ≡ here (decl.named n t) []
unfolding declaration_at named_at
named_read n a t e = rw e refl

root_read : (n : List ℕ) → declaration_at (mark M.Root ∷ name n ∷ []) ≡ here (decl.root n) []
unfolding declaration_at
root_read n = refl

fix_read : (z : ℤ) (a : List Tok) (f : FixSyntax) → fix_text_at a ≡ here f [] → declaration_at (mark M.Fix ∷ number z ∷ a) ≡ here (decl.fix z f) []
unfolding declaration_at fix_at
fix_read z a f e = rw e refl

whole : {a : List Tok} {d : DeclSyntax} → Declaration a d → declaration_at a ≡ here d []
whole g.form_nbt = nbt_read
whole g.form_json = json_read
whole (g.version a xs n p) = version_read n p
whole (g.schema z b) = schema_read z b
whole (g.named n a t p) = named_read n a t (ap (template_at max_levels) (sym (append-nil a)) ∙ template_read p [] refl)
whole (g.root n) = root_read n
whole (g.fix z a f p) = fix_read z a f (ap fix_text_at (sym (append-nil a)) ∙ fix_text_read p [] refl)

-- ---- what is read is a declaration

-- behind this mark
abbrev Behind : Mark → DeclSyntax → List Tok → List Tok → Type 0
Behind m d ts rest = Front (λ a. Declaration a d) (mark m ∷ ts) rest

form_sound : (ts : List Tok) (d : DeclSyntax) (rest : List Tok) → (form_at ts >>= λ f. Some (decl.form f.0, f.1)) ≡ here d rest → Behind M.Form d ts rest
unfolding form_at
form_sound ts d rest e =
    let f = bind_some (form_at ts) _ (d, rest) e in
    elim (chosen (begins M.Nbt ts) _ _ (Some f.0) f.1) [
      | inl p ↦
          let is : decl.form f.0.0 ≡ decl.form F.Nbt = ap (λ (x : Form × List Tok). decl.form x.0) (sym (same_Some (F.Nbt, drop 1 ts) f.0 p.1)) in
          let all : mark M.Form ∷ ts ≡ mark M.Form ∷ mark M.Nbt ∷ drop 1 ts = ap (λ (l : List Tok). mark M.Form ∷ l) (begins_is M.Nbt ts p.0) in
          moved (λ x a. Declaration a x) (decl.form F.Nbt) d (mark M.Form ∷ mark M.Nbt ∷ []) (mark M.Form ∷ ts) (drop 1 ts) rest all g.form_nbt (ap (λ (x : Form × List Tok). Some (decl.form x.0, x.1)) (same_Some (F.Nbt, drop 1 ts) f.0 p.1) ∙ f.2)
      | inr p ↦
          let b = bind_some (behind M.Json ts) _ f.0 p.1 in
          let all : mark M.Form ∷ ts ≡ mark M.Form ∷ mark M.Json ∷ b.0 = ap (λ (l : List Tok). mark M.Form ∷ l) (behind_is M.Json ts b.0 b.1) in
          moved (λ x a. Declaration a x) (decl.form F.Json) d (mark M.Form ∷ mark M.Json ∷ []) (mark M.Form ∷ ts) b.0 rest all g.form_json (ap (λ (x : Form × List Tok). Some (decl.form x.0, x.1)) (same_Some (F.Json, b.0) f.0 b.2) ∙ f.2)
    ]

missing_is : (ts : List Tok) (n : Option ℤ) (rest : List Tok) → missing_at ts ≡ here n rest → ts ≡ missing n ++ rest
unfolding missing_at
missing_is ts n rest e = elim (chosen (begins M.Missing ts) _ _ (here n rest) e) [
  | inl p ↦
      let z = bind_some (number_at (drop 1 ts)) _ (n, rest) p.1 in
      let all : ts ≡ mark M.Missing ∷ number z.0.0 ∷ z.0.1 = begins_is M.Missing ts p.0 ∙ ap (λ (l : List Tok). mark M.Missing ∷ l) (number_is (drop 1 ts) z.0.0 z.0.1 z.1) in
      all ∙ ap (λ (x : Option ℤ × List Tok). missing x.0 ++ x.1) (same_Some (Some z.0.0, z.0.1) (n, rest) z.2)
  | inr p ↦ ap (λ (x : Option ℤ × List Tok). missing x.0 ++ x.1) (same_Some (None, ts) (n, rest) p.1)
]

-- no string comes, or one that is the last name
abbrev Further : (xs ys : List (List ℕ)) (ts rest : List Tok) → Type 0
Further xs ys ts rest = ((ys ≡ xs) × (ts ≡ rest)) ⊎ ((x : List ℕ) × (ys ≡ xs ++ x ∷ []) × (ts ≡ text x ∷ rest))

further_is : (xs : List (List ℕ)) (ts : List Tok) (ys : List (List ℕ)) (rest : List Tok) → further_name_at xs ts ≡ here ys rest → Further xs ys ts rest
unfolding further_name_at
further_is xs ts ys rest e = elim (chosen (begins_text ts) _ _ (here ys rest) e) [
  | inl p ↦
      let b = bind_some (text_at ts) _ (ys, rest) p.1 in
      let q = same_Some (xs ++ b.0.0 ∷ [], b.0.1) (ys, rest) b.2 in
      let names : ys ≡ xs ++ b.0.0 ∷ [] = sym (ap (λ (x : List (List ℕ) × List Tok). x.0) q) in
      let all : ts ≡ text b.0.0 ∷ rest = text_is ts b.0.0 b.0.1 b.1 ∙ ap (λ (x : List (List ℕ) × List Tok). text b.0.0 ∷ x.1) q in
      inr (b.0.0, names, all)
  | inr p ↦
      let q = same_Some (xs, ts) (ys, rest) p.1 in
      inl (sym (ap (λ (x : List (List ℕ) × List Tok). x.0) q), ap (λ (x : List (List ℕ) × List Tok). x.1) q)
]

these : (a ts rest : List Tok) (xs ys : List (List ℕ)) → ts ≡ a ++ rest → xs ≡ ys → Names a ys → Front (λ b. Names b xs) ts rest
these a ts rest xs ys e p n = record { a = a; is = e; good = subst (λ (l : List (List ℕ)). Names a l) (sym p) n }

names_sound : Sound names_at Names
unfolding names_at
names_sound ts xs rest e =
    let s = bind_some (text_at ts) _ (xs, rest) e in
    let f = bind_some (further_name_at (s.0.0 ∷ []) s.0.1) _ (xs, rest) s.2 in
    let x = s.0.0 in
    let behind_x : List Tok → List Tok = λ l. text x ∷ l in
    let first : ts ≡ text x ∷ s.0.1 = text_is ts s.0.0 s.0.1 s.1 in
    let last : Further f.0.0 xs f.0.1 rest = further_is f.0.0 f.0.1 xs rest f.2 in
    elim (further_is (x ∷ []) s.0.1 f.0.0 f.0.1 f.1) [
      | inl p ↦ elim last [
        | inl q ↦ these (text x ∷ []) ts rest xs (x ∷ []) (first ∙ ap behind_x (p.1 ∙ q.1)) (q.0 ∙ p.0) (g.one_name x)
        | inr q ↦ these (text x ∷ text q.0 ∷ []) ts rest xs (x ∷ q.0 ∷ []) (first ∙ ap behind_x (p.1 ∙ q.2)) (q.1 ∙ ap (λ (l : List (List ℕ)). l ++ q.0 ∷ []) p.0) (g.two_names x q.0)
      ]
      | inr p ↦ elim last [
        | inl q ↦ these (text x ∷ text p.0 ∷ []) ts rest xs (x ∷ p.0 ∷ []) (first ∙ ap behind_x (p.2 ∙ ap (λ (l : List Tok). text p.0 ∷ l) q.1)) (q.0 ∙ p.1) (g.two_names x p.0)
        | inr q ↦ these (text x ∷ text p.0 ∷ text q.0 ∷ []) ts rest xs (x ∷ p.0 ∷ q.0 ∷ []) (first ∙ ap behind_x (p.2 ∙ ap (λ (l : List Tok). text p.0 ∷ l) q.2)) (q.1 ∙ ap (λ (l : List (List ℕ)). l ++ q.0 ∷ []) p.1) (g.three_names x p.0 q.0)
      ]
    ]

version_sound : (ts : List Tok) (d : DeclSyntax) (rest : List Tok) → version_at ts ≡ here d rest → Behind M.Version d ts rest
unfolding version_at
version_sound ts d rest e =
    let s = bind_some (names_at ts) _ (d, rest) e in
    let f = names_sound ts s.0.0 s.0.1 s.1 in
    let n = bind_some (missing_at s.0.1) _ (d, rest) s.2 in
    let is : ts ≡ (f.a ++ missing n.0.0) ++ n.0.1 = f.is ∙ ap (λ (l : List Tok). f.a ++ l) (missing_is s.0.1 n.0.0 n.0.1 n.1) ∙ sym (append_assoc f.a (missing n.0.0) n.0.1) in
    moved (λ x a. Declaration a x) (decl.version s.0.0 n.0.0) d (mark M.Version ∷ (f.a ++ missing n.0.0)) (mark M.Version ∷ ts) n.0.1 rest (ap (λ (l : List Tok). mark M.Version ∷ l) is) (g.version f.a s.0.0 n.0.0 f.good) n.2

schema_sound : (ts : List Tok) (d : DeclSyntax) (rest : List Tok) → schema_at ts ≡ here d rest → Behind M.Schema d ts rest
unfolding schema_at
schema_sound ts d rest e =
    let z = bind_some (number_at ts) _ (d, rest) e in
    let u = optional_at M.Follows z.0.1 in
    let all : mark M.Schema ∷ ts ≡ mark M.Schema ∷ number z.0.0 ∷ (optional M.Follows u.0 ++ u.1) =
    ap (λ (l : List Tok). mark M.Schema ∷ l) (number_is ts z.0.0 z.0.1 z.1 ∙ ap (λ (l : List Tok). number z.0.0 ∷ l) (optional_is M.Follows z.0.1)) in
    moved (λ x a. Declaration a x) (decl.schema z.0.0 u.0) d (mark M.Schema ∷ number z.0.0 ∷ optional M.Follows u.0) (mark M.Schema ∷ ts) u.1 rest all (g.schema z.0.0 u.0) z.2

named_sound : (ts : List Tok) (d : DeclSyntax) (rest : List Tok) → named_at ts ≡ here d rest → Behind M.Type d ts rest
unfolding named_at
named_sound ts d rest e =
    let n = bind_some (name_at ts) _ (d, rest) e in
    let b = bind_some (behind M.Equals n.0.1) _ (d, rest) n.2 in
    let c = bind_some (template_at max_levels b.0) _ (d, rest) b.2 in
    let s = template_sound max_levels b.0 c.0.0 c.0.1 c.1 in
    let equals : n.0.1 ≡ mark M.Equals ∷ (s.a ++ c.0.1) = behind_is M.Equals n.0.1 b.0 b.1 ∙ ap (λ (l : List Tok). mark M.Equals ∷ l) s.is in
    let all : mark M.Type ∷ ts ≡ mark M.Type ∷ name n.0.0 ∷ mark M.Equals ∷ (s.a ++ c.0.1) =
    ap (λ (l : List Tok). mark M.Type ∷ l) (name_is ts n.0.0 n.0.1 n.1 ∙ ap (λ (l : List Tok). name n.0.0 ∷ l) equals) in
    moved (λ x a. Declaration a x) (decl.named n.0.0 c.0.0) d (mark M.Type ∷ name n.0.0 ∷ mark M.Equals ∷ s.a) (mark M.Type ∷ ts) c.0.1 rest all (g.named n.0.0 s.a c.0.0 s.good) c.2

root_sound : (ts : List Tok) (d : DeclSyntax) (rest : List Tok) → (name_at ts >>= λ n. Some (decl.root n.0, n.1)) ≡ here d rest → Behind M.Root d ts rest
root_sound ts d rest e =
    let n = bind_some (name_at ts) _ (d, rest) e in
    moved (λ x a. Declaration a x) (decl.root n.0.0) d (mark M.Root ∷ name n.0.0 ∷ []) (mark M.Root ∷ ts) n.0.1 rest (ap (λ (l : List Tok). mark M.Root ∷ l) (name_is ts n.0.0 n.0.1 n.1)) (g.root n.0.0) n.2

fix_sound : (ts : List Tok) (d : DeclSyntax) (rest : List Tok) → fix_at ts ≡ here d rest → Behind M.Fix d ts rest
unfolding fix_at
fix_sound ts d rest e =
    let z = bind_some (number_at ts) _ (d, rest) e in
    let c = bind_some (fix_text_at z.0.1) _ (d, rest) z.2 in
    let s = fix_text_sound z.0.1 c.0.0 c.0.1 c.1 in
    let all : mark M.Fix ∷ ts ≡ mark M.Fix ∷ number z.0.0 ∷ (s.a ++ c.0.1) =
    ap (λ (l : List Tok). mark M.Fix ∷ l) (number_is ts z.0.0 z.0.1 z.1 ∙ ap (λ (l : List Tok). number z.0.0 ∷ l) s.is) in
    moved (λ x a. Declaration a x) (decl.fix z.0.0 c.0.0) d (mark M.Fix ∷ number z.0.0 ∷ s.a) (mark M.Fix ∷ ts) c.0.1 rest all (g.fix z.0.0 s.a c.0.0 s.good) c.2

at_mark : (m : Mark) (d : DeclSyntax) (ts rest : List Tok) → begins m ts ≡ true → Behind m d (drop 1 ts) rest → Front (λ a. Declaration a d) ts rest
at_mark m d ts rest h f = record { a = f.a; is = begins_is m ts h ∙ f.is; good = f.good }

declaration_sound : Sound declaration_at Declaration
unfolding declaration_at
declaration_sound ts d rest e = elim (chosen (begins M.Form ts) _ _ (here d rest) e) [
  | inl p ↦ at_mark M.Form d ts rest p.0 (form_sound (drop 1 ts) d rest p.1)
  | inr no_form ↦ elim (chosen (begins M.Version ts) _ _ (here d rest) no_form.1) [
    | inl p ↦ at_mark M.Version d ts rest p.0 (version_sound (drop 1 ts) d rest p.1)
    | inr no_version ↦ elim (chosen (begins M.Schema ts) _ _ (here d rest) no_version.1) [
      | inl p ↦ at_mark M.Schema d ts rest p.0 (schema_sound (drop 1 ts) d rest p.1)
      | inr no_schema ↦ elim (chosen (begins M.Type ts) _ _ (here d rest) no_schema.1) [
        | inl p ↦ at_mark M.Type d ts rest p.0 (named_sound (drop 1 ts) d rest p.1)
        | inr no_type ↦ elim (chosen (begins M.Root ts) _ _ (here d rest) no_type.1) [
          | inl p ↦ at_mark M.Root d ts rest p.0 (root_sound (drop 1 ts) d rest p.1)
          | inr p ↦
              let b = bind_some (behind M.Fix ts) _ (d, rest) p.1 in
              let s = fix_sound b.0 d rest b.2 in
              record { a = s.a; is = behind_is M.Fix ts b.0 b.1 ∙ s.is; good = s.good }
        ]
      ]
    ]
  ]
]

-- ---- all tokens

pub one_declaration : HasOneDeclaration
one_declaration a d e p q = ap (λ (x : DeclSyntax × List Tok). x.0) (same_Some (d, []) (e, []) (sym (whole p) ∙ whole q))

pub not_wrong : (e : ParseError) (ts : List Tok) (d : DeclSyntax) → e ≡ errors.Wrong → Fails e (declaration_at ts) → Declaration ts d → ⊥
not_wrong errors.Memory ts d w f p = absurd cc
not_wrong errors.Wrong ts d w f p = let both : None ≡ here d [] = sym f ∙ whole p in absurd cc

pub same_declaration : (ts rest : List Tok) (c d : DeclSyntax) → declaration_at ts ≡ here c rest → Declaration ts d → (d ≡ c) × ([] ≡ rest)
same_declaration ts rest c d e p =
    let q = same_Some (d, []) (c, rest) (sym (whole p) ∙ e) in
    (ap (λ (x : DeclSyntax × List Tok). x.0) q, ap (λ (x : DeclSyntax × List Tok). x.1) q)

pub all_read : (ts rest : List Tok) (d : DeclSyntax) → declaration_at ts ≡ here d rest → rest ≡ [] → Declaration ts d
all_read ts rest d e none =
    let f = declaration_sound ts d rest e in
    let is : ts ≡ f.a = f.is ∙ ap (λ (l : List Tok). f.a ++ l) none ∙ append-nil f.a in
    subst (λ (l : List Tok). Declaration l d) (sym is) f.good

pub none_left : (rest : List Token) → (length rest == 0) ≡ true → toks rest ≡ []
none_left [] h = refl
none_left (t ∷ ts) h = absurd (omega (arith, eqb-true (length (t ∷ ts)) 0 h))

pub some_left : (rest : List Token) → (length rest == 0) ≡ false → [] ≡ toks rest → ⊥
some_left [] h e = absurd cc
some_left (t ∷ ts) h e = absurd cc
