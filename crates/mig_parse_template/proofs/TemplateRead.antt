-- What is in the grammar of templates is read, whatever follows it.
use Rattle.std.proofs.Common.{◌≡◌, ℕ, zero, suc, ◌≤◌, ◌<◌, List, [], ◌∷◌, ◌++◌, length, Bool, true, false, Option, Some, None, refl, ap, ◌∙◌, append_assoc, arith}
use Rattle.mig_model.specs.declared.kind.Kind.{Kind}
use Rattle.mig_token.specs.declared.mark.Mark.{Mark}
use Rattle.mig_token.specs.declared.mark.Mark.TheVariants as M
use Rattle.mig_token.specs.Token.{Tok, mark, name, text}
use Rattle.mig_syntax.specs.TemplateSyntax as template
use Rattle.mig_syntax.specs.TemplateSyntax.{TemplateSyntax, FieldSyntax, CaseSyntax, CasesOfTag, fields_of, choice_of}
use Rattle.mig_parse_template.specs.Grammar as g
use Rattle.mig_reader.specs.Grammar.{kind_word, optional}
use Rattle.mig_parse_template.specs.Grammar.{Part, Template, Members, Field, Fields, Braced, Case, Cases, Choice, comma_dots, comma_kept}
use Rattle.mig_reader.specs.Reading.{Reader, begins, listed_at}
use Rattle.mig_parse_template.specs.Reading.{field_at, braced_at, case_at, goes_on, cases_at, comma_kept_at, choice_at, comma_dots_at, last_choice_at, members_at, record_at, compound_at, part_at, template_at}
use Rattle.mig_reader.proofs.Fronts.{here}
use Rattle.mig_parse_template.proofs.Cases.{kept_after, no_further, cases_last, cases_more}
use Rattle.mig_reader.proofs.Lists.{longer, comma_longer, listed_last, listed_more}

-- a first member is no `}`
no_end : {d : ℕ} {a : List Tok} {fs : List FieldSyntax} {c : Option CasesOfTag} {dots : Bool} → Members d a fs c dots → (rest : List Tok) → begins M.CurlyClose (a ++ rest) ≡ false
no_end (g.dots d) rest = refl
no_end (g.choice d a c dots (g.a_choice d' n b cs kept x)) rest = refl
no_end (g.last_field d a f (g.a_field d' n may b t x)) rest = refl
no_end (g.more_fields d a b f fs c dots (g.a_field d' n may e t x) m) rest = refl

no_field_end : {d : ℕ} {a : List Tok} {fs : List FieldSyntax} → Fields d a fs → (rest : List Tok) → begins M.CurlyClose (a ++ rest) ≡ false
no_field_end (g.one_field d a f (g.a_field d' n may b t x)) rest = refl
no_field_end (g.further_fields d a b f fs (g.a_field d' n may e t x) m) rest = refl

-- a further case isn't `else`
case_follows : {d : ℕ} {a : List Tok} {cs : List CaseSyntax} → Cases d a cs → (rest : List Tok) → goes_on (mark M.Comma ∷ (a ++ rest)) ≡ true
unfolding goes_on
case_follows (g.last_case d a c (g.a_case d' n b fs x)) rest = refl
case_follows (g.more_cases d a b c cs (g.a_case d' n e fs x) m) rest = refl

no_dots : {d : ℕ} {a : List Tok} {f : FieldSyntax} → Field d a f → (rest : List Tok) → begins M.Dots (a ++ rest) ≡ false
no_dots (g.a_field d n may a t x) rest = refl

no_choice : {d : ℕ} {a : List Tok} {f : FieldSyntax} → Field d a f → (rest : List Tok) → begins M.Choice (a ++ rest) ≡ false
no_choice (g.a_field d n may a t x) rest = refl

kind_read : (d : ℕ) (m : Mark) (k : Kind) (rest : List Tok) → kind_word m ≡ Some k → part_at (suc d) (mark m ∷ rest) ≡ here (template.leaf k) rest
unfolding part_at
kind_read d m k rest h = rw h refl

any_read : (d : ℕ) (rest : List Tok) → part_at (suc d) (mark M.Any ∷ rest) ≡ here template.any rest
unfolding part_at compound_at
any_read d rest = refl

list_read : (d : ℕ) (a rest : List Tok) (t : TemplateSyntax) → part_at d a ≡ here t rest → part_at (suc d) (mark M.List ∷ a) ≡ here (template.list t) rest
unfolding part_at compound_at
list_read d a rest t h = rw h refl

brackets_read : (d : ℕ) (a rest : List Tok) (t : TemplateSyntax) → template_at d a ≡ here t (mark M.Close ∷ rest) → part_at (suc d) (mark M.Open ∷ a) ≡ here t rest
unfolding part_at compound_at
brackets_read d a rest t h = rw h refl

members_within : (d : ℕ) (a rest : List Tok) (fs : List FieldSyntax) (c : Option CasesOfTag) (dots : Bool) → begins M.CurlyClose a ≡ false → members_at (template_at d) (length a) a ≡ here (fs, c, dots) (mark M.CurlyClose ∷ rest)
    → part_at (suc d) (mark M.CurlyOpen ∷ a) ≡ here (template.record_of (fields_of fs) (choice_of c) dots) rest
unfolding part_at compound_at record_at
members_within d a rest fs c dots h e = rw (h, e) refl

no_members_read : (d : ℕ) (rest : List Tok) → part_at (suc d) (mark M.CurlyOpen ∷ mark M.CurlyClose ∷ rest) ≡ here (template.record_of (fields_of []) (choice_of None) false) rest
unfolding part_at compound_at record_at
no_members_read d rest = refl

point_read : (d : ℕ) (n : List ℕ) (rest : List Tok) → part_at (suc d) (name n ∷ rest) ≡ here (template.point n) rest
unfolding part_at compound_at
point_read d n rest = refl

one_read : (d : ℕ) (ts rest : List Tok) (t : TemplateSyntax) → part_at d ts ≡ here t rest → begins M.Or rest ≡ false → template_at d ts ≡ here t rest
unfolding part_at
one_read zero ts rest t e h = absurd cc
one_read (suc d) ts rest t e h = rw (e, h) refl

or_read : (d : ℕ) (ts b rest : List Tok) (s t : TemplateSyntax) → part_at (suc d) ts ≡ here s (mark M.Or ∷ b) → template_at d b ≡ here t rest → template_at (suc d) ts ≡ here (template.sum s t) rest
unfolding part_at
or_read d ts b rest s t e f = rw (e, f) refl

field_read : (T : Reader TemplateSyntax) (n : List ℕ) (may : Bool) (a rest : List Tok) (t : TemplateSyntax) → T a ≡ here t rest
    → field_at T (text n ∷ (optional M.Question may ++ mark M.Colon ∷ a)) ≡ here (n, (may, t)) rest
unfolding field_at
field_read T n true a rest t h = rw h refl
field_read T n false a rest t h = rw h refl

dots_read : (T : Reader TemplateSyntax) (n : ℕ) (rest : List Tok) → 0 < n → members_at T n (mark M.Dots ∷ rest) ≡ here ([], None, true) rest
unfolding members_at
dots_read T zero rest h = absurd (omega arith)
dots_read T (suc n) rest h = refl

-- `, ..` or nothing, before what isn't a comma
dots_after : (dots : Bool) (rest : List Tok) → begins M.Comma rest ≡ false → comma_dots_at (comma_dots dots ++ rest) ≡ here dots rest
unfolding comma_dots_at
dots_after true rest h = refl
dots_after false rest h = rw h refl

choice_member : (T : Reader TemplateSyntax) (n : List ℕ) (k : ℕ) (ts ws us rest : List Tok) (cs : List CaseSyntax) (kept dots : Bool) → 0 < k → cases_at T (length ts) ts ≡ here cs ws → comma_kept_at ws ≡ here kept (mark M.CurlyClose ∷ us) → comma_dots_at us ≡ here dots rest
    → members_at T k (mark M.Choice ∷ text n ∷ mark M.CurlyOpen ∷ ts) ≡ here ([], Some (n, (cs, kept)), dots) rest
unfolding members_at last_choice_at choice_at
choice_member T n zero ts ws us rest cs kept dots l e f g = absurd (omega arith)
choice_member T n (suc k) ts ws us rest cs kept dots l e f g = rw (e, f, g) refl

last_read : (T : Reader TemplateSyntax) (n : ℕ) (a rest : List Tok) (f : FieldSyntax) → 0 < n → begins M.Dots a ≡ false → begins M.Choice a ≡ false → field_at T a ≡ here f rest → begins M.Comma rest ≡ false
    → members_at T n a ≡ here (f ∷ [], None, false) rest
unfolding members_at
last_read T zero a rest f h w x y z = absurd (omega arith)
last_read T (suc n) a rest f h w x y z = rw (w, x, y, z) refl

more_read : (T : Reader TemplateSyntax) (n : ℕ) (a b rest : List Tok) (f : FieldSyntax) (fs : List FieldSyntax) (c : Option CasesOfTag) (dots : Bool) → begins M.Dots a ≡ false → begins M.Choice a ≡ false → field_at T a ≡ here f (mark M.Comma ∷ b)
    → members_at T n b ≡ here (fs, c, dots) rest → members_at T (suc n) a ≡ here (f ∷ fs, c, dots) rest
unfolding members_at
more_read T n a b rest f fs c dots w x y z = rw (w, x, y, z) refl

no_fields_read : (T : Reader TemplateSyntax) (rest : List Tok) → braced_at T (mark M.CurlyOpen ∷ mark M.CurlyClose ∷ rest) ≡ here [] rest
unfolding braced_at
no_fields_read T rest = refl

fields_within : (T : Reader TemplateSyntax) (a rest : List Tok) (fs : List FieldSyntax) → begins M.CurlyClose a ≡ false → listed_at (field_at T) (length a) a ≡ here fs (mark M.CurlyClose ∷ rest) → braced_at T (mark M.CurlyOpen ∷ a) ≡ here fs rest
unfolding braced_at
fields_within T a rest fs h e = rw (h, e) refl

one_case : (T : Reader TemplateSyntax) (n : List ℕ) (a rest : List Tok) (fs : List FieldSyntax) → braced_at T a ≡ here fs rest → case_at T (text n ∷ a) ≡ here (n, fs) rest
unfolding case_at
one_case T n a rest fs e = rw e refl

optional_apart : (m : Mark) (b : Bool) (a rest : List Tok) → (optional m b ++ a) ++ rest ≡ optional m b ++ (a ++ rest)
optional_apart m true a rest = refl
optional_apart m false a rest = refl

some_tokens : {d : ℕ} {a : List Tok} {f : FieldSyntax} → Field d a f → 0 < length a
some_tokens (g.a_field d n may a t x) = omega arith

some_choice : {d : ℕ} {a : List Tok} {c : CasesOfTag} → Choice d a c → 0 < length a
some_choice (g.a_choice d n a cs kept x) = omega arith

some_case : {d : ℕ} {a : List Tok} {c : CaseSyntax} → Case d a c → 0 < length a
some_case (g.a_case d n a fs x) = omega arith

mutual
  pub part_read : {d : ℕ} {a : List Tok} {t : TemplateSyntax} → Part d a t → (rest : List Tok) → part_at d (a ++ rest) ≡ here t rest
  part_read (g.a_kind d m k h) rest = kind_read d m k rest h
  part_read (g.any d) rest = any_read d rest
  part_read (g.list d a t p) rest = list_read d (a ++ rest) rest t (part_read p rest)
  part_read (g.no_members d) rest = no_members_read d rest
  part_read (g.members d a fs c dots m) rest =
      let ts = a ++ mark M.CurlyClose ∷ rest in
      let e : (a ++ mark M.CurlyClose ∷ []) ++ rest ≡ ts = append_assoc a (mark M.CurlyClose ∷ []) rest in
      ap (λ (l : List Tok). part_at (suc d) (mark M.CurlyOpen ∷ l)) e
      ∙ members_within d ts rest fs c dots (no_end m (mark M.CurlyClose ∷ rest)) (members_read m (length ts) (mark M.CurlyClose ∷ rest) (longer a (mark M.CurlyClose ∷ rest)) refl refl)
  part_read (g.point d n) rest = point_read d n rest
  part_read (g.brackets d a t p) rest =
      let e : (a ++ mark M.Close ∷ []) ++ rest ≡ a ++ mark M.Close ∷ rest = append_assoc a (mark M.Close ∷ []) rest in
      ap (λ (l : List Tok). part_at (suc d) (mark M.Open ∷ l)) e
      ∙ brackets_read d (a ++ mark M.Close ∷ rest) rest t (template_read p (mark M.Close ∷ rest) refl)

  pub template_read : {d : ℕ} {a : List Tok} {t : TemplateSyntax} → Template d a t → (rest : List Tok) → begins M.Or rest ≡ false → template_at d (a ++ rest) ≡ here t rest
  template_read (g.part d a t p) rest h = one_read d (a ++ rest) rest t (part_read p rest) h
  template_read (g.or d a b s t p q) rest h =
      let e : (a ++ mark M.Or ∷ b) ++ rest ≡ a ++ mark M.Or ∷ (b ++ rest) = append_assoc a (mark M.Or ∷ b) rest in
      ap (template_at (suc d)) e ∙ or_read d (a ++ mark M.Or ∷ (b ++ rest)) (b ++ rest) rest s t (part_read p (mark M.Or ∷ (b ++ rest))) (template_read q rest h)

  members_read : {d : ℕ} {a : List Tok} {fs : List FieldSyntax} {c : Option CasesOfTag} {dots : Bool} → Members d a fs c dots → (n : ℕ) (rest : List Tok) → length a ≤ n → begins M.Comma rest ≡ false → begins M.Or rest ≡ false
      → members_at (template_at d) n (a ++ rest) ≡ here (fs, c, dots) rest
  members_read (g.dots d) n rest l h o = dots_read (template_at d) n rest (omega arith)
  members_read (g.choice d a c dots x) n rest l h o =
      ap (members_at (template_at d) n) (append_assoc a (comma_dots dots) rest) ∙ choice_read x n dots rest (omega (arith, some_choice x, longer a (comma_dots dots))) h
  members_read (g.last_field d a f x) n rest l h o = last_read (template_at d) n (a ++ rest) rest f (omega (arith, some_tokens x)) (no_dots x rest) (no_choice x rest) (one_field x rest o) h
  members_read (g.more_fields d a b f fs c dots x m) zero rest l h o = absurd (omega (arith, comma_longer a b))
  members_read (g.more_fields d a b f fs c dots x m) (suc n) rest l h o =
      let us = mark M.Comma ∷ (b ++ rest) in
      let e : (a ++ mark M.Comma ∷ b) ++ rest ≡ a ++ us = append_assoc a (mark M.Comma ∷ b) rest in
      ap (members_at (template_at d) (suc n)) e
      ∙ more_read (template_at d) n (a ++ us) (b ++ rest) rest f fs c dots (no_dots x us) (no_choice x us) (one_field x us refl) (members_read m n rest (omega (arith, comma_longer a b)) h o)

  choice_read : {d : ℕ} {a : List Tok} {c : CasesOfTag} → Choice d a c → (k : ℕ) (dots : Bool) (rest : List Tok) → 0 < k → begins M.Comma rest ≡ false
      → members_at (template_at d) k (a ++ (comma_dots dots ++ rest)) ≡ here ([], Some c, dots) rest
  choice_read (g.a_choice d n b cs kept q) k dots rest l h =
      let us = comma_dots dots ++ rest in
      let ws = comma_kept kept ++ mark M.CurlyClose ∷ us in
      let ts = b ++ ws in
      let e : (b ++ (comma_kept kept ++ mark M.CurlyClose ∷ [])) ++ us ≡ ts =
      append_assoc b (comma_kept kept ++ mark M.CurlyClose ∷ []) us ∙ ap (λ (x : List Tok). b ++ x) (append_assoc (comma_kept kept) (mark M.CurlyClose ∷ []) us) in
      ap (λ (x : List Tok). members_at (template_at d) k (mark M.Choice ∷ text n ∷ mark M.CurlyOpen ∷ x)) e
      ∙ choice_member (template_at d) n k ts ws us rest cs kept dots l (cases_read q (length ts) ws (longer b ws) (no_further kept us)) (kept_after kept us) (dots_after dots rest h)

  cases_read : {d : ℕ} {a : List Tok} {cs : List CaseSyntax} → Cases d a cs → (n : ℕ) (rest : List Tok) → length a ≤ n → goes_on rest ≡ false → cases_at (template_at d) n (a ++ rest) ≡ here cs rest
  cases_read (g.last_case d a c x) n rest l h = cases_last (template_at d) n (a ++ rest) rest c (omega (arith, some_case x)) (case_read x rest) h
  cases_read (g.more_cases d a b c cs x m) zero rest l h = absurd (omega (arith, comma_longer a b))
  cases_read (g.more_cases d a b c cs x m) (suc n) rest l h =
      let us = mark M.Comma ∷ (b ++ rest) in
      let e : (a ++ mark M.Comma ∷ b) ++ rest ≡ a ++ us = append_assoc a (mark M.Comma ∷ b) rest in
      ap (cases_at (template_at d) (suc n)) e
      ∙ cases_more (template_at d) n (a ++ us) (b ++ rest) rest c cs (case_read x us) (case_follows m rest) (cases_read m n rest (omega (arith, comma_longer a b)) h)

  case_read : {d : ℕ} {a : List Tok} {c : CaseSyntax} → Case d a c → (rest : List Tok) → case_at (template_at d) (a ++ rest) ≡ here c rest
  case_read (g.a_case d n a fs x) rest = one_case (template_at d) n (a ++ rest) rest fs (braced_read x rest)

  pub braced_read : {d : ℕ} {a : List Tok} {fs : List FieldSyntax} → Braced d a fs → (rest : List Tok) → braced_at (template_at d) (a ++ rest) ≡ here fs rest
  braced_read (g.no_fields d) rest = no_fields_read (template_at d) rest
  braced_read (g.some_fields d a fs x) rest =
      let us = mark M.CurlyClose ∷ rest in
      let ts = a ++ us in
      let e : (a ++ mark M.CurlyClose ∷ []) ++ rest ≡ ts = append_assoc a (mark M.CurlyClose ∷ []) rest in
      ap (λ (l : List Tok). braced_at (template_at d) (mark M.CurlyOpen ∷ l)) e ∙ fields_within (template_at d) ts rest fs (no_field_end x us) (fields_read x (length ts) us (longer a us) refl refl)

  fields_read : {d : ℕ} {a : List Tok} {fs : List FieldSyntax} → Fields d a fs → (n : ℕ) (rest : List Tok) → length a ≤ n → begins M.Comma rest ≡ false → begins M.Or rest ≡ false → listed_at (field_at (template_at d)) n (a ++ rest) ≡ here fs rest
  fields_read (g.one_field d a f x) n rest l h o = listed_last (field_at (template_at d)) n (a ++ rest) rest f (omega (arith, some_tokens x)) (one_field x rest o) h
  fields_read (g.further_fields d a b f fs x m) zero rest l h o = absurd (omega (arith, comma_longer a b))
  fields_read (g.further_fields d a b f fs x m) (suc n) rest l h o =
      let us = mark M.Comma ∷ (b ++ rest) in
      let e : (a ++ mark M.Comma ∷ b) ++ rest ≡ a ++ us = append_assoc a (mark M.Comma ∷ b) rest in
      ap (listed_at (field_at (template_at d)) (suc n)) e
      ∙ listed_more (field_at (template_at d)) n (a ++ us) (b ++ rest) rest f fs (one_field x us refl) (fields_read m n rest (omega (arith, comma_longer a b)) h o)

  one_field : {d : ℕ} {a : List Tok} {f : FieldSyntax} → Field d a f → (rest : List Tok) → begins M.Or rest ≡ false → field_at (template_at d) (a ++ rest) ≡ here f rest
  one_field (g.a_field d n may a t x) rest o =
      ap (λ (l : List Tok). field_at (template_at d) (text n ∷ l)) (optional_apart M.Question may (mark M.Colon ∷ a) rest)
      ∙ field_read (template_at d) n may (a ++ rest) rest t (template_read x rest o)
