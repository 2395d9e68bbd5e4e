-- Reading a template from left to right: what was read and the tokens after it, or nothing.
use Rattle.std.specs.Prelude.{ℕ, zero, suc, List, [], ◌∷◌, ◌++◌, length, drop, Bool, true, false, not, ◌&&◌, Option, Some, None, if◌then◌else◌}
use Rattle.mig_token.specs.declared.mark.Mark.TheVariants as M
use Rattle.mig_token.specs.Token.{Tok}
use Rattle.mig_syntax.specs.TemplateSyntax as template
use Rattle.mig_syntax.specs.TemplateSyntax.{TemplateSyntax, FieldSyntax, CaseSyntax, CasesOfTag, fields_of, choice_of}
use Rattle.mig_reader.specs.Reading.{◌>>=◌, if_some, Read, Reader, begins, behind, optional_at, name_at, text_at, first_kind, listed_at}

-- templates, where T and P read templates and parts one level down
unfoldable pub field_at : Reader TemplateSyntax → Reader FieldSyntax
field_at T ts = do
  n ← text_at ts
  rest ← behind M.Colon (optional_at M.Question n.1).1
  t ← T rest
  Some ((n.0, ((optional_at M.Question n.1).0, t.0)), t.1)

-- fields in `{ }`
unfoldable pub braced_at : Reader TemplateSyntax → Reader (List FieldSyntax)
braced_at T ts = do
  start ← behind M.CurlyOpen ts
  if begins M.CurlyClose start then Some ([], drop 1 start) else (do
    fs ← listed_at (field_at T) (length start) start
    rest ← behind M.CurlyClose fs.1
    Some (fs.0, rest))

unfoldable pub case_at : Reader TemplateSyntax → Reader CaseSyntax
case_at T ts = do
  n ← text_at ts
  fs ← braced_at T n.1
  Some ((n.0, fs.0), fs.1)

-- whether a comma comes and no `else` behind it, so that a further case has to come
unfoldable pub goes_on : List Tok → Bool
goes_on ts = begins M.Comma ts && not (begins M.Else (drop 1 ts))

-- one or more cases, with commas between them; n bounds them
unfoldable pub cases_at : Reader TemplateSyntax → ℕ → Reader (List CaseSyntax)
cases_at T zero ts = None
cases_at T (suc n) ts = do
  c ← case_at T ts
  if goes_on c.1 then (do
    cs ← cases_at T n (drop 1 c.1)
    Some (c.0 ∷ cs.0, cs.1)) else Some (c.0 ∷ [], c.1)

-- whether a comma comes, behind which `else kept` has to stand
unfoldable pub comma_kept_at : Reader Bool
comma_kept_at ts = if begins M.Comma ts then (do
  start ← behind M.Else (drop 1 ts)
  rest ← behind M.Kept start
  Some (true, rest)) else Some (false, ts)

-- behind `choice`
unfoldable pub choice_at : Reader TemplateSyntax → Reader CasesOfTag
choice_at T ts = do
  n ← text_at ts
  start ← behind M.CurlyOpen n.1
  cs ← cases_at T (length start) start
  kept ← comma_kept_at cs.1
  rest ← behind M.CurlyClose kept.1
  Some ((n.0, (cs.0, kept.0)), rest)

-- whether a comma comes, behind which `..` has to stand
unfoldable pub comma_dots_at : Reader Bool
comma_dots_at ts = if begins M.Comma ts then (do
  rest ← behind M.Dots (drop 1 ts)
  Some (true, rest)) else Some (false, ts)

unfoldable pub last_choice_at : Reader TemplateSyntax → Reader (CasesOfTag × Bool)
last_choice_at T ts = do
  c ← choice_at T ts
  dots ← comma_dots_at c.1
  Some ((c.0, dots.0), dots.1)

abbrev pub MembersSyntax : Type 0
MembersSyntax = List FieldSyntax × Option CasesOfTag × Bool

-- n bounds the members
unfoldable pub members_at : Reader TemplateSyntax → ℕ → Reader MembersSyntax
members_at T zero ts = None
members_at T (suc n) ts =
    if begins M.Dots ts then Some (([], None, true), drop 1 ts)
    else (if begins M.Choice ts then (do
      c ← last_choice_at T (drop 1 ts)
      Some (([], Some c.0.0, c.0.1), c.1))
    else (do
      f ← field_at T ts
      if begins M.Comma f.1 then (do
        more ← members_at T n (drop 1 f.1)
        Some ((f.0 ∷ more.0.0, more.0.1, more.0.2), more.1)) else Some ((f.0 ∷ [], None, false), f.1)))

-- behind `{`
unfoldable pub record_at : Reader TemplateSyntax → Reader TemplateSyntax
record_at T ts =
    if begins M.CurlyClose ts then Some (template.record_of (fields_of []) (choice_of None) false, drop 1 ts) else (do
      m ← members_at T (length ts) ts
      rest ← behind M.CurlyClose m.1
      Some (template.record_of (fields_of m.0.0) (choice_of m.0.1) m.0.2, rest))

-- a part that no kind word begins
unfoldable pub compound_at : (P T : Reader TemplateSyntax) → Reader TemplateSyntax
compound_at P T ts =
    if begins M.Any ts then Some (template.any, drop 1 ts)
    else (if begins M.List ts then (do
      p ← P (drop 1 ts)
      Some (template.list p.0, p.1))
    else (if begins M.CurlyOpen ts then record_at T (drop 1 ts)
    else (if begins M.Open ts then (do
      t ← T (drop 1 ts)
      rest ← behind M.Close t.1
      Some (t.0, rest))
    else (do
      n ← name_at ts
      Some (template.point n.0, n.1)))))

abbrev pub part_with : (P T : Reader TemplateSyntax) → Reader TemplateSyntax
part_with P T ts = if_some (first_kind ts) (λ k. Some (template.leaf k, drop 1 ts)) (compound_at P T ts)

-- `or` and a template, where it comes
abbrev pub or_with : (T : Reader TemplateSyntax) → TemplateSyntax × List Tok → Read TemplateSyntax
or_with T p = if begins M.Or p.1 then (do
  q ← T (drop 1 p.1)
  Some (template.sum p.0 q.0, q.1)) else Some p

unfoldable mutual
  pub part_at : ℕ → Reader TemplateSyntax
  part_at zero ts = None
  part_at (suc d) ts = part_with (part_at d) (template_at d) ts

  pub template_at : ℕ → Reader TemplateSyntax
  template_at zero ts = None
  template_at (suc d) ts = part_with (part_at d) (template_at d) ts >>= or_with (template_at d)

-- the members that were read before, and those that are still read
abbrev pub after_fields : List FieldSyntax → Read MembersSyntax → Read MembersSyntax
after_fields front read = read >>= λ x. Some ((front ++ x.0.0, x.0.1, x.0.2), x.1)
