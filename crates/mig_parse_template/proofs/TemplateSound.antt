-- What is read as a template is in the grammar of templates.
use Rattle.std.proofs.Common.{◌≡◌, inl, inr, ℕ, zero, suc, List, [], ◌∷◌, ◌++◌, length, drop, Bool, true, false, Some, None, sym, ap, ◌∙◌, append_assoc}
use Rattle.mig_token.specs.declared.mark.Mark.{Mark}
use Rattle.mig_token.specs.declared.mark.Mark.TheVariants as M
use Rattle.mig_token.specs.Token.{Tok, mark, name, text}
use Rattle.mig_syntax.specs.TemplateSyntax as template
use Rattle.mig_syntax.specs.TemplateSyntax.{TemplateSyntax, FieldSyntax, CaseSyntax, CasesOfTag, fields_of, choice_of}
use Rattle.mig_reader.specs.Grammar as shared
use Rattle.mig_parse_template.specs.Grammar as g
use Rattle.mig_reader.specs.Grammar.{Listed, optional}
use Rattle.mig_parse_template.specs.Grammar.{Part, Template, Members, Field, Fields, Braced, Case, Cases, Choice, comma_dots, comma_kept}
use Rattle.mig_reader.specs.Reading.{◌>>=◌, Reader, begins, behind, optional_at, name_at, text_at, first_kind, listed_at}
use Rattle.mig_parse_template.specs.Reading.{field_at, braced_at, case_at, goes_on, cases_at, comma_kept_at, choice_at, comma_dots_at, last_choice_at, MembersSyntax, members_at, record_at, compound_at, part_with, or_with, part_at, template_at}
use Rattle.mig_parse_template.proofs.Cases.{is_comma}
use Rattle.mig_reader.proofs.Lists.{listed_sound}
use Rattle.mig_reader.proofs.Fronts.{here, bind_some, one_of, Front, moved, Sound, begins_is, behind_is, name_is, text_is, kind_is, then_mark, optional_is}
use Rattle.std.proofs.lemmas.Option.{same_Some}
use Rattle.mig_model.proofs.Options.{chosen}

comma_dots_is : (ts : List Tok) (dots : Bool) (rest : List Tok) → comma_dots_at ts ≡ here dots rest → ts ≡ comma_dots dots ++ rest
unfolding comma_dots_at
comma_dots_is ts dots rest e = elim (chosen (begins M.Comma ts) _ _ (here dots rest) e) [
  | inl p ↦
      let b = bind_some (behind M.Dots (drop 1 ts)) _ (dots, rest) p.1 in
      let all : ts ≡ mark M.Comma ∷ mark M.Dots ∷ b.0 = begins_is M.Comma ts p.0 ∙ ap (λ (l : List Tok). mark M.Comma ∷ l) (behind_is M.Dots (drop 1 ts) b.0 b.1) in
      all ∙ ap (λ (x : Bool × List Tok). comma_dots x.0 ++ x.1) (same_Some (true, b.0) (dots, rest) b.2)
  | inr p ↦ ap (λ (x : Bool × List Tok). comma_dots x.0 ++ x.1) (same_Some (false, ts) (dots, rest) p.1)
]

comma_kept_is : (ts : List Tok) (kept : Bool) (rest : List Tok) → comma_kept_at ts ≡ here kept rest → ts ≡ comma_kept kept ++ rest
unfolding comma_kept_at
comma_kept_is ts kept rest e = elim (chosen (begins M.Comma ts) _ _ (here kept rest) e) [
  | inl p ↦
      let b = bind_some (behind M.Else (drop 1 ts)) _ (kept, rest) p.1 in
      let c = bind_some (behind M.Kept b.0) _ (kept, rest) b.2 in
      let words : drop 1 ts ≡ mark M.Else ∷ mark M.Kept ∷ c.0 = behind_is M.Else (drop 1 ts) b.0 b.1 ∙ ap (λ (l : List Tok). mark M.Else ∷ l) (behind_is M.Kept b.0 c.0 c.1) in
      let all : ts ≡ mark M.Comma ∷ mark M.Else ∷ mark M.Kept ∷ c.0 = begins_is M.Comma ts p.0 ∙ ap (λ (l : List Tok). mark M.Comma ∷ l) words in
      all ∙ ap (λ (x : Bool × List Tok). comma_kept x.0 ++ x.1) (same_Some (true, c.0) (kept, rest) c.2)
  | inr p ↦ ap (λ (x : Bool × List Tok). comma_kept x.0 ++ x.1) (same_Some (false, ts) (kept, rest) p.1)
]

module _ (d : ℕ) (T : Reader TemplateSyntax) (tsound : Sound T (Template d)) where
  field_sound : Sound (field_at T) (Field d)
  unfolding field_at
  field_sound ts f rest e =
      let n = bind_some (text_at ts) _ (f, rest) e in
      let u = optional_at M.Question n.0.1 in
      let b = bind_some (behind M.Colon u.1) _ (f, rest) n.2 in
      let c = bind_some (T b.0) _ (f, rest) b.2 in
      let s = tsound b.0 c.0.0 c.0.1 c.1 in
      let asked : n.0.1 ≡ optional M.Question u.0 ++ u.1 = optional_is M.Question n.0.1 in
      let colon : u.1 ≡ mark M.Colon ∷ (s.a ++ c.0.1) = behind_is M.Colon u.1 b.0 b.1 ∙ ap (λ (l : List Tok). mark M.Colon ∷ l) s.is in
      let inner : n.0.1 ≡ (optional M.Question u.0 ++ mark M.Colon ∷ s.a) ++ c.0.1 = asked ∙ (ap (λ (l : List Tok). optional M.Question u.0 ++ l) colon ∙ sym (append_assoc (optional M.Question u.0) (mark M.Colon ∷ s.a) c.0.1)) in
      let all : ts ≡ (text n.0.0 ∷ (optional M.Question u.0 ++ mark M.Colon ∷ s.a)) ++ c.0.1 = text_is ts n.0.0 n.0.1 n.1 ∙ ap (λ (l : List Tok). text n.0.0 ∷ l) inner in
      moved (λ x a. Field d a x) (n.0.0, (u.0, c.0.0)) f (text n.0.0 ∷ (optional M.Question u.0 ++ mark M.Colon ∷ s.a)) ts c.0.1 rest all (g.a_field d n.0.0 u.0 s.a c.0.0 s.good) c.2

  -- ---- fields and cases
  fields_from : {a : List Tok} {fs : List FieldSyntax} → Listed (Field d) a fs → Fields d a fs
  fields_from (shared.last a f x) = g.one_field d a f x
  fields_from (shared.more a b f fs x m) = g.further_fields d a b f fs x (fields_from m)

  pub braced_sound : Sound (braced_at T) (Braced d)
  unfolding braced_at
  braced_sound ts fs rest e =
      let b = bind_some (behind M.CurlyOpen ts) _ (fs, rest) e in
      let open_is : ts ≡ mark M.CurlyOpen ∷ b.0 = behind_is M.CurlyOpen ts b.0 b.1 in
      elim (chosen (begins M.CurlyClose b.0) _ _ (here fs rest) b.2) [
        | inl p ↦
            let all : ts ≡ mark M.CurlyOpen ∷ mark M.CurlyClose ∷ drop 1 b.0 = open_is ∙ ap (λ (l : List Tok). mark M.CurlyOpen ∷ l) (begins_is M.CurlyClose b.0 p.0) in
            moved (λ x a. Braced d a x) [] fs (mark M.CurlyOpen ∷ mark M.CurlyClose ∷ []) ts (drop 1 b.0) rest all (g.no_fields d) p.1
        | inr p ↦
            let c = bind_some (listed_at (field_at T) (length b.0) b.0) _ (fs, rest) p.1 in
            let s = listed_sound (field_at T) (Field d) field_sound (length b.0) b.0 c.0.0 c.0.1 c.1 in
            let r = bind_some (behind M.CurlyClose c.0.1) _ (fs, rest) c.2 in
            let all : ts ≡ mark M.CurlyOpen ∷ ((s.a ++ mark M.CurlyClose ∷ []) ++ r.0) = open_is ∙ ap (λ (l : List Tok). mark M.CurlyOpen ∷ l) (then_mark s.a b.0 c.0.1 r.0 M.CurlyClose s.is (behind_is M.CurlyClose c.0.1 r.0 r.1)) in
            moved (λ x a. Braced d a x) c.0.0 fs (mark M.CurlyOpen ∷ (s.a ++ mark M.CurlyClose ∷ [])) ts r.0 rest all (g.some_fields d s.a c.0.0 (fields_from s.good)) r.2
      ]

  case_sound : Sound (case_at T) (Case d)
  unfolding case_at
  case_sound ts c rest e =
      let n = bind_some (text_at ts) _ (c, rest) e in
      let c2 = bind_some (braced_at T n.0.1) _ (c, rest) n.2 in
      let s = braced_sound n.0.1 c2.0.0 c2.0.1 c2.1 in
      let all : ts ≡ (text n.0.0 ∷ s.a) ++ c2.0.1 = text_is ts n.0.0 n.0.1 n.1 ∙ ap (λ (l : List Tok). text n.0.0 ∷ l) (s.is) in
      moved (λ x a. Case d a x) (n.0.0, c2.0.0) c (text n.0.0 ∷ s.a) ts c2.0.1 rest all (g.a_case d n.0.0 s.a c2.0.0 s.good) c2.2

  cases_sound : (n : ℕ) → Sound (cases_at T n) (Cases d)
  unfolding cases_at
  cases_sound zero ts cs rest e = absurd cc
  cases_sound (suc n) ts cs rest e =
      let b = bind_some (case_at T ts) _ (cs, rest) e in
      let s = case_sound ts b.0.0 b.0.1 b.1 in
      elim (chosen (goes_on b.0.1) _ _ (here cs rest) b.2) [
        | inl p ↦
            let c = bind_some (cases_at T n (drop 1 b.0.1)) _ (cs, rest) p.1 in
            let r = cases_sound n (drop 1 b.0.1) c.0.0 c.0.1 c.1 in
            let comma : b.0.1 ≡ mark M.Comma ∷ (r.a ++ c.0.1) = begins_is M.Comma b.0.1 (is_comma b.0.1 p.0) ∙ ap (λ (l : List Tok). mark M.Comma ∷ l) r.is in
            let all : ts ≡ (s.a ++ mark M.Comma ∷ r.a) ++ c.0.1 = s.is ∙ ap (λ (l : List Tok). s.a ++ l) comma ∙ sym (append_assoc s.a (mark M.Comma ∷ r.a) c.0.1) in
            moved (λ x a. Cases d a x) (b.0.0 ∷ c.0.0) cs (s.a ++ mark M.Comma ∷ r.a) ts c.0.1 rest all (g.more_cases d s.a r.a b.0.0 c.0.0 s.good r.good) c.2
        | inr p ↦ moved (λ x a. Cases d a x) (b.0.0 ∷ []) cs s.a ts b.0.1 rest s.is (g.last_case d s.a b.0.0 s.good) p.1
      ]

  choice_sound : Sound (choice_at T) (λ a c. Choice d (mark M.Choice ∷ a) c)
  unfolding choice_at
  choice_sound ts c rest e =
      let n = bind_some (text_at ts) _ (c, rest) e in
      let b = bind_some (behind M.CurlyOpen n.0.1) _ (c, rest) n.2 in
      let c2 = bind_some (cases_at T (length b.0) b.0) _ (c, rest) b.2 in
      let s = cases_sound (length b.0) b.0 c2.0.0 c2.0.1 c2.1 in
      let k = bind_some (comma_kept_at c2.0.1) _ (c, rest) c2.2 in
      let b2 = bind_some (behind M.CurlyClose k.0.1) _ (c, rest) k.2 in
      let end : List Tok = comma_kept k.0.0 ++ mark M.CurlyClose ∷ [] in
      let after : c2.0.1 ≡ end ++ b2.0 = then_mark (comma_kept k.0.0) c2.0.1 k.0.1 b2.0 M.CurlyClose (comma_kept_is c2.0.1 k.0.0 k.0.1 k.1) (behind_is M.CurlyClose k.0.1 b2.0 b2.1) in
      let within : b.0 ≡ (s.a ++ end) ++ b2.0 = s.is ∙ ap (λ (l : List Tok). s.a ++ l) after ∙ sym (append_assoc s.a end b2.0) in
      let all : ts ≡ (text n.0.0 ∷ mark M.CurlyOpen ∷ (s.a ++ end)) ++ b2.0 = text_is ts n.0.0 n.0.1 n.1 ∙ ap (λ (l : List Tok). text n.0.0 ∷ l) (behind_is M.CurlyOpen n.0.1 b.0 b.1 ∙ ap (λ (l : List Tok). mark M.CurlyOpen ∷ l) within) in
      moved (λ x a. Choice d (mark M.Choice ∷ a) x) (n.0.0, (c2.0.0, k.0.0)) c (text n.0.0 ∷ mark M.CurlyOpen ∷ (s.a ++ end)) ts b2.0 rest all (g.a_choice d n.0.0 s.a c2.0.0 k.0.0 s.good) b2.2

  -- ---- members
  last_choice_sound : Sound (last_choice_at T) (λ a x. Members d (mark M.Choice ∷ a) [] (Some x.0) x.1)
  unfolding last_choice_at
  last_choice_sound ts x rest e =
      let b = bind_some (choice_at T ts) _ (x, rest) e in
      let s = choice_sound ts b.0.0 b.0.1 b.1 in
      let c = bind_some (comma_dots_at b.0.1) _ (x, rest) b.2 in
      let dots : b.0.1 ≡ comma_dots c.0.0 ++ c.0.1 = comma_dots_is b.0.1 c.0.0 c.0.1 c.1 in
      let all : ts ≡ (s.a ++ comma_dots c.0.0) ++ c.0.1 = s.is ∙ ap (λ (l : List Tok). s.a ++ l) dots ∙ sym (append_assoc s.a (comma_dots c.0.0) c.0.1) in
      moved (λ (y : CasesOfTag × Bool) a. Members d (mark M.Choice ∷ a) [] (Some y.0) y.1) (b.0.0, c.0.0) x (s.a ++ comma_dots c.0.0) ts c.0.1 rest all (g.choice d (mark M.Choice ∷ s.a) b.0.0 c.0.0 s.good) c.2

  abbrev IsMembers : List Tok → MembersSyntax → Type 0
  IsMembers a m = Members d a m.0 m.1 m.2

  members_sound : (n : ℕ) → Sound (members_at T n) IsMembers
  unfolding members_at
  members_sound zero ts m rest e = absurd cc
  members_sound (suc n) ts m rest e = elim (chosen (begins M.Dots ts) _ _ (here m rest) e) [
    | inl p ↦ moved (λ x a. IsMembers a x) ([], None, true) m (mark M.Dots ∷ []) ts (drop 1 ts) rest (begins_is M.Dots ts p.0) (g.dots d) p.1
    | inr no_dots ↦ elim (chosen (begins M.Choice ts) _ _ (here m rest) no_dots.1) [
      | inl p ↦
          let b = bind_some (last_choice_at T (drop 1 ts)) _ (m, rest) p.1 in
          let s = last_choice_sound (drop 1 ts) b.0.0 b.0.1 b.1 in
          let all : ts ≡ (mark M.Choice ∷ s.a) ++ b.0.1 = begins_is M.Choice ts p.0 ∙ ap (λ (l : List Tok). mark M.Choice ∷ l) s.is in
          moved (λ x a. IsMembers a x) ([], Some b.0.0.0, b.0.0.1) m (mark M.Choice ∷ s.a) ts b.0.1 rest all s.good b.2
      | inr p ↦
          let b = bind_some (field_at T ts) _ (m, rest) p.1 in
          let s = field_sound ts b.0.0 b.0.1 b.1 in
          elim (chosen (begins M.Comma b.0.1) _ _ (here m rest) b.2) [
            | inl q ↦
                let c = bind_some (members_at T n (drop 1 b.0.1)) _ (m, rest) q.1 in
                let r = members_sound n (drop 1 b.0.1) c.0.0 c.0.1 c.1 in
                let comma : b.0.1 ≡ mark M.Comma ∷ (r.a ++ c.0.1) = begins_is M.Comma b.0.1 q.0 ∙ ap (λ (l : List Tok). mark M.Comma ∷ l) r.is in
                let all : ts ≡ (s.a ++ mark M.Comma ∷ r.a) ++ c.0.1 = s.is ∙ ap (λ (l : List Tok). s.a ++ l) comma ∙ sym (append_assoc s.a (mark M.Comma ∷ r.a) c.0.1) in
                moved (λ x a. IsMembers a x) (b.0.0 ∷ c.0.0.0, c.0.0.1, c.0.0.2) m (s.a ++ mark M.Comma ∷ r.a) ts c.0.1 rest all (g.more_fields d s.a r.a b.0.0 c.0.0.0 c.0.0.1 c.0.0.2 s.good r.good) c.2
            | inr q ↦ moved (λ x a. IsMembers a x) (b.0.0 ∷ [], None, false) m s.a ts b.0.1 rest s.is (g.last_field d s.a b.0.0 s.good) q.1
          ]
    ]
  ]

  record_sound : (ts : List Tok) (t : TemplateSyntax) (rest : List Tok) → record_at T ts ≡ here t rest → Front (λ a. Part (suc d) a t) (mark M.CurlyOpen ∷ ts) rest
  unfolding record_at
  record_sound ts t rest e = elim (chosen (begins M.CurlyClose ts) _ _ (here t rest) e) [
    | inl p ↦ moved (λ x a. Part (suc d) a x) (template.record_of (fields_of []) (choice_of None) false) t (mark M.CurlyOpen ∷ mark M.CurlyClose ∷ []) (mark M.CurlyOpen ∷ ts) (drop 1 ts) rest (ap (λ (l : List Tok). mark M.CurlyOpen ∷ l) (begins_is M.CurlyClose ts p.0)) (g.no_members d) p.1
    | inr p ↦
        let b = bind_some (members_at T (length ts) ts) _ (t, rest) p.1 in
        let s = members_sound (length ts) ts b.0.0 b.0.1 b.1 in
        let c = bind_some (behind M.CurlyClose b.0.1) _ (t, rest) b.2 in
        let all = ap (λ (l : List Tok). mark M.CurlyOpen ∷ l) (then_mark s.a ts b.0.1 c.0 M.CurlyClose s.is (behind_is M.CurlyClose b.0.1 c.0 c.1)) in
        moved (λ x a. Part (suc d) a x) (template.record_of (fields_of b.0.0.0) (choice_of b.0.0.1) b.0.0.2) t (mark M.CurlyOpen ∷ (s.a ++ mark M.CurlyClose ∷ [])) (mark M.CurlyOpen ∷ ts) c.0 rest all (g.members d s.a b.0.0.0 b.0.0.1 b.0.0.2 s.good) c.2
  ]

  module _ (P : Reader TemplateSyntax) (psound : Sound P (Part d)) where
    list_sound : (ts : List Tok) (t : TemplateSyntax) (rest : List Tok) → (P ts >>= λ p. Some (template.list p.0, p.1)) ≡ here t rest → Front (λ a. Part (suc d) a t) (mark M.List ∷ ts) rest
    list_sound ts t rest e =
        let b = bind_some (P ts) _ (t, rest) e in
        let s = psound ts b.0.0 b.0.1 b.1 in
        moved (λ x a. Part (suc d) a x) (template.list b.0.0) t (mark M.List ∷ s.a) (mark M.List ∷ ts) b.0.1 rest (ap (λ (l : List Tok). mark M.List ∷ l) s.is) (g.list d s.a b.0.0 s.good) b.2

    brackets_sound : (ts : List Tok) (t : TemplateSyntax) (rest : List Tok) → (T ts >>= λ t. behind M.Close t.1 >>= λ rest. Some (t.0, rest)) ≡ here t rest → Front (λ a. Part (suc d) a t) (mark M.Open ∷ ts) rest
    brackets_sound ts t rest e =
        let b = bind_some (T ts) _ (t, rest) e in
        let s = tsound ts b.0.0 b.0.1 b.1 in
        let c = bind_some (behind M.Close b.0.1) _ (t, rest) b.2 in
        let all = ap (λ (l : List Tok). mark M.Open ∷ l) (then_mark s.a ts b.0.1 c.0 M.Close s.is (behind_is M.Close b.0.1 c.0 c.1)) in
        moved (λ x a. Part (suc d) a x) b.0.0 t (mark M.Open ∷ (s.a ++ mark M.Close ∷ [])) (mark M.Open ∷ ts) c.0 rest all (g.brackets d s.a b.0.0 s.good) c.2

    -- what is said of a mark and the tokens behind it, of the tokens
    at_mark : (m : Mark) (t : TemplateSyntax) (ts rest : List Tok) → begins m ts ≡ true → Front (λ a. Part (suc d) a t) (mark m ∷ drop 1 ts) rest → Front (λ a. Part (suc d) a t) ts rest
    at_mark m t ts rest h f = record { a = f.a; is = begins_is m ts h ∙ f.is; good = f.good }

    compound_sound : Sound (compound_at P T) (Part (suc d))
    unfolding compound_at
    compound_sound ts t rest e = elim (chosen (begins M.Any ts) _ _ (here t rest) e) [
      | inl p ↦ moved (λ x a. Part (suc d) a x) template.any t (mark M.Any ∷ []) ts (drop 1 ts) rest (begins_is M.Any ts p.0) (g.any d) p.1
      | inr no_any ↦ elim (chosen (begins M.List ts) _ _ (here t rest) no_any.1) [
        | inl p ↦ at_mark M.List t ts rest p.0 (list_sound (drop 1 ts) t rest p.1)
        | inr no_list ↦ elim (chosen (begins M.CurlyOpen ts) _ _ (here t rest) no_list.1) [
          | inl p ↦ at_mark M.CurlyOpen t ts rest p.0 (record_sound (drop 1 ts) t rest p.1)
          | inr no_record ↦ elim (chosen (begins M.Open ts) _ _ (here t rest) no_record.1) [
            | inl p ↦ at_mark M.Open t ts rest p.0 (brackets_sound (drop 1 ts) t rest p.1)
            | inr p ↦
                let n = bind_some (name_at ts) _ (t, rest) p.1 in
                moved (λ x a. Part (suc d) a x) (template.point n.0.0) t (name n.0.0 ∷ []) ts n.0.1 rest (name_is ts n.0.0 n.0.1 n.1) (g.point d n.0.0) n.2
          ]
        ]
      ]
    ]

    with_sound : Sound (part_with P T) (Part (suc d))
    with_sound ts t rest e = elim (one_of (first_kind ts) _ _ (here t rest) e) [
      | inl p ↦
          let w = kind_is ts p.0 p.1 in
          moved (λ x a. Part (suc d) a x) (template.leaf p.0) t (mark w.0 ∷ []) ts (drop 1 ts) rest w.2 (g.a_kind d w.0 p.0 w.1) p.2
      | inr p ↦ compound_sound ts t rest p
    ]

    sum_sound : (ts : List Tok) (t : TemplateSyntax) (rest : List Tok) → (part_with P T ts >>= or_with T) ≡ here t rest → Front (λ a. Template (suc d) a t) ts rest
    sum_sound ts t rest e =
        let b = bind_some (part_with P T ts) (or_with T) (t, rest) e in
        let s = with_sound ts b.0.0 b.0.1 b.1 in
        elim (chosen (begins M.Or b.0.1) _ _ (here t rest) b.2) [
          | inl p ↦
              let c = bind_some (T (drop 1 b.0.1)) _ (t, rest) p.1 in
              let r = tsound (drop 1 b.0.1) c.0.0 c.0.1 c.1 in
              let or : b.0.1 ≡ mark M.Or ∷ (r.a ++ c.0.1) = begins_is M.Or b.0.1 p.0 ∙ ap (λ (l : List Tok). mark M.Or ∷ l) r.is in
              let all : ts ≡ (s.a ++ mark M.Or ∷ r.a) ++ c.0.1 = s.is ∙ ap (λ (l : List Tok). s.a ++ l) or ∙ sym (append_assoc s.a (mark M.Or ∷ r.a) c.0.1) in
              moved (λ x a. Template (suc d) a x) (template.sum b.0.0 c.0.0) t (s.a ++ mark M.Or ∷ r.a) ts c.0.1 rest all (g.or d s.a r.a b.0.0 c.0.0 s.good r.good) c.2
          | inr p ↦ moved (λ x a. Template (suc d) a x) b.0.0 t s.a ts b.0.1 rest s.is (g.part (suc d) s.a b.0.0 s.good) p.1
        ]

mutual
  unfolding part_at

  pub part_sound : (d : ℕ) → Sound (part_at d) (Part d)
  part_sound zero ts t rest e = absurd cc
  part_sound (suc d) ts t rest e = with_sound d (template_at d) (template_sound d) (part_at d) (part_sound d) ts t rest e

  pub template_sound : (d : ℕ) → Sound (template_at d) (Template d)
  template_sound zero ts t rest e = absurd cc
  template_sound (suc d) ts t rest e = sum_sound d (template_at d) (template_sound d) (part_at d) (part_sound d) ts t rest e
