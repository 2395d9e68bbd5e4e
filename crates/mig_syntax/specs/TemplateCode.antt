-- The syntax of a template as a stored value, so that a struct may have it as its value.
use Rattle.std.specs.Prelude.{List, ◌≡◌, refl}
use Rattle.std.specs.Coded.{Coded, coded_list, coded_bool, coded×}
use Rattle.std.proofs.Common.{ap, ap₂, arith}
use base.Stored.{Gv, gnil, gnum, gcons, num}
use Rattle.mig_model.specs.Stored.{head, tail, coded_name, coded_kind}
use Rattle.mig_syntax.specs.TemplateSyntax.{TemplateSyntax, leaf, any, list, record_of, point, sum, FieldsSyntax, no_field, field, FieldSyntax, ChoiceSyntax, no_choice, choice, CasesSyntax, no_case, case, CasesOfTag}

-- the first of two values behind the number of a case, and the second
abbrev pub one : Gv → Gv
one g = head (tail g)

abbrev pub other : Gv → Gv
other g = tail (tail g)

abbrev mutual
  pub code_template : TemplateSyntax → Gv
  code_template (leaf k) = gcons (gnum 0) (coded_kind.code k)
  code_template any = gcons (gnum 1) gnil
  code_template (list t) = gcons (gnum 2) (code_template t)
  code_template (record_of fs c dots) = gcons (gnum 3) (gcons (coded_bool.code dots) (gcons (code_fields fs) (code_choice c)))
  code_template (point n) = gcons (gnum 4) (coded_name.code n)
  code_template (sum s t) = gcons (gnum 5) (gcons (code_template s) (code_template t))

  pub code_fields : FieldsSyntax → Gv
  code_fields no_field = gnil
  code_fields (field n may t fs) = gcons (gcons (coded_name.code n) (gcons (coded_bool.code may) (code_template t))) (code_fields fs)

  pub code_choice : ChoiceSyntax → Gv
  code_choice no_choice = gnil
  code_choice (choice n cs kept) = gcons (coded_name.code n) (gcons (coded_bool.code kept) (code_cases cs))

  pub code_cases : CasesSyntax → Gv
  code_cases no_case = gnil
  code_cases (case l fs cs) = gcons (gcons (coded_name.code l) (code_fields fs)) (code_cases cs)

mutual
  pub inj_template : (x y : TemplateSyntax) → code_template x ≡ code_template y → x ≡ y
  inj_template (leaf a) (leaf b) p = ap leaf (coded_kind.inj a b (ap tail p))
  inj_template any any p = refl
  inj_template (list a) (list b) p = ap list (inj_template a b (ap tail p))
  inj_template (record_of a u c) (record_of b v d) p =
      let same_fields : a ≡ b = inj_fields a b (ap (λ g. head (tail (tail g))) p) in
      let same_choice : u ≡ v = inj_choice u v (ap (λ g. tail (tail (tail g))) p) in
      let same_dots : c ≡ d = coded_bool.inj c d (ap one p) in
      cc
  inj_template (sum a b) (sum c d) p = ap₂ sum (inj_template a c (ap one p)) (inj_template b d (ap other p))
  inj_template (point a) (point b) p = ap point (coded_name.inj a b (ap tail p))
  inj_template x y p =
      let e : num (head (code_template x)) ≡ num (head (code_template y)) = ap (λ g. num (head g)) p in
      absurd (omega arith)

  pub inj_fields : (x y : FieldsSyntax) → code_fields x ≡ code_fields y → x ≡ y
  inj_fields no_field no_field p = refl
  inj_fields (field k m a fs) (field l n b gs) p =
      let same_name : k ≡ l = coded_name.inj k l (ap (λ g. head (head g)) p) in
      let same_may : m ≡ n = coded_bool.inj m n (ap (λ g. head (tail (head g))) p) in
      let same_template : a ≡ b = inj_template a b (ap (λ g. tail (tail (head g))) p) in
      let same_fields : fs ≡ gs = inj_fields fs gs (ap tail p) in
      cc
  inj_fields _ _ p = cc

  pub inj_choice : (x y : ChoiceSyntax) → code_choice x ≡ code_choice y → x ≡ y
  inj_choice no_choice no_choice p = refl
  inj_choice (choice n cs a) (choice m ds b) p =
      let same_tag : n ≡ m = coded_name.inj n m (ap head p) in
      let same_cases : cs ≡ ds = inj_cases cs ds (ap other p) in
      let same_kept : a ≡ b = coded_bool.inj a b (ap one p) in
      cc
  inj_choice _ _ p = cc

  pub inj_cases : (x y : CasesSyntax) → code_cases x ≡ code_cases y → x ≡ y
  inj_cases no_case no_case p = refl
  inj_cases (case l fs cs) (case m gs ds) p =
      let same_literal : l ≡ m = coded_name.inj l m (ap (λ g. head (head g)) p) in
      let same_fields : fs ≡ gs = inj_fields fs gs (ap (λ g. tail (head g)) p) in
      let same_cases : cs ≡ ds = inj_cases cs ds (ap tail p) in
      cc
  inj_cases _ _ p = cc

abbrev pub coded_template : Coded TemplateSyntax
coded_template = record { code = code_template; inj = inj_template }

abbrev pub coded_field_list : Coded (List FieldSyntax)
coded_field_list = coded_list (coded× coded_name (coded× coded_bool coded_template))

abbrev pub coded_cases_of_tag : Coded CasesOfTag
coded_cases_of_tag = coded× coded_name (coded× (coded_list (coded× coded_name coded_field_list)) coded_bool)
