-- Templates as stored values, so that a struct may have them as its value.
use Rattle.std.specs.Prelude.{ℕ, List, ◌≡◌, refl, Option, Bool, true, false}
use Rattle.std.specs.Coded.{Coded, code_by, coded_list, coded_bool, coded_option, coded×}
use Rattle.std.proofs.Common.{ap, ap₂, arith}
use base.Stored.{Gv, gnil, gnum, gcons, num}
use Rattle.mig_model.specs.declared.presence.Presence.{Presence}
use Rattle.mig_model.specs.declared.presence.Presence.TheVariants.{Must, May}
use Rattle.mig_model.specs.declared.rest.Rest.{Rest}
use Rattle.mig_model.specs.declared.rest.Rest.TheVariants.{Open, Closed}
use Rattle.mig_model.specs.Stored.{head, tail, coded_name, coded_kind}
use Rattle.mig_model.specs.Template.{Template, leaf, any, list, point, rec, sum, Fields, no_field, field, Choice, no_choice, choice, Cases, no_case, case, Field, is_must, is_open}
use Rattle.mig_model.specs.Record as parts
use Rattle.mig_model.specs.Record.{RecordParts}

abbrev presence_from : Bool → Presence
presence_from true = Must
presence_from false = May

pub presence_again : (p : Presence) → presence_from (is_must p) ≡ p
presence_again Must = refl
presence_again May = refl

abbrev pub coded_presence : Coded Presence
coded_presence = code_by Bool coded_bool is_must presence_from presence_again

abbrev rest_from : Bool → Rest
rest_from true = Open
rest_from false = Closed

pub rest_again : (r : Rest) → rest_from (is_open r) ≡ r
rest_again Open = refl
rest_again Closed = refl

abbrev pub coded_rest : Coded Rest
coded_rest = code_by Bool coded_bool is_open rest_from rest_again

abbrev mutual
  pub code_template : Template → Gv
  code_template (leaf k) = gcons (gnum 0) (coded_kind.code k)
  code_template any = gcons (gnum 1) gnil
  code_template (list V) = gcons (gnum 2) (code_template V)
  code_template (point n) = gcons (gnum 3) (coded_name.code n)
  code_template (rec fs c r) = gcons (gnum 4) (gcons (code_fields fs) (gcons (code_choice c) (coded_rest.code r)))
  code_template (sum V W) = gcons (gnum 5) (gcons (code_template V) (code_template W))

  pub code_fields : Fields → Gv
  code_fields no_field = gnil
  code_fields (field x p V fs) = gcons (gcons (coded_name.code x) (gcons (coded_presence.code p) (code_template V))) (code_fields fs)

  pub code_choice : Choice → Gv
  code_choice no_choice = gnil
  code_choice (choice tag cs kept) = gcons (coded_name.code tag) (gcons (code_cases cs) (coded_bool.code kept))

  pub code_cases : Cases → Gv
  code_cases no_case = gnil
  code_cases (case l fs cs) = gcons (gcons (coded_name.code l) (code_fields fs)) (code_cases cs)

mutual
  pub inj_template : (x y : Template) → code_template x ≡ code_template y → x ≡ y
  inj_template (leaf a) (leaf b) p = ap leaf (coded_kind.inj a b (ap tail p))
  inj_template any any p = refl
  inj_template (list a) (list b) p = ap list (inj_template a b (ap tail p))
  inj_template (point a) (point b) p = ap point (coded_name.inj a b (ap tail p))
  inj_template (rec fs c r) (rec gs d s) p =
      let same_fields : fs ≡ gs = inj_fields fs gs (ap (λ g. head (tail g)) p) in
      let same_choice : c ≡ d = inj_choice c d (ap (λ g. head (tail (tail g))) p) in
      let same_rest : r ≡ s = coded_rest.inj r s (ap (λ g. tail (tail (tail g))) p) in
      cc
  inj_template (sum a b) (sum c d) p = ap₂ sum (inj_template a c (ap (λ g. head (tail g)) p)) (inj_template b d (ap (λ g. tail (tail g)) p))
  inj_template x y p =
      let e : num (head (code_template x)) ≡ num (head (code_template y)) = ap (λ g. num (head g)) p in
      absurd (omega arith)

  pub inj_fields : (x y : Fields) → code_fields x ≡ code_fields y → x ≡ y
  inj_fields no_field no_field p = refl
  inj_fields (field k m a fs) (field l n b gs) p =
      let same_name : k ≡ l = coded_name.inj k l (ap (λ g. head (head g)) p) in
      let same_presence : m ≡ n = coded_presence.inj m n (ap (λ g. head (tail (head g))) p) in
      let same_template : a ≡ b = inj_template a b (ap (λ g. tail (tail (head g))) p) in
      let same_fields : fs ≡ gs = inj_fields fs gs (ap tail p) in
      cc
  inj_fields _ _ p = cc

  pub inj_choice : (x y : Choice) → code_choice x ≡ code_choice y → x ≡ y
  inj_choice no_choice no_choice p = refl
  inj_choice (choice k cs a) (choice l ds b) p =
      let same_tag : k ≡ l = coded_name.inj k l (ap head p) in
      let same_cases : cs ≡ ds = inj_cases cs ds (ap (λ g. head (tail g)) p) in
      let same_kept : a ≡ b = coded_bool.inj a b (ap (λ g. tail (tail g)) p) in
      cc
  inj_choice _ _ p = cc

  pub inj_cases : (x y : Cases) → code_cases x ≡ code_cases y → x ≡ y
  inj_cases no_case no_case p = refl
  inj_cases (case k fs cs) (case l gs ds) p =
      let same_literal : k ≡ l = coded_name.inj k l (ap (λ g. head (head g)) p) in
      let same_fields : fs ≡ gs = inj_fields fs gs (ap (λ g. tail (head g)) p) in
      let same_cases : cs ≡ ds = inj_cases cs ds (ap tail p) in
      cc
  inj_cases _ _ p = cc

abbrev pub coded_template : Coded Template
coded_template = record { code = code_template; inj = inj_template }

abbrev pub coded_fields : Coded (List Field)
coded_fields = coded_list (coded× coded_name (coded× coded_presence coded_template))

abbrev pub coded_choice : Coded parts.Cases
coded_choice =
    code_by (List ℕ × (List parts.Case × Bool)) (coded× coded_name (coded× (coded_list (coded× coded_name coded_fields)) coded_bool)) (λ c. (c.0, (c.1, c.2)))
    (λ t. (t.0, t.1.0, t.1.1)) (λ _. refl)

abbrev pub coded_record : Coded RecordParts
coded_record =
    code_by (List Field × (Option parts.Cases × Rest)) (coded× coded_fields (coded× (coded_option coded_choice) coded_rest)) (λ p. (p.fields, (p.choice, p.rest)))
    (λ t. record { fields = t.0; choice = t.1.0; rest = t.1.1 }) (λ _. refl)
