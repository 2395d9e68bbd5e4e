-- The test of templates passes exactly at equal ones.
use Rattle.std.proofs.Common.{◌≡◌, ◌↔◌, Bool, true, false, refl, sym, ap, subst, ◌∙◌, arith}
use Rattle.std.specs.Prelude.{IsTrue, ◌&&◌}
use Rattle.mig_model.specs.declared.presence.Presence.{Presence}
use Rattle.mig_model.specs.declared.rest.Rest.{Rest}
use Rattle.mig_model.specs.Template.{Template, leaf, any, list, point, rec, sum, Fields, no_field, field, Choice, no_choice, choice, Cases, no_case, case}
use Rattle.mig_model.specs.Names.{same_name}
use Rattle.mig_field.specs.SameTemplate.{same_presence, same_rest, same_kept, same_template, same_fields, same_choice, same_cases}
use Rattle.mig_model.proofs.Bools.{split_and}
use Rattle.mig_model.proofs.SameNames.{same_name_is, same_name_itself, same_kind_is, same_kind_itself}

presence_is : (p q : Presence) → same_presence p q ≡ true → p ≡ q
presence_is p q h = grind arith

rest_is : (r s : Rest) → same_rest r s ≡ true → r ≡ s
rest_is r s h = grind arith

kept_is : (k l : Bool) → same_kept k l ≡ true → k ≡ l
kept_is k l h = grind arith

mutual
  pub same_is : (V W : Template) → same_template V W ≡ true → V ≡ W
  same_is (leaf a) (leaf b) h = ap (λ k. leaf k) (same_kind_is a b h)
  same_is any any h = refl
  same_is (list V) (list W) h = ap (λ X. list X) (same_is V W h)
  same_is (point m) (point n) h = ap (λ k. point k) (same_name_is m n h)
  same_is (rec fs c r) (rec gs d s) h =
      let a = split_and (same_fields fs gs) (same_choice c d && same_rest r s) h in
      let b = split_and (same_choice c d) (same_rest r s) a.1 in
      λ i. rec (fields_is fs gs a.0 i) (choice_is c d b.0 i) (rest_is r s b.1 i)
  same_is (sum V W) (sum X Y) h =
      let a = split_and (same_template V X) (same_template W Y) h in
      λ i. sum (same_is V X a.0 i) (same_is W Y a.1 i)
  same_is V W h = cc

  fields_is : (fs gs : Fields) → same_fields fs gs ≡ true → fs ≡ gs
  fields_is no_field no_field h = refl
  fields_is (field x p V fs) (field y q W gs) h =
      let a = split_and (same_name x y) (same_presence p q && (same_template V W && same_fields fs gs)) h in
      let b = split_and (same_presence p q) (same_template V W && same_fields fs gs) a.1 in
      let c = split_and (same_template V W) (same_fields fs gs) b.1 in
      λ i. field (same_name_is x y a.0 i) (presence_is p q b.0 i) (same_is V W c.0 i) (fields_is fs gs c.1 i)
  fields_is fs gs h = cc

  choice_is : (c d : Choice) → same_choice c d ≡ true → c ≡ d
  choice_is no_choice no_choice h = refl
  choice_is (choice m cs k) (choice n ds l) h =
      let a = split_and (same_name m n) (same_cases cs ds && same_kept k l) h in
      let b = split_and (same_cases cs ds) (same_kept k l) a.1 in
      λ i. choice (same_name_is m n a.0 i) (cases_is cs ds b.0 i) (kept_is k l b.1 i)
  choice_is c d h = cc

  cases_is : (cs ds : Cases) → same_cases cs ds ≡ true → cs ≡ ds
  cases_is no_case no_case h = refl
  cases_is (case l fs cs) (case m gs ds) h =
      let a = split_and (same_name l m) (same_fields fs gs && same_cases cs ds) h in
      let b = split_and (same_fields fs gs) (same_cases cs ds) a.1 in
      λ i. case (same_name_is l m a.0 i) (fields_is fs gs b.0 i) (cases_is cs ds b.1 i)
  cases_is cs ds h = cc

-- ---- at itself
presence_itself : (p : Presence) → same_presence p p ≡ true
presence_itself p = grind arith

rest_itself : (r : Rest) → same_rest r r ≡ true
rest_itself r = grind arith

kept_itself : (k : Bool) → same_kept k k ≡ true
kept_itself k = grind arith

mutual
  pub itself : (V : Template) → same_template V V ≡ true
  itself (leaf k) = same_kind_itself k
  itself any = refl
  itself (list V) = itself V
  itself (point n) = same_name_itself n
  itself (rec fs c r) = λ i. fields_itself fs i && (choice_itself c i && rest_itself r i)
  itself (sum V W) = λ i. itself V i && itself W i

  fields_itself : (fs : Fields) → same_fields fs fs ≡ true
  fields_itself no_field = refl
  fields_itself (field x p V fs) = λ i. same_name_itself x i && (presence_itself p i && (itself V i && fields_itself fs i))

  choice_itself : (c : Choice) → same_choice c c ≡ true
  choice_itself no_choice = refl
  choice_itself (choice m cs k) = λ i. same_name_itself m i && (cases_itself cs i && kept_itself k i)

  cases_itself : (cs : Cases) → same_cases cs cs ≡ true
  cases_itself no_case = refl
  cases_itself (case l fs cs) = λ i. same_name_itself l i && (fields_itself fs i && cases_itself cs i)

pub told : (b : Bool) (V W : Template) → (IsTrue b ↔ (V ≡ W)) → b ≡ same_template V W
told true V W h = sym (ap (same_template V) (sym (h.0 refl)) ∙ itself V)
told false V W h = let same = same_is V W in let apart = h.1 in grind (arith, same, apart)

pub decides : (V W : Template) → IsTrue (same_template V W) ↔ (V ≡ W)
decides V W = (same_is V W, λ e. subst (λ X. same_template V X ≡ true) e (itself V))
