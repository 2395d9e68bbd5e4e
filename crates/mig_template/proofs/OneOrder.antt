-- Fields and cases have one order in which their names ascend, so a record is determined by its parts, whatever the order in which they are given.
use Rattle.std.proofs.Common.{◌≡◌, ℕ, zero, suc, ◌<◌, ◌⊎◌, inl, inr, List, [], ◌∷◌, Option, Some, None, length, get_or, refl, sym, ap, subst, ◌∙◌, arith}
use Rattle.std.specs.Prelude.{IsPermutation, Contains}
use Rattle.std.specs.Ordering.{ordering_reverse}
use Rattle.std.specs.declared.cmp.Ordering.TheVariants.{Less, Greater}
use Rattle.std.specs.List.{AllByRecursion}
use Rattle.std.specs.Map.{keys_of}
use Rattle.std.proofs.lemmas.Cmp.{nat_list_cmp_total}
use Rattle.std.proofs.lemmas.List.Sorted.{Contains-permutation, IsPermutation-sym, IsPermutation-trans}
use Rattle.std.proofs.lemmas.Map.Keys.{sorted_head, sorted_tail}
use Rattle.mig_model.specs.declared.rest.Rest.{Rest}
use Rattle.mig_model.specs.Names.{by_bytes, Ascends}
use Rattle.mig_model.specs.Template.{Field}
use Rattle.mig_model.proofs.OneOrder.{one_order}
use Rattle.mig_model.specs.Record.{Case, Cases, RecordParts, FieldsOrdered, CasesOrdered, IsChoiceOf, IsRecordOf}

fields_once : (gs ds cs : List Case) → FieldsOrdered gs ds → FieldsOrdered gs cs → ds ≡ cs
fields_once [] [] [] h k = refl
fields_once (g ∷ gs) (d ∷ ds) (c ∷ cs) h k =
    let literal : d.0 ≡ c.0 = sym h.0 ∙ k.0 in
    let fields : d.1 ≡ c.1 = one_order g.1 d.1 c.1 h.1.same k.1.same h.1.ascend k.1.ascend in
    λ i. (literal i, fields i) ∷ fields_once gs ds cs h.2 k.2 i
fields_once [] [] (c ∷ cs) h k = absurd k
fields_once (g ∷ gs) (d ∷ ds) [] h k = absurd k
fields_once _ _ cs h k = absurd h

cases_once : (gs cs bs : List Case) → CasesOrdered gs cs → CasesOrdered gs bs → cs ≡ bs
cases_once gs cs bs h k =
    let same : h.0 ≡ k.0 = fields_once gs h.0 k.0 h.1.0 k.1.0 in
    one_order h.0 cs bs h.1.1.same (subst (λ (ds : List Case). IsPermutation ds bs) (sym same) k.1.1.same) h.1.1.ascend k.1.1.ascend

choice_once : (g c b : Option Cases) → IsChoiceOf g c → IsChoiceOf g b → c ≡ b
choice_once None None None h k = refl
choice_once (Some g) (Some c) (Some b) h k =
    let tag : c.0 ≡ b.0 = sym h.0 ∙ k.0 in
    let cases : c.1 ≡ b.1 = cases_once g.1 c.1 b.1 h.1 k.1 in
    let kept : c.2 ≡ b.2 = sym h.2 ∙ k.2 in
    λ i. Some (tag i, cases i, kept i)
choice_once None None (Some b) h k = absurd k
choice_once (Some g) (Some c) None h k = absurd k
choice_once _ _ b h k = absurd h

-- common fields that are given in another order give the same record
pub one_record : (fs es : List Field) (c : Option Cases) (rest : Rest) (r s : RecordParts) → IsPermutation fs es → IsRecordOf fs c rest r → IsRecordOf es c rest s → r ≡ s
one_record fs es c rest r s p h k =
    let fields : r.fields ≡ s.fields = one_order fs r.fields s.fields h.fields.same (IsPermutation-trans fs es s.fields p k.fields.same) h.fields.ascend k.fields.ascend in
    let choice : r.choice ≡ s.choice = choice_once c r.choice s.choice h.choice k.choice in
    let rest_is : r.rest ≡ s.rest = sym h.rest_is ∙ k.rest_is in
    λ i. record { fields = fields i; choice = choice i; rest = rest_is i }
