-- The order of a record's fields and cases is that which their definition gives.
use Rattle.std.proofs.Common.{◌≡◌, ◌∙◌, ℕ, List, [], ◌∷◌, Option, Some, None, map, refl, sym, ap}
use Rattle.std.specs.Prelude.{unwrap_or}
use Rattle.mig_model.specs.declared.rest.Rest.{Rest}
use Rattle.mig_model.specs.Template as template
use Rattle.mig_model.specs.Template.{Field, fields_of}
use Rattle.mig_model.specs.Record.{Case, Cases, RecordParts, choice_of, record_of, IsOrderOf, FieldsOrdered, CasesOrdered, IsChoiceOf, IsRecordOf}
use Rattle.mig_model.proofs.Ascending.{gathered_complete}
use Rattle.mig_resolve_template.specs.Templates.{in_order, cases_in_order, choice_in_order}

in_order_is : {A : Type 0} (given es : List (List ℕ × A)) → IsOrderOf given es → in_order given ≡ es
in_order_is given es h = ap (λ o. unwrap_or o given) (gathered_complete given es h.same h.ascend)

each_in_order : (gs ds : List Case) → FieldsOrdered gs ds → map (λ (c : Case). (c.0, in_order c.1)) gs ≡ ds
each_in_order [] [] h = refl
each_in_order (g ∷ gs) (d ∷ ds) h =
    let fields : in_order g.1 ≡ d.1 = in_order_is g.1 d.1 h.1 in
    λ i. (h.0 i, fields i) ∷ each_in_order gs ds h.2 i
each_in_order _ _ h = absurd h

cases_in_order_is : (gs cs : List Case) → CasesOrdered gs cs → cases_in_order gs ≡ cs
cases_in_order_is gs cs h = ap in_order (each_in_order gs h.0 h.1.0) ∙ in_order_is h.0 cs h.1.1

choice_in_order_is : (g c : Option Cases) → IsChoiceOf g c → choice_in_order g ≡ c
choice_in_order_is None None h = refl
choice_in_order_is (Some g) (Some c) h =
    let cases : cases_in_order g.1 ≡ c.1 = cases_in_order_is g.1 c.1 h.1 in
    λ i. Some (h.0 i, cases i, h.2 i)
choice_in_order_is _ _ h = absurd h

-- the record that parts give is the one with each of them in order
pub record_is : (fs : List Field) (c : Option Cases) (rest : Rest) (r : RecordParts) → IsRecordOf fs c rest r → record_of r ≡ template.rec (fields_of (in_order fs)) (choice_of (choice_in_order c)) rest
record_is fs c rest r h =
    λ i. template.rec (fields_of (sym (in_order_is fs r.fields h.fields) i)) (choice_of (sym (choice_in_order_is c r.choice h.choice) i)) (sym h.rest_is i)
