-- The laws, proved directly on trees and name by name: a map and the same map treated go through each function side by side.
use Rattle.std.proofs.Common.{◌≡◌, ℕ, List, Bool, true, false, true≢false, Option, Some, None, refl, sym, ap, subst, ◌∙◌, arith}
use Rattle.std.specs.Prelude.{◌||◌, is_some}
use Rattle.mig_model.specs.declared.form.Form.{Form}
use Rattle.mig_model.specs.declared.kind.Kind.TheVariants as K
use Rattle.mig_model.specs.declared.presence.Presence.TheVariants.{Must}
use Rattle.mig_model.specs.Plain as plain
use Rattle.mig_model.specs.Plain.{Plain, Pairs, no_pair, pair, pairs_of, entries, on_entries}
use Rattle.mig_model.specs.Kinds.{entries_of_pairs}
use Rattle.mig_model.specs.Names.{Ascends, under, has, same_name}
use Rattle.mig_model.specs.Template.{leaf, Field}
use Rattle.mig_model.specs.Family.{has_point}
use Rattle.mig_model.specs.Inhabits.{Entries, Fits, Inhabits}
use Rattle.mig_model.specs.Fields.{if_so}
use Rattle.mig_model.proofs.Bools.{both_false}
use Rattle.mig_model.specs.Record.{RecordParts, Cases, IsRecord, record_of}
use Rattle.mig_fold.proofs.Treats.{Treatment}
use Rattle.mig_field.specs.FieldFn.{FieldOp, forget, FieldFn}
use Rattle.mig_field.specs.NewRecord.{FieldType, is_tag, new_record}
use Rattle.mig_field.specs.Act.{act}
use Rattle.mig_model.proofs.Edits.{first, same_under}
use Rattle.mig_model.proofs.Options.{none-there}
use Rattle.mig_action.proofs.Stands.{case_of}
use Rattle.mig_action.proofs.Distinct.{distinct_of}
use Rattle.mig_field_laws.specs.Laws.{fields_in, forgets_point, named_case, tagged_fields, is_known, UnknownsFormed, Passes, NamesAscend, Anything, OrderStays, CountsStay, FormStays, NamesStay, TypesStay, TestsStay, TreatingCommutes}
use Rattle.mig_field_laws.proofs.Stays.{stays}
use Rattle.mig_field_laws.proofs.Places.{tagged, tag_place, place, HasTag, treated, under_treated, Whole, fits_stand, stand_fits}
use Rattle.mig_field_laws.proofs.Nests.{ascends-each}
use Rattle.mig_field_laws.proofs.Steps.{Idle}
use Rattle.mig_field_laws.proofs.Sums.{Weight}
use Rattle.mig_field_laws.proofs.Tallies.{tallied, tallied_is}
use Rattle.mig_field_laws.proofs.Ascending.{act_ascends}
use Rattle.mig_field_laws.proofs.Forms.{Formed, formed, all_formed, places_right}
use Rattle.mig_field_laws.proofs.Records.{Both}
use Rattle.mig_field_laws.proofs.NewRecords.{new_record_is}
use Rattle.mig_field_laws.proofs.KeptRecords.{kept_record}
use Rattle.mig_field_laws.proofs.Whole.{acted}

nothing : Weight
nothing n t = 0

-- what a field that is forgotten needs
idle_if_still : (form : Form) (h : Treatment) (op : FieldOp) (fs : List Field) → forgets_point op fs ≡ false → Idle form h op fs
idle_if_still form h (forget x) fs e = λ f there t. stays form h f.1 (λ k. absurd (let points = has_point f.1 in cc)) t
idle_if_still form h op fs e = tt

idle_if_nothing : (form : Form) (op : FieldOp) (fs : List Field) → Idle form (λ n t. t) op fs
idle_if_nothing form (forget x) fs = λ f there t. stays form (λ n u. u) f.1 (λ k n u. refl) t
idle_if_nothing form op fs = tt

module _ (form : Form) (P : List ℕ → Plain → Type 0) (w : Bool) (h : Treatment) (weight : Weight) (Z : Type 0) where
  -- a map that inhabits the record, and the same treated
  begun : (p : RecordParts) (es : Entries) → Ascends es → (w ≡ true → Z → Formed form es) → Whole form P p es
      → (s : List ℕ) × Both form P w h weight (tallied form weight p es) Z p s es (treated form h p es)
  begun p es a m x =
      let st = fits_stand form P p es x in (
        st.0,
        record {
          formed = λ y v right. m y v;
          light = (let e = tallied_is form weight p st.0 es st.1.tag in omega (arith, e));
          tag = st.1.tag;
          literal = st.1.literal;
          ascend = a;
          also = ascends-each _ es a;
          at = λ n. (λ y. st.1.at n, under_treated form h p st.0 es st.1.tag n);
        },
      )

  -- after the function the one is still the other treated
  ended : (limit : ℕ) (r : RecordParts) (s : List ℕ) (es ts : Entries) → Both form P w h weight limit Z r s es ts → treated form h r es ≡ ts
  ended limit r s es ts b = same_under (treated form h r es) ts (ascends-each _ es b.ascend) b.also (λ n. under_treated form h r s es b.tag n ∙ sym (b.at n).1)

-- a name of which the record knows nothing
unknown_there : (p : RecordParts) (s : List ℕ) (es : Entries) (n : List ℕ) → HasTag p.choice s es → place p s n ≡ None → is_known p es n ≡ false
unknown_there p s es n k e = by p.choice k e
  where
    none : (F D : Option FieldType) → first F D ≡ None → (is_some F ≡ false) × (is_some D ≡ false)
    none None D q = (refl, ap is_some q)
    none (Some f) D q = cc

    by : (c : Option Cases) → HasTag c s es → first (tag_place c n) (first (under n p.fields) (under n (case_of c (tagged s)))) ≡ None
        → (has n p.fields || (is_tag n c || has n (tagged_fields c es))) ≡ false
    by None t q = let both = none (under n p.fields) None q in both_false (has n p.fields) false both.0 refl
    by (Some c) t q =
        let tag = none (if_so (same_name n c.0) (Must, leaf K.Text)) (first (under n p.fields) (under n (case_of (Some c) (tagged s)))) q in
        let no_tag : same_name n c.0 ≡ false = is_not (same_name n c.0) tag.0 in
        let both = none (under n p.fields) (under n (case_of (Some c) (tagged s))) (none_of (under n p.fields) tag.1) in
        both_false (has n p.fields) (same_name n c.0 || has n (tagged_fields (Some c) es)) both.0
        (both_false (same_name n c.0) (has n (tagged_fields (Some c) es)) no_tag (ap (λ (u : Option Plain). has n (named_case u c.1)) t ∙ both.1))
      where
        is_not : (b : Bool) → is_some {T = FieldType} (if_so b (Must, leaf K.Text)) ≡ false → b ≡ false
        is_not true x = cc
        is_not false x = refl

        none_of : (F : Option FieldType) → is_some (first F (under n (case_of (Some c) (tagged s)))) ≡ false → first F (under n (case_of (Some c) (tagged s))) ≡ None
        none_of F x = none-there (first F (under n (case_of (Some c) (tagged s)))) x

-- types stay, whatever is asked at points
pub types_stay_at : (f : FieldFn) (p r : RecordParts) → new_record f p ≡ Some r → IsRecord p.fields p.choice → (form : Form) (P : List ℕ → Plain → Type 0) (t : Plain) → Fits form P (record_of p) t
    → NamesAscend t → UnknownsFormed form p t
    → Fits form P (record_of r) (on_entries (act f p) t)
types_stay_at f p r e i form P (plain.map ps) x a m =
    let es : Entries = entries ps in
    let b = begun form P true (λ n t. t) nothing ⊥ p es a (λ y z. absurd z) x in
    let d = acted form P true (λ n t. t) nothing (tallied form nothing p es) ⊥ f p r i b.0 es (treated form (λ n t. t) p es) b.1 (λ y n t k q. m n t (unknown_there p b.0 es n b.1.tag k) q)
    (λ y z. absurd z) e (idle_if_nothing form f.op (fields_in f.scope p)) in
    subst (Whole form P r) (sym (entries_of_pairs (act f p es)))
    (stand_fits form P r (act f p es) d.0 (distinct_of r (new_record_is f p r i e) (tagged d.0)) d.1.ascend (record { tag = d.1.tag; literal = d.1.literal; at = λ n. (d.1.at n).0 refl }))
types_stay_at f p r e i form P t x a m = absurd x

pub order_stays : OrderStays
order_stays f p r e k b = kept_record f p r e k b

pub types_stay : TypesStay
types_stay f p r e i form body t x a m = types_stay_at f p r e i form (Inhabits form body) t x a m

pub tests_stay : TestsStay
tests_stay f p r e i form test t x a m = types_stay_at f p r e i form (Passes test) t x a m

pub treating_commutes : TreatingCommutes
treating_commutes f p r e i still form h (plain.map ps) x a =
    let es : Entries = entries ps in
    let b = begun form Anything false h nothing ⊥ p es a (λ y z. absurd z) x in
    let d = acted form Anything false h nothing (tallied form nothing p es) ⊥ f p r i b.0 es (treated form h p es) b.1 (λ y n t k q. absurd (true≢false (sym y))) (λ y z. absurd z) e
    (idle_if_still form h f.op (fields_in f.scope p) (grind (arith, still))) in
    ap (λ l. plain.map (pairs_of l))
    (ap (treated form h r) (entries_of_pairs (act f p es)) ∙
    (ended form Anything false h nothing ⊥ (tallied form nothing p es) r d.0 (act f p es) (act f p (treated form h p es)) d.1 ∙ ap (act f p) (sym (entries_of_pairs (treated form h p es)))))
treating_commutes f p r e i still form h t x a = absurd x

pub counts_stay : CountsStay
counts_stay f p r e i form h (plain.map ps) x a =
    let es : Entries = entries ps in
    let b = begun form Anything false (λ n t. t) h ⊥ p es a (λ y z. absurd z) x in
    let d = acted form Anything false (λ n t. t) h (tallied form h p es) ⊥ f p r i b.0 es (treated form (λ n t. t) p es) b.1 (λ y n t k q. absurd (true≢false (sym y))) (λ y z. absurd z) e
    (idle_if_nothing form f.op (fields_in f.scope p)) in
    let whole = ap (tallied form h r) (entries_of_pairs (act f p es)) ∙ tallied_is form h r d.0 (act f p es) d.1.tag in
    let most = d.1.light in
    omega (arith, whole, most)
counts_stay f p r e i form h t x a = absurd x

pub names_stay : NamesStay
names_stay f p (plain.map ps) a = subst (λ (l : Entries). Ascends l) (sym (entries_of_pairs (act f p (entries ps)))) (act_ascends f p (entries ps) a)
names_stay f p t a = absurd a

pub form_stays : FormStays
form_stays f p r e i form (plain.map ps) x a m right =
    let es : Entries = entries ps in
    let b = begun form Anything true (λ n t. t) nothing (Unit {0}) p es a (λ y z. formed form ps m) x in
    let d = acted form Anything true (λ n t. t) nothing (tallied form nothing p es) (Unit {0}) f p r i b.0 es (treated form (λ n t. t) p es) b.1 (λ y n t k q. formed form ps m n t q)
    (λ y z. formed form ps m) e (idle_if_nothing form f.op (fields_in f.scope p)) in
    all_formed form (act f p es) d.1.ascend (d.1.formed refl tt (places_right form r right d.0))
form_stays f p r e i form t x a m right = absurd x
