-- Typed values as stored values, so that a struct may have them as its value.
use Rattle.std.specs.Prelude.{ℕ, List, ◌≡◌, refl, Option}
use Rattle.std.specs.Coded.{Coded, code_by, coded_list, coded_option, coded×}
use Rattle.std.proofs.Common.{ap, ap₂, arith}
use base.Stored.{Gv, gnil, gnum, gcons, num}
use Rattle.mig_model.specs.Code.{coded_plain}
use Rattle.mig_model.specs.Stored.{head, tail, coded_name}
use Rattle.mig_value.specs.Typed.{Typed, atom, list, left, right, rec, point, Items, no_item, item, Slots, no_slot, slot, Slot, Tag}
use Rattle.mig_value.specs.Parts.{RecordParts, Besides, NodeParts}

abbrev pub coded_tag : Coded (Option Tag)
coded_tag = coded_option (coded× coded_name coded_name)

abbrev mutual
  pub code_typed : Typed → Gv
  code_typed (atom t) = gcons (gnum 0) (coded_plain.code t)
  code_typed (list vs) = gcons (gnum 1) (code_items vs)
  code_typed (left v) = gcons (gnum 2) (code_typed v)
  code_typed (right v) = gcons (gnum 3) (code_typed v)
  code_typed (rec fs tag cs rs) = gcons (gnum 4) (gcons (code_slots fs) (gcons (coded_tag.code tag) (gcons (code_slots cs) (code_slots rs))))
  code_typed (point n v) = gcons (gnum 5) (gcons (coded_name.code n) (code_typed v))

  pub code_items : Items → Gv
  code_items no_item = gnil
  code_items (item v vs) = gcons (code_typed v) (code_items vs)

  pub code_slots : Slots → Gv
  code_slots no_slot = gnil
  code_slots (slot n v ss) = gcons (gcons (coded_name.code n) (code_typed v)) (code_slots ss)

mutual
  pub inj_typed : (x y : Typed) → code_typed x ≡ code_typed y → x ≡ y
  inj_typed (atom a) (atom b) p = ap atom (coded_plain.inj a b (ap tail p))
  inj_typed (list a) (list b) p = ap list (inj_items a b (ap tail p))
  inj_typed (left a) (left b) p = ap left (inj_typed a b (ap tail p))
  inj_typed (right a) (right b) p = ap right (inj_typed a b (ap tail p))
  inj_typed (rec fs t cs rs) (rec gs u ds ss) p =
      let same_fields : fs ≡ gs = inj_slots fs gs (ap (λ g. head (tail g)) p) in
      let same_tag : t ≡ u = coded_tag.inj t u (ap (λ g. head (tail (tail g))) p) in
      let same_cased : cs ≡ ds = inj_slots cs ds (ap (λ g. head (tail (tail (tail g)))) p) in
      let same_rest : rs ≡ ss = inj_slots rs ss (ap (λ g. tail (tail (tail (tail g)))) p) in
      cc
  inj_typed (point m a) (point n b) p = ap₂ point (coded_name.inj m n (ap (λ g. head (tail g)) p)) (inj_typed a b (ap (λ g. tail (tail g)) p))
  inj_typed x y p =
      let e : num (head (code_typed x)) ≡ num (head (code_typed y)) = ap (λ g. num (head g)) p in
      absurd (omega arith)

  pub inj_items : (x y : Items) → code_items x ≡ code_items y → x ≡ y
  inj_items no_item no_item p = refl
  inj_items (item a vs) (item b ws) p = ap₂ item (inj_typed a b (ap head p)) (inj_items vs ws (ap tail p))
  inj_items _ _ p = cc

  pub inj_slots : (x y : Slots) → code_slots x ≡ code_slots y → x ≡ y
  inj_slots no_slot no_slot p = refl
  inj_slots (slot m a ss) (slot n b ts) p =
      let same_name : m ≡ n = coded_name.inj m n (ap (λ g. head (head g)) p) in
      let same_value : a ≡ b = inj_typed a b (ap (λ g. tail (head g)) p) in
      let same_slots : ss ≡ ts = inj_slots ss ts (ap tail p) in
      cc
  inj_slots _ _ p = cc

abbrev pub coded_typed : Coded Typed
coded_typed = record { code = code_typed; inj = inj_typed }

abbrev pub coded_items : Coded (List Typed)
coded_items = coded_list coded_typed

abbrev pub coded_slots : Coded (List Slot)
coded_slots = coded_list (coded× coded_name coded_typed)

abbrev pub coded_node : Coded NodeParts
coded_node = coded× coded_name coded_typed

abbrev pub coded_record : Coded RecordParts
coded_record =
    code_by (List Slot × (Option Tag × (List Slot × List Slot))) (coded× coded_slots (coded× coded_tag (coded× coded_slots coded_slots))) (λ p. (p.fields, (p.tag, (p.cased, p.rest))))
    (λ t. record { fields = t.0; tag = t.1.0; cased = t.1.1.0; rest = t.1.1.1 }) (λ _. refl)

abbrev pub coded_besides : Coded Besides
coded_besides =
    code_by (Option Tag × (List Slot × List Slot)) (coded× coded_tag (coded× coded_slots coded_slots)) (λ b. (b.tag, (b.cased, b.rest))) (λ t. record { tag = t.0; cased = t.1.0; rest = t.1.1 }) (λ _. refl)
