-- The laws of field functions.
use Rattle.std.proofs.Common.{◌≡◌, ℕ, suc, List, [], ◌∷◌, true, true≢false, Some, None, refl, sym, ap, ◌∙◌, arith}
use Rattle.std.specs.Prelude.{is_some, Contains}
use Rattle.std.specs.List.{AllByRecursion}
use Rattle.mig_model.specs.Plain as plain
use Rattle.mig_model.specs.Plain.{pairs_of, entries, on_entries}
use Rattle.mig_model.specs.Record as template
use Rattle.mig_value.specs.Typed.{Typed, out, tag_pair}
use Rattle.mig_value.specs.Parts as value
use Rattle.mig_value.specs.Parts.{NodeParts, IsRecordValue}
use Rattle.mig_value.specs.Fit.{ValueFits, Fit, IsOfForm}
use Rattle.mig_model.specs.Names.{under, has}
use Rattle.mig_field.specs.NewRecord.{is_tag}
use Rattle.mig_field.specs.FieldFn.{FieldFn}
use Rattle.mig_field.specs.Act.{act}
use Rattle.mig_action.specs.Moves.{apply}
use Rattle.mig_action.specs.Nodes.{nodes_at}
use Rattle.mig_action.specs.Laws.{Applies, TreeActs, ShapeStays, FitStays, NodesStay, NoMoreNodes, PartsStay}
use Rattle.mig_action.proofs.Stands.{none_stands, stands_there, fits_stand, stand_fits, case_of}
use Rattle.mig_action.proofs.Orders.{pairs_of_record}
use Rattle.mig_action.proofs.Distinct.{distinct_of, names_once}
use Rattle.mig_action.proofs.Scopes.{Suits, Becomes, tag_under}
use Rattle.mig_action.proofs.Whole.{applied}
use Rattle.mig_action.proofs.Counts.{applied_counts}
use Rattle.mig_action.proofs.AtPoints.{Has, listed, given}
use Rattle.mig_action.proofs.Inner.{field_kept, case_kept, slot_kept, field_form, cased_form}
use Rattle.std.proofs.lemmas.Bool.{false_from_ne_true}
use Rattle.mig_model.specs.Kinds.{entries_of_pairs}
use Rattle.mig_model.proofs.Bools.{split_or}

-- what a value may be at `any`: whatever it is, or a value whose tree is of a form
module _ (U : Typed → Type 0) (P : List ℕ → Typed → Type 0) (f : FieldFn) (p r : template.RecordParts) (v : value.RecordParts) (a : Applies f p r v)
    (h : ValueFits U P (template.record_of p) (value.record_of v))
    (field_any : (x : List ℕ) (w : Typed) → under x v.fields ≡ Some w → U w)
    (case_any : (x : List ℕ) (w : Typed) → under x v.fields ≡ None → under x (tag_pair v.tag) ≡ None → under x v.cased ≡ Some w → U w) where
  suits : Suits U P p v
  suits =
      let s = fits_stand U P p v h in
      record {
        is_record = a.record_kept.0;
        stand = s;
        fields_ascend = a.value_kept.0.fields;
        cased_ascend = a.value_kept.0.cased;
        rest_ascend = a.value_kept.0.rest;
        templates = field_kept p.fields a.record_kept.1.0;
        case_templates = case_kept p.choice a.record_kept.1.1;
        values = λ x w e. (slot_kept v.fields a.value_kept.1.0 x w e, field_any x w e);
        case_values = λ x w e. (slot_kept v.cased a.value_kept.1.1.0 x w e, case_any x w (alone x w e) (apart x w e) e);
      }
    where
      there : (x : List ℕ) (w : Typed) → under x v.cased ≡ Some w → has x (case_of p.choice v.tag) ≡ true
      there x w e = stands_there U P (under x (case_of p.choice v.tag)) (under x v.cased) ((fits_stand U P p v h).cased x) (ap is_some e)

      apart : (x : List ℕ) (w : Typed) → under x v.cased ≡ Some w → under x (tag_pair v.tag) ≡ None
      apart x w e = tag_under x p.choice v.tag (fits_stand U P p v h).tag ((distinct_of p a.record_kept.0 v.tag).cased x (there x w e))

      alone : (x : List ℕ) (w : Typed) → under x v.cased ≡ Some w → under x v.fields ≡ None
      alone x w e =
          none_stands U P (under x p.fields) (under x v.fields) ((fits_stand U P p v h).fields x)
          (false_from_ne_true (has x p.fields) (λ k. true≢false (sym (there x w e) ∙ (split_or (is_tag x p.choice) (has x (case_of p.choice v.tag)) ((distinct_of p a.record_kept.0 v.tag).fields x k)).1)))

  becomes : Becomes U P r (apply f p v) (act f p (pairs_of_record v))
  becomes = applied U P f p r v suits a.fits

  pub fits_after : ValueFits U P (template.record_of r) (value.record_of (apply f p v))
  fits_after = stand_fits U P r (apply f p v) becomes.distinct.fields_ascend becomes.distinct.cased_ascend becomes.fields_ascend becomes.cased_ascend becomes.rest_ascend becomes.stand

  pub tree_after : out (value.record_of (apply f p v)) ≡ on_entries (act f p) (out (value.record_of v))
  tree_after = ap (λ es. plain.map (pairs_of es)) (becomes.map ∙ ap (act f p) (sym (entries_of_pairs (pairs_of_record v))))

  pub parts_after : IsRecordValue (apply f p v)
  parts_after = record {
    fields = becomes.fields_ascend;
    cased = becomes.cased_ascend;
    rest = becomes.rest_ascend;
    distinct = names_once U P r (apply f p v) becomes.stand becomes.distinct becomes.fields_ascend becomes.cased_ascend becomes.rest_ascend;
  }

abbrev Whatever : Typed → Type 0
Whatever v = Unit {0}

abbrev Anything : List ℕ → Typed → Type 0
Anything n v = Unit {0}

pub tree_acts : TreeActs
tree_acts f p r v a = tree_after Whatever Anything f p r v a a.shape (λ x w e. tt) (λ x w k l e. tt)

pub shape_stays : ShapeStays
shape_stays f p r v a = fits_after Whatever Anything f p r v a a.shape (λ x w e. tt) (λ x w k l e. tt)

pub parts_stay : PartsStay
parts_stay f p r v a = parts_after Whatever Anything f p r v a a.shape (λ x w e. tt) (λ x w k l e. tt)

pub fit_stays : FitStays
fit_stays f p r v a form body h k =
    fits_after (IsOfForm form) (Fit form body) f p r v a h (λ x w e. field_form form v k x w e) (λ x w l m e. cased_form form v k x w l m e)

-- each of some is among them
contained : (xs ys : List NodeParts) → ((x : NodeParts) → Contains xs x → Contains ys x) → AllByRecursion (Contains ys) xs
contained [] ys g = tt
contained (x ∷ xs) ys g = (g x (0, omega arith, refl), contained xs ys (λ z c. g z (suc c.0, omega (arith, c.1), c.2)))

pub nodes_stay : NodesStay
nodes_stay f p r v a =
    let ns = nodes_at (template.record_of p) (value.record_of v) in
    let has_all = listed Whatever (Contains ns) (template.record_of p) (value.record_of v) a.shape (contained ns ns (λ x c. c)) in
    given Whatever (Contains ns) (template.record_of r) (value.record_of (apply f p v))
    (fits_after Whatever (Has Whatever (Contains ns)) f p r v a has_all (λ x w e. tt) (λ x w k l e. tt))

pub no_more_nodes : NoMoreNodes
no_more_nodes f p r v a x = applied_counts x f p r v a.record_kept.0 a.fits
