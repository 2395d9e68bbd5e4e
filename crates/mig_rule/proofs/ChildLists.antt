-- The children of a record, as the fields that lie in memory.
use Rattle.std.proofs.Common.{◌≡◌, List, [], ◌∷◌, ◌++◌, length, map, Option, Some, refl, sym, ap, ◌∙◌}
use Rattle.std.proofs.lemmas.List.{append_assoc, append-nil}
use Rattle.mig_model.specs.Template.{Template, fields_of, cases_of}
use Rattle.mig_model.specs.Record.{Case}
use Rattle.mig_template.specs.Retyped.{HavePlaces}
use Rattle.mig_template.specs.View.{template_of, field_of}
use Rattle.mig_template.specs.declared.fields.Field.{Field}
use Rattle.mig_rule.specs.Children.{Child, field_children, case_children}
use Rattle.mig_rule.specs.Target.{Outcome}
use Rattle.mig_rule.specs.Step.{met_one, met_all}
use Rattle.mig_rule.specs.declared.outcome.Met.{Met}

abbrev pub child_at : Field → Child
child_at f = (Some f.name, template_of f.template)

pub children_are : (fs : List Field) → field_children (fields_of (map field_of fs)) ≡ map child_at fs
children_are [] = refl
children_are (f ∷ fs) = ap (λ (cs : List Child). child_at f ∷ cs) (children_are fs)

-- one more child is met
pub met_more : (o : Child → Outcome) (cs : List Child) (c : Child) (m : Met) → met_all o (cs ++ c ∷ []) m ≡ met_one (o c) (met_all o cs m)
met_more o [] c m = refl
met_more o (d ∷ cs) c m = met_more o cs c (met_one (o d) m)

pub met_append : (o : Child → Outcome) (cs ds : List Child) (m : Met) → met_all o (cs ++ ds) m ≡ met_all o ds (met_all o cs m)
met_append o [] ds m = refl
met_append o (c ∷ cs) ds m = met_append o cs ds (met_one (o c) m)

-- ---- cases
pub places_more : (oss : List (List (Option Template))) (os : List (Option Template)) (cs : List Case) (c : Case) → HavePlaces oss cs → length os ≡ length c.1 → HavePlaces (oss ++ os ∷ []) (cs ++ c ∷ [])
places_more [] os [] c h l = (l, tt)
places_more [] os (d ∷ cs) c h l = absurd h
places_more (p ∷ oss) os [] c h l = absurd h
places_more (p ∷ oss) os (d ∷ cs) c h l = (h.0, places_more oss os cs c h.1 l)

pub children_more : (cs : List Case) (c : Case) → case_children (cases_of (cs ++ c ∷ [])) ≡ case_children (cases_of cs) ++ field_children (fields_of c.1)
children_more [] c = append-nil (field_children (fields_of c.1))
children_more (d ∷ cs) c = ap (λ l. field_children (fields_of d.1) ++ l) (children_more cs c) ∙ sym (append_assoc (field_children (fields_of d.1)) (case_children (cases_of cs)) (field_children (fields_of c.1)))
