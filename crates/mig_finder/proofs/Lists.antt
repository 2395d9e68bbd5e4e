-- The places that a loop has added, and those that are still to come.
use Rattle.std.proofs.Common.{◌≡◌, ◌∙◌, sym, ap, ℕ, Bool, true, false, ◌+◌, ◌<◌, List, [], ◌∷◌, ◌++◌, length, map, drop, get_or}
use Rattle.std.specs.Prelude.{if◌then◌else◌}
use Rattle.std.proofs.lemmas.List.{append_assoc, at_drop_more, map-append}
use Rattle.mig_model.specs.Template.{fields_of, cases_of}
use Rattle.mig_model.specs.Names.{same_name}
use Rattle.mig_template.specs.View.{template_of, field_of, case_of}
use Rattle.mig_template.specs.declared.fields.Field.{Field}
use Rattle.mig_template.specs.declared.record.Case.{Case}
use Rattle.mig_path.specs.Path.{Path, then_, case_of as at_case}
use Rattle.mig_finder.specs.Places.{Place, behind, to_field, places, field_places, case_places}
use Rattle.mig_finder.specs.View.{found_of, place_at}
use Rattle.mig_finder.specs.declared.finding.Found.{Found}

-- a place as it is seen from before an optic
abbrev pub later : Path → Place → Place
later o p = (then_ o p.0, p.1)

-- one place more, behind an optic
pub added_behind : (o : Path) (old list new ys : List Found) (y x : Found) → new ≡ list ++ x ∷ [] → found_of x ≡ later o (found_of y) → map found_of list ≡ map found_of old ++ behind o (map found_of ys) → map found_of new ≡ map found_of old ++ behind o (map found_of (ys ++ y ∷ []))
added_behind o old list new ys y x e f h =
    ap (map found_of) e ∙ map-append found_of list (x ∷ []) ∙ (λ i. h i ++ f i ∷ []) ∙ append_assoc (map found_of old) (behind o (map found_of ys)) (later o (found_of y) ∷ [])
    ∙ ap (λ (l : List Place). map found_of old ++ l) (sym (ap (behind o) (map-append found_of ys (y ∷ [])) ∙ map-append (later o) (map found_of ys) (found_of y ∷ [])))

-- the places at one field
abbrev pub at_field : List ℕ → Field → List Place
at_field x f = if same_name x f.name then (to_field f.name f.presence, template_of f.template) ∷ [] else behind (to_field f.name f.presence) (places x (template_of f.template))

-- the places in one case
abbrev pub in_case : List ℕ → Case → List Place
in_case x c = behind (at_case c.literal) (field_places x (fields_of c.fields))

-- what is added of one more field, and of one more case
pub fields_more : (x : List ℕ) (fs : List Field) (i : ℕ) (f : Field) (list new all : List Place) → i < length fs → f ≡ get_or fs i f → new ≡ list ++ at_field x f
    → list ++ field_places x (fields_of (map field_of (drop i fs))) ≡ all → new ++ field_places x (fields_of (map field_of (drop (i + 1) fs))) ≡ all
fields_more x fs i f list new all l e n h =
    let rest = field_places x (fields_of (map field_of (drop (i + 1) fs))) in
    let next : at_field x f ++ rest ≡ field_places x (fields_of (map field_of (drop i fs))) =
    ap (λ (g : Field). at_field x g ++ rest) e ∙ sym (at_drop_more (λ gs. field_places x (fields_of (map field_of gs))) fs i f l) in
    ap (λ (ps : List Place). ps ++ rest) n ∙ append_assoc list (at_field x f) rest ∙ ap (λ (ps : List Place). list ++ ps) next ∙ h

pub cases_more : (x : List ℕ) (cs : List Case) (i : ℕ) (c : Case) (list new all : List Place) → i < length cs → c ≡ get_or cs i c → new ≡ list ++ in_case x c
    → list ++ case_places x (cases_of (map case_of (drop i cs))) ≡ all → new ++ case_places x (cases_of (map case_of (drop (i + 1) cs))) ≡ all
cases_more x cs i c list new all l e n h =
    let rest = case_places x (cases_of (map case_of (drop (i + 1) cs))) in
    let next : in_case x c ++ rest ≡ case_places x (cases_of (map case_of (drop i cs))) =
    ap (λ (d : Case). in_case x d ++ rest) e ∙ sym (at_drop_more (λ ds. case_places x (cases_of (map case_of ds))) cs i c l) in
    ap (λ (ps : List Place). ps ++ rest) n ∙ append_assoc list (in_case x c) rest ∙ ap (λ (ps : List Place). list ++ ps) next ∙ h

-- what is added at a field of the name, and at any other
pub named_field : (x : List ℕ) (f : Field) (list new : List Place) → same_name x f.name ≡ true → new ≡ list ++ place_at f ∷ [] → new ≡ list ++ at_field x f
named_field x f list new is e = e ∙ sym (ap (λ (b : Bool). list ++ (if b then place_at f ∷ [] else behind (to_field f.name f.presence) (places x (template_of f.template)))) is)

pub other_field : (x : List ℕ) (f : Field) (list new inner : List Place) → same_name x f.name ≡ false → inner ≡ places x (template_of f.template) → new ≡ list ++ behind (to_field f.name f.presence) inner → new ≡ list ++ at_field x f
other_field x f list new inner is h e =
    e ∙ ap (λ (ps : List Place). list ++ behind (to_field f.name f.presence) ps) h
    ∙ sym (ap (λ (b : Bool). list ++ (if b then place_at f ∷ [] else behind (to_field f.name f.presence) (places x (template_of f.template)))) is)

-- what is added of a case whose fields' places were found alone
pub one_case : (x : List ℕ) (c : Case) (list new inner : List Found) (l : List ℕ) → l ≡ c.literal → map found_of inner ≡ field_places x (fields_of c.fields) → map found_of new ≡ map found_of list ++ behind (at_case l) (map found_of inner)
    → map found_of new ≡ map found_of list ++ in_case x c
one_case x c list new inner l same h e = e ∙ (λ i. map found_of list ++ behind (at_case (same i)) (h i))
