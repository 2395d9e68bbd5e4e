-- What the first wrong place comes to at sums and records, and in a map whose tag is known.
use Rattle.std.proofs.Common.{◌≡◌, refl, ap, ◌∙◌, ℕ, List, [], ◌∷◌, Bool, true, false, Option, Some, None}
use Rattle.std.specs.Prelude.{◌||◌, is_some, if◌then◌else◌}
use Rattle.mig_model.specs.declared.form.Form.{Form}
use Rattle.mig_model.specs.declared.rest.Rest.{Rest}
use Rattle.mig_model.specs.Plain as plain
use Rattle.mig_model.specs.Plain.{Plain}
use Rattle.mig_model.specs.Kinds.{kind_of}
use Rattle.mig_model.specs.Names.{under, same_name}
use Rattle.mig_model.specs.Template.{Template, sum, Fields, no_field, field, Field, fields_of, field_list, choice, Cases, no_case, case, cases_of, has_kind, is_open}
use Rattle.mig_model.specs.Inhabits.{Entries, has_tag}
use Rattle.mig_model.specs.Place.{Place, Wrong, named, sooner, place_under, missing, missing_in_case, is_literal, is_tagged, wrong_map, unless, wrong, wrong_fields, wrong_cases}
use Rattle.mig_laws.proofs.Named.{by_name, or_if, told_by_name}

module _ (form : Form) (w : List ℕ → Plain → Option Place) where
  -- a sum, by the tree's kind
  pub wrong_left : (V W : Template) (t : Plain) → has_kind form V (kind_of t) ≡ true → wrong form w (sum V W) t ≡ wrong form w V t
  wrong_left V W t e = rw e refl

  pub wrong_right : (V W : Template) (t : Plain) → has_kind form V (kind_of t) ≡ false → has_kind form W (kind_of t) ≡ true → wrong form w (sum V W) t ≡ wrong form w W t
  wrong_right V W t e f = rw (e, f) refl

-- a record with a choice, by whether its tag is a literal or another text that is kept
pub wrong_if_tagged : (fs : Fields) (tag : List ℕ) (cs : Cases) (kept : Bool) (es : Entries) (bad : Wrong) → is_tagged tag cs kept es ≡ true
    → wrong_map fs (choice tag cs kept) es bad ≡ place_under (sooner bad (sooner (missing fs es) (missing_in_case tag cs es)))
wrong_if_tagged fs tag cs kept es bad e = rw e refl

pub wrong_if_not_tagged : (fs : Fields) (tag : List ℕ) (cs : Cases) (kept : Bool) (es : Entries) (bad : Wrong) → is_tagged tag cs kept es ≡ false → wrong_map fs (choice tag cs kept) es bad ≡ Some (named tag ∷ [])
wrong_if_not_tagged fs tag cs kept es bad e = rw e refl

-- the tag is none of the literals: it is not there, it is no text, or it is another text
pub no_literal : (tag : List ℕ) (cs : Cases) (es : Entries) → ((l : List ℕ) → has_tag tag l es ≡ false) → is_literal tag cs es ≡ false
no_literal tag no_case es e = refl
no_literal tag (case l fs cs) es e = rw (e l) (no_literal tag cs es e)

pub fields_of_list : (fs : Fields) → fields_of (field_list fs) ≡ fs
fields_of_list no_field = refl
fields_of_list (field x p V fs) = ap (field x p V) (fields_of_list fs)

-- a map whose tag is the text s: what is wrong in it is told by the case of that literal
module _ (tag s : List ℕ) (es : Entries) (is : under tag es ≡ Some (plain.text s)) where
  pub tag_is : (l : List ℕ) → has_tag tag l es ≡ same_name s l
  tag_is l = rw is refl

  pub literal_told : (cs : List (List ℕ × List Field)) → is_literal tag (cases_of cs) es ≡ is_some (by_name s cs)
  literal_told = told_by_name s is_some (λ cs. is_literal tag (cases_of cs) es) refl (λ c cs. ap (λ b. b || is_literal tag (cases_of cs) es) (tag_is c.0) ∙ or_if (same_name s c.0) (is_literal tag (cases_of cs) es))

  abbrev pub missing_of : Option (List Field) → Wrong
  missing_of None = None
  missing_of (Some fs) = missing (fields_of fs) es

  pub missing_told : (cs : List (List ℕ × List Field)) → missing_in_case tag (cases_of cs) es ≡ missing_of (by_name s cs)
  missing_told = told_by_name s missing_of (λ cs. missing_in_case tag (cases_of cs) es) refl (λ c cs. ap (λ b. if b then missing (fields_of c.1) es else missing_in_case tag (cases_of cs) es) (tag_is c.0))

  module _ (form : Form) (w : List ℕ → Plain → Option Place) (r : Rest) (n : List ℕ) (t : Plain) where
    abbrev pub wrong_of : Option (List Field) → Option Place
    wrong_of None = None
    wrong_of (Some fs) = wrong_fields form w (fields_of fs) (λ m u. unless (is_open r)) n t

    pub wrong_told : (cs : List (List ℕ × List Field)) → wrong_cases form w tag (cases_of cs) r es n t ≡ wrong_of (by_name s cs)
    wrong_told = told_by_name s wrong_of (λ cs. wrong_cases form w tag (cases_of cs) r es n t) refl (λ c cs. ap (λ b. if b then wrong_of (Some c.1) else wrong_cases form w tag (cases_of cs) r es n t) (tag_is c.0))
