-- What a formed family keeps of its sums and its bodies.
use Rattle.std.specs.Prelude.{◌≡◌, Bool, true, false, ◌&&◌}
use Rattle.mig_model.specs.declared.form.Form.{Form}
use Rattle.mig_model.specs.declared.kind.Kind.{Kind}
use Rattle.mig_model.specs.Template.{Template, leaf, any, list, point, rec, sum, Fields, no_field, field, Choice, no_choice, choice, Cases, no_case, case, has_kind}

-- it is no point, and no sum with a point as a side
abbrev pub is_guarded : Template → Bool
is_guarded (point n) = false
is_guarded (sum V W) = is_guarded V && is_guarded W
is_guarded V = true

-- the template alone tells its root kinds: it is no point, not any tree, and no sum with such a side
abbrev pub is_side : Template → Bool
is_side any = false
is_side (point n) = false
is_side (sum V W) = is_side V && is_side W
is_side V = true

-- the two may stand as the sides of a sum, and a tree's kind tells which of them it may inhabit
pub record AreSides (form : Form) (V W : Template) : Type 0 where
  pub left : is_side V ≡ true
  pub right : is_side W ≡ true
  pub apart : (k : Kind) → has_kind form V k ≡ true → has_kind form W k ≡ false

-- so it is of each sum in the template, at all depths
abbrev mutual
  pub SumsApart : Form → Template → Type 0
  SumsApart form (leaf k) = Unit {0}
  SumsApart form any = Unit {0}
  SumsApart form (list V) = SumsApart form V
  SumsApart form (point n) = Unit {0}
  SumsApart form (rec fs c r) = FieldsApart form fs × ChoiceApart form c
  SumsApart form (sum V W) = AreSides form V W × SumsApart form V × SumsApart form W

  pub FieldsApart : Form → Fields → Type 0
  FieldsApart form no_field = Unit {0}
  FieldsApart form (field x p V fs) = SumsApart form V × FieldsApart form fs

  pub ChoiceApart : Form → Choice → Type 0
  ChoiceApart form no_choice = Unit {0}
  ChoiceApart form (choice tag cs kept) = CasesApart form cs

  pub CasesApart : Form → Cases → Type 0
  CasesApart form no_case = Unit {0}
  CasesApart form (case l fs cs) = FieldsApart form fs × CasesApart form cs
