-- Rows that the definitions give by computing.
use Rattle.std.proofs.Common.{◌≡◌, refl, [], ◌∷◌, Option, Some, None}
use Rattle.mig_model.specs.declared.kind.Kind.TheVariants as K
use Rattle.mig_model.specs.declared.presence.Presence.TheVariants.{Must}
use Rattle.mig_model.specs.declared.rest.Rest.TheVariants.{Open}
use Rattle.mig_model.specs.Template.{Template, leaf, rec, no_field, field, no_choice}
use Rattle.mig_field.specs.FieldFn as op
use Rattle.mig_field.specs.FieldFn.{FieldFn}
use Rattle.mig_rule.specs.Rule.{Rule, nop, function, on, at, or_else, all, everywhere}
use Rattle.mig_rule.specs.Target as target

abbrev new : Rule → Template → Option Template
new r V = target.target r (97 ∷ []) V

abbrev renames : Rule
renames = function (record { scope = op.common; op = op.rename (120 ∷ []) (121 ∷ []) })

-- a record of x alone, under a
abbrev small : Template
small = rec (field (120 ∷ []) Must (leaf K.Int) no_field) no_choice Open

abbrev moved : Template
moved = rec (field (121 ∷ []) Must (leaf K.Int) no_field) no_choice Open

abbrev under_a : Template → Template
under_a V = rec (field (97 ∷ []) Must V no_field) no_choice Open

row_function : new renames small ≡ Some moved
row_function = refl

row_unfit : new renames (under_a small) ≡ None
row_unfit = refl

row_all : new (all renames) (under_a small) ≡ Some (under_a moved)
row_all = refl

row_all_unfit : new (all renames) small ≡ None
row_all_unfit = refl

row_everywhere : new (everywhere renames) (under_a small) ≡ Some (under_a moved)
row_everywhere = refl

row_at : new (at (97 ∷ []) renames) (under_a small) ≡ Some (under_a moved)
row_at = refl

row_no_place : new (at (98 ∷ []) renames) (under_a small) ≡ None
row_no_place = refl

-- a place that the rule doesn't fit
row_at_unfit : new (at (120 ∷ []) renames) (under_a small) ≡ None
row_at_unfit = refl

row_or_else : new (or_else renames nop) (under_a small) ≡ Some (under_a small)
row_or_else = refl

row_on : new (on (98 ∷ []) renames) small ≡ None
row_on = refl
