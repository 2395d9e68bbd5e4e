-- Every function on the fields of a scope.
use Rattle.std.proofs.Common.{◌≡◌, ℕ, List, Bool, true, Option, Some, subst, arith}
use Rattle.std.specs.Prelude.{option_and_then}
use Rattle.mig_model.specs.declared.form.Form.{Form}
use Rattle.mig_model.specs.declared.presence.Presence.{Presence}
use Rattle.mig_model.specs.declared.rest.Rest.{Rest}
use Rattle.mig_model.specs.Plain.{Plain}
use Rattle.mig_model.specs.Names.{under, put}
use Rattle.mig_model.specs.Fields.{if_so}
use Rattle.mig_model.specs.Template.{Template, list, Field, rec, Fields, field_list, no_choice, is_open}
use Rattle.mig_model.specs.Inhabits.{Entries}
use Rattle.mig_fold.specs.Fold.{treat}
use Rattle.mig_fold.proofs.Treats.{Treatment}
use Rattle.mig_field.specs.FieldFn.{FieldOp, rename, drop, add, learn, forget, default, maybe, map_leaf, nest, unnest, wrap, unify}
use Rattle.mig_field.specs.NewRecord.{Scoped, FieldType, filled, lessened, leaf_after, leaf_of_both, with_template, at_field, inner_fields, unnest_slot, new_fields}
use Rattle.mig_field.specs.Act.{edit}
use Rattle.mig_action.proofs.Ops.{is-free, FieldAt, at-field}
use Rattle.mig_action.proofs.Values.{so, then_some}
use Rattle.mig_field_laws.proofs.Scopes.{Scene, Step}
use Rattle.mig_field_laws.proofs.Ops.{renames, drops, adds, learns, forgets, fills, lessens, maps, wraps, unifies}
use Rattle.mig_field_laws.proofs.Nests.{nests, unnests}

-- a field that is forgotten has a template at whose trees nothing is done
abbrev pub Idle : Form → Treatment → FieldOp → List Field → Type 0
Idle form h (forget x) fs = (f : FieldType) → under x fs ≡ Some f → (t : Plain) → treat form h f.1 t ≡ t
Idle form h op fs = Unit {0}

module _ (form : Form) (P : List ℕ → Plain → Type 0) (w : Bool) (h : Treatment) (o : Bool) (other : List ℕ → Option FieldType) (s : Scoped) (es ts : Entries) (c : Scene form P w h o other s es ts)
    (r : Rest)
    (wide : is_open r ≡ true → o ≡ true) where
  abbrev Is : List Field → FieldOp → Type 0
  Is gs op = Step form P w h o other s es ts c (edit op s.fields) gs

  made : (b : Bool) (fs gs : List Field) (op : FieldOp) → if_so b fs ≡ Some gs → (b ≡ true → Is fs op) → Is gs op
  made b fs gs op e f = let a = so b fs gs e in subst (λ l. Is l op) a.1 (f a.0)

  made_at : (x : List ℕ) (f : FieldType → Option FieldType) (gs : List Field) (op : FieldOp) → at_field x f s.fields ≡ Some gs → ((a : FieldAt x f s.fields gs) → Is (put x a.new s.fields) op)
      → Is gs op
  made_at x f gs op e g = let a = at-field x f s.fields gs e in subst (λ l. Is l op) a.gives (g a)

  pub op_steps : (op : FieldOp) (gs : List Field) → new_fields op r s ≡ Some gs → Idle form h op s.fields → Is gs op
  op_steps (rename x y) gs e i = made _ _ gs (rename x y) e (λ b. renames form P w h o other s es ts c x y (grind (arith, b)) (is-free s y (grind (arith, b))))
  op_steps (drop x) gs e i = made _ _ gs (drop x) e (drops form P w h o other s es ts c x)
  op_steps (add x g) gs e i = made _ _ gs (add x g) e (λ b. adds form P w h o other s es ts c x g (is-free s x (grind (arith, b))))
  op_steps (learn x k) gs e i = made _ _ gs (learn x k) e (λ b. learns form P w h o other s es ts c x k (is-free s x (grind (arith, b))))
  op_steps (forget x) gs e i = made _ _ gs (forget x) e (λ b. forgets form P w h o other s es ts c x (grind (arith, b)) (wide (grind (arith, b))) i)
  op_steps (default x g) gs e i = made_at x (filled g) gs (default x g) e (λ f. fills form P w h o other s es ts c x f.old f.new f.there g f.becomes)
  op_steps (maybe x) gs e i = made_at x lessened gs (maybe x) e (λ f. lessens form P w h o other s es ts c x f.old f.new f.there f.becomes)
  op_steps (map_leaf x g) gs e i = made_at x (with_template (leaf_after g)) gs (map_leaf x g) e (λ f. maps form P w h o other s es ts c x f.old f.new f.there g f.becomes)
  op_steps (wrap x) gs e i = made_at x (with_template (λ V. Some (list V))) gs (wrap x) e (λ f. wraps form P w h o other s es ts c x f.old f.new f.there f.becomes)
  op_steps (unify x g k) gs e i = made_at x (with_template (leaf_of_both g k)) gs (unify x g k) e (λ f. unifies form P w h o other s es ts c x f.old f.new f.there g k f.becomes)
  op_steps (nest xs y) gs e i = made _ _ gs (nest xs y) e (nests form P w h o other s es ts c xs y)
  op_steps (unnest y) gs e i =
      let a = then_some (λ (f : FieldType). option_and_then (unnest_slot y s f.0) (inner_fields f.1)) (under y s.fields) gs e in
      by a.0.0 a.0.1 a.1 a.2
    where
      at : (q : Presence) (gf : Fields) (p : Rest) → under y s.fields ≡ Some (q, rec gf no_choice p) → unnest_slot y s q (field_list gf) ≡ Some gs → Is gs (unnest y)
      at q gf p there k = made _ _ gs (unnest y) k (unnests form P w h o other s es ts c y q gf p there)

      by : (q : Presence) (V : Template) → under y s.fields ≡ Some (q, V) → option_and_then (unnest_slot y s q) (inner_fields V) ≡ Some gs → Is gs (unnest y)
      by q (rec gf no_choice p) there k = at q gf p there k
      by q V there k = cc
  op_steps op gs e i = cc
