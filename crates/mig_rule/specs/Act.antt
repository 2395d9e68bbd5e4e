-- What a rule does to a tree of a template that it fits, and plain traversal by it.
use Rattle.std.specs.Prelude.{ℕ, zero, suc, List, Option, Some, None, is_some, unwrap_or, if◌then◌else◌}
use Rattle.mig_model.specs.declared.form.Form.{Form}
use Rattle.mig_model.specs.Family.{nests}
use Rattle.mig_model.specs.Plain.{Plain, on_entries}
use Rattle.mig_model.specs.Template.{Template}
use Rattle.mig_fold.specs.Fold.{fold, none_skipped}
use Rattle.mig_model.specs.Record.{RecordParts}
use Rattle.mig_field.specs.FieldFn.{FieldFn}
use Rattle.mig_field.specs.Act as function
use Rattle.mig_rule.specs.Rule as rule
use Rattle.mig_rule.specs.Rule.{Rule}
use Rattle.mig_rule.specs.Children.{at_children}
use Rattle.mig_rule.specs.Target.{Retyping, all_children, everywhere_within, is_name, parts_of, target}

-- what is done to a tree of a template
abbrev pub Action : Type 0
Action = Template → Plain → Plain

-- where R fits the template; elsewhere a tree stays
abbrev pub where_it_fits : Retyping → Action → Action
where_it_fits R A V t = if is_some (R V) then A V t else t

-- from below: at the children that R fits somewhere, and then at the tree itself, where R fits the template that they give
abbrev pub act_within : Form → Retyping → Action → ℕ → Action
act_within form R A zero V t = t
act_within form R A (suc k) V t =
    where_it_fits R A (unwrap_or (all_children (everywhere_within R k) V) V)
    (at_children form (λ c u. where_it_fits (everywhere_within R k) (act_within form R A k) c.1 u) V t)

-- at each place of x
abbrev pub act_at_places : Form → List ℕ → Action → ℕ → Action
act_at_places form x A zero V t = t
act_at_places form x A (suc k) V t = at_children form (λ c u. if is_name x c.0 then A c.1 u else act_at_places form x A k c.1 u) V t

abbrev pub by_function : FieldFn → Option RecordParts → Plain → Plain
by_function f None t = t
by_function f (Some p) t = on_entries (function.act f p) t

abbrev pub act : Form → Rule → List ℕ → Action
act form rule.nop n V t = t
act form (rule.function f) n V t = by_function f (parts_of V) t
act form (rule.on m r) n V t = act form r n V t
act form (rule.at x r) n V t = act_at_places form x (act form r n) (nests V) V t
act form (rule.seq r s) n V t = act form s n (unwrap_or (target r n V) V) (act form r n V t)
act form (rule.or_else r s) n V t = if is_some (target r n V) then act form r n V t else act form s n V t
act form (rule.all r) n V t = at_children form (λ c u. where_it_fits (target r n) (act form r n) c.1 u) V t
act form (rule.everywhere r) n V t = act_within form (target r n) (act form r n) (nests V) V t

-- plain traversal: first each tree at a point, and then the tree itself where the rule fits the body
abbrev pub plain_rule : Form → Rule → (List ℕ → Template) → List ℕ → Plain → Plain
plain_rule form r body n t = fold form body none_skipped (λ m u. where_it_fits (target r m) (act form r m) (body m) u) n t
