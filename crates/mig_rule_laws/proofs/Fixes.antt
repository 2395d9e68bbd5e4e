-- What each fix makes of the inhabitants of the root, and of the family.
use Rattle.std.proofs.Common.{◌≡◌, ℕ, suc, List, [], ◌∷◌, Bool, true, false, Option, Some, None, refl, sym, ap, subst, ◌∙◌}
use Rattle.std.specs.Prelude.{unwrap_or, Result, Ok, if◌then◌else◌}
use Rattle.mig_model.specs.Plain.{Plain}
use Rattle.mig_model.specs.Names.{same_name}
use Rattle.mig_model.specs.Template.{Template, any}
use Rattle.mig_model.specs.TemplateKept.{TemplateKept}
use Rattle.mig_model.specs.Family.{Family, body, is_named, is_unknown, any_inside, IsFormed}
use Rattle.mig_model.specs.Inhabits.{Inhabits, depth}
use Rattle.mig_rule.specs.Rule as rule
use Rattle.mig_rule.specs.Rule.{PathStep, Fix}
use Rattle.mig_rule.specs.Fix.{root_spot, keeps_kind, misses, family_after, next, plain}
use Rattle.mig_rule.specs.Path.{end_kind, at_end}
use Rattle.mig_model.specs.Leaf.{LeafFn, leaf_value}
use Rattle.mig_model.proofs.SameNames.{same_name_itself}
use Rattle.std.proofs.lemmas.Bool.{not-false}
use Rattle.mig_rule_laws.proofs.Deep.{deep_made}
use Rattle.mig_rule_laws.specs.Premises.{IsTidy}
use Rattle.mig_rule_laws.specs.Fixes.{FamilyKept, FixSound, IsNext, FamiliesStay, FixTypesStay, FixTidinessStays}
use Rattle.mig_rule_laws.proofs.Families.{next_is, none_missed, named_stays, found_either, named_without, found_without, same_within, names_known, root_named}
use Rattle.mig_rule_laws.proofs.RuleFixes.{rule_makes, rule_keeps}

-- the fix makes a tidy inhabitant of the root of the family after it
abbrev Makes : Fix → Family → Plain → Type 0
Makes x f t = IsTidy f.form (plain x f f.root t) × Inhabits f.form (body (family_after x f)) f.root (plain x f f.root t)

new_type_makes : (n : List ℕ) (V : Template) (f : Family) → IsFormed f → (t : Plain) → IsTidy f.form t → Inhabits f.form (body f) f.root t → Makes (rule.new_type n V) f t
new_type_makes n V f e t b s = (
  b,
  same_within f.form f (body f) (body (family_after (rule.new_type n V) f)) (λ m i. ap (λ (o : Option Template). unwrap_or o any) (named_stays m f.types ((n, V) ∷ []) i))
      (λ m i. names_known f e m) (suc (depth t)) f.root t (root_named f e) s,
)

drop_type_makes : (n : List ℕ) (f : Family) → IsFormed (family_after (rule.drop_type n) f) → (t : Plain) → IsTidy f.form t → Inhabits f.form (body f) f.root t → Makes (rule.drop_type n) f t
drop_type_makes n f d t b s = (b, same_within f.form g (body f) (body g) same closed (suc (depth t)) f.root t (root_named g d) s)
  where
    g : Family
    g = family_after (rule.drop_type n) f

    same : (m : List ℕ) → is_named g m ≡ true → body f m ≡ body g m
    same m i = ap (λ (o : Option Template). unwrap_or o any) (named_without n m f.types i)

    closed : (m : List ℕ) → is_named g m ≡ true → any_inside (is_unknown g) (body f m) ≡ false
    closed m i = subst (λ V. any_inside (is_unknown g) V ≡ false) (sym (same m i)) (names_known g d m)

new_type_keeps : (n : List ℕ) (V : Template) (f : Family) → FamilyKept f → TemplateKept V → FamilyKept (family_after (rule.new_type n V) f)
new_type_keeps n V f k o m = found_either TemplateKept m f.types ((n, V) ∷ []) (k m) (by (same_name m n))
  where
    by : (b : Bool) → TemplateKept (unwrap_or (if b then Some V else None) any)
    by true = o
    by false = tt

deep_makes : (steps : List PathStep) (g : LeafFn) (f : Family) → IsFormed f → FamilyKept f → misses (rule.deep steps g) f ≡ false → (t : Plain) → IsTidy f.form t → Inhabits f.form (body f) f.root t
    → Makes (rule.deep steps g) f t
deep_makes steps g f e k w t b s =
    let at_root : plain (rule.deep steps g) f f.root t ≡ at_end f.form f steps (leaf_value g) (root_spot f) t =
    ap (λ (q : Bool). if q then at_end f.form f steps (leaf_value g) (root_spot f) t else t) (same_name_itself f.root) in
    subst (λ u. IsTidy f.form u × Inhabits f.form (body f) f.root u) (sym at_root)
    (deep_made f e k g steps (not-false (keeps_kind g (end_kind f steps (root_spot f))) w) t b s)

fix_makes : (x : Fix) (f : Family) → misses x f ≡ false → IsFormed f → FamilyKept f → FixSound f.form x → IsFormed (family_after x f) → (t : Plain) → IsTidy f.form t → Inhabits f.form (body f) f.root t
    → Makes x f t
fix_makes (rule.rule r) f w e k o d t b s = let made = rule_makes r f o e k d f.root t b s in (made.0.0, made.1)
fix_makes (rule.new_type n V) f w e k o d t b s = new_type_makes n V f e t b s
fix_makes (rule.drop_type n) f w e k o d t b s = drop_type_makes n f d t b s
fix_makes (rule.deep steps g) f w e k o d t b s = deep_makes steps g f e k w t b s

next_after : (x : Fix) (f : Family) → IsFormed f → FamilyKept f → FixSound f.form x → IsFormed (family_after x f) → IsNext f (family_after x f)
next_after (rule.rule r) f e k o d = record { formed = d; form = refl; root = refl; kept = rule_keeps r f o e k d }
next_after (rule.deep steps g) f e k o d = record { formed = d; form = refl; root = refl; kept = k }
next_after (rule.new_type n V) f e k o d = record { formed = d; form = refl; root = refl; kept = new_type_keeps n V f k o }
next_after (rule.drop_type n) f e k o d = record { formed = d; form = refl; root = refl; kept = λ m. found_without TemplateKept tt n m f.types (k m) }

pub families_stay : FamiliesStay
families_stay x f g q e k o = let h = next_is x f g q in subst (IsNext f) h.0 (next_after x f e k o h.1)

-- at the next family, whose form and root are those of the one before
to_next : (x : Fix) (f : Family) (u : Plain) → IsNext f (family_after x f) → Inhabits f.form (body (family_after x f)) f.root u
    → Inhabits (family_after x f).form (body (family_after x f)) (family_after x f).root u
to_next (rule.rule r) f u i s = s
to_next (rule.deep steps g) f u i s = s
to_next (rule.new_type n V) f u i s = s
to_next (rule.drop_type n) f u i s = s

pub fix_types_stay : FixTypesStay
fix_types_stay x f g q e k o t b s =
    let h = next_is x f g q in
    subst (λ g. Inhabits g.form (body g) g.root (plain x f f.root t)) h.0 (to_next x f (plain x f f.root t) (next_after x f e k o h.1) (fix_makes x f (none_missed x f g q) e k o h.1 t b s).1)

pub fix_tidiness_stays : FixTidinessStays
fix_tidiness_stays x f g q e k o t b s = (fix_makes x f (none_missed x f g q) e k o (next_is x f g q).1 t b s).0
