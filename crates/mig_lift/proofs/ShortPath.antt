-- The version path of a formed family whose root is a flat record has no more than one name.
use Rattle.std.proofs.Common.{◌≡◌, ◌∙◌, ℕ, List, [], ◌∷◌, true, false, Option, Some, None, refl, sym, ap, subst, arith}
use Rattle.std.specs.Prelude.{IfSome, IsSome, not, option_and_then, ◌≤◌, ◌<◌, ◌^◌}
use Rattle.std.specs.BTreeMap.{is_at}
use Rattle.std.specs.List.{AllByRecursion}
use Rattle.std.specs.Map.{values_of}
use Rattle.std.proofs.lemmas.List.Sums.{AllPass-from_list_all}
use Rattle.std.proofs.lemmas.Map.Views.{IfSome-lookup_from_All}
use Rattle.std.proofs.lemmas.Str.{IsUtf8-nil, chars-nil}
use Rattle.mig_model.specs.declared.presence.Presence.TheVariants.{Must}
use Rattle.mig_model.specs.declared.rest.Rest.TheVariants.{Open}
use Rattle.mig_model.specs.Family as family
use Rattle.mig_model.specs.Family.{Family, IsFormed, body, behind_point, holds, is_record, last_name, must_field, of_must, way_end}
use Rattle.mig_model.specs.Fields.{find_field}
use Rattle.mig_model.specs.Kinds.{IsMap, removed, put_in}
use Rattle.mig_model.specs.Names.{by_bytes}
use Rattle.mig_model.specs.Plain as plain
use Rattle.mig_model.specs.Plain.{Plain}
use Rattle.mig_model.specs.Template.{Template, leaf, rec, field_list, no_choice}
use Rattle.mig_model.specs.Version.{spot, strip, put_version}
use Rattle.mig_field.specs.NewRecord.{FieldType}
use Rattle.mig_laws.proofs.Formed.{no_flaw}
use Rattle.mig_rule.specs.Chain.{Path}
use Rattle.mig_rule.specs.Spelled.{IsSpelledText}
use Rattle.mig_lift.specs.Small.{is_must_leaf, is_flat_record}

abbrev pub IsShort : Path → Type 0
IsShort (x ∷ (y ∷ xs)) = ⊥
IsShort xs = Unit {0}

module _ (f : Family) where
  -- a leaf leads nowhere
  leaf_ends : (y : List ℕ) (zs : Path) (o : Option FieldType) → IfSome o (λ s. is_must_leaf s ≡ true)
      → holds is_record (option_and_then (λ W. way_end f (y ∷ zs) (behind_point f W)) (of_must o)) ≡ false
  leaf_ends y zs None h = refl
  leaf_ends y [] (Some (Must, leaf k)) h = refl
  leaf_ends y (z ∷ zs) (Some (Must, leaf k)) h = refl
  leaf_ends y zs (Some s) h = absurd (let x : false ≡ true = h in cc)

  no_way : (x y : List ℕ) (zs : Path) (V : Template) → is_flat_record V ≡ true → holds is_record (way_end f (x ∷ (y ∷ zs)) V) ≡ false
  no_way x y zs (rec fs no_choice Open) e =
      leaf_ends y zs (find_field x fs) (IfSome-lookup_from_All (λ s. is_must_leaf s ≡ true) (is_at (by_bytes x)) (field_list fs) (AllPass-from_list_all is_must_leaf (values_of (field_list fs)) e))
  no_way x y zs V e = absurd (let k : false ≡ true = e in cc)

  pub short_version : IsFormed f → is_flat_record (body f f.root) ≡ true → IsShort f.version
  short_version formed flat = by f.version (no_flaw f formed family.version_path)
    where
      by : (xs : Path) → not (holds is_record (way_end f xs (body f f.root))) ≡ false → IsShort xs
      by [] h = tt
      by (x ∷ []) h = tt
      by (x ∷ (y ∷ zs)) h = absurd (let k : true ≡ false = ap not (sym (no_way x y zs (body f f.root) flat)) ∙ h in cc)

pub strip_is : (xs : Path) → IsShort xs → (t : Plain) → strip xs t ≡ removed (last_name xs) t
strip_is [] s t = refl
strip_is (x ∷ []) s t = refl
strip_is (x ∷ (y ∷ xs)) s t = absurd s

pub put_is : (xs : Path) → IsShort xs → (u t : Plain) → put_version xs u t ≡ put_in (last_name xs) u t
put_is [] s u t = refl
put_is (x ∷ []) s u t = refl
put_is (x ∷ (y ∷ xs)) s u t = absurd s

pub map_is_spot : (xs : Path) → IsShort xs → (t : Plain) → IsMap t → IsSome (spot xs t)
map_is_spot [] s (plain.map ps) m = refl
map_is_spot (x ∷ []) s (plain.map ps) m = refl
map_is_spot (x ∷ (y ∷ xs)) s t m = absurd s
map_is_spot xs s _ m = absurd m

pub last_spelled : (xs : Path) → IsShort xs → AllByRecursion IsSpelledText xs → IsSpelledText (last_name xs)
last_spelled [] s a = (omega arith, IsUtf8-nil, subst (AllByRecursion (λ c. (32 ≤ c) × (c < 2 ^ 16))) (sym chars-nil) tt)
last_spelled (x ∷ []) s a = a.0
last_spelled (x ∷ (y ∷ xs)) s a = absurd s
