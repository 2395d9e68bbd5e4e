-- What can be written before the fix can be written after it.
use Rattle.std.proofs.Common.{◌≡◌, ℕ, List, true, false, Option, Some, None, refl, sym, subst, arith}
use Rattle.std.specs.Prelude.{IsTrue}
use Rattle.std.specs.List.{AllByRecursion}
use Rattle.mig_model.specs.declared.form.Form.{Form}
use Rattle.mig_model.specs.declared.form.Form.TheVariants as F
use Rattle.mig_model.specs.Plain.{Plain}
use Rattle.mig_model.specs.Kinds.{IsMap, get_in, removed, put_in}
use Rattle.mig_model.specs.Template.{is_of_form}
use Rattle.mig_model.specs.Plain.{on_entries}
use Rattle.mig_model.specs.Names.{moved, put, without}
use Rattle.mig_model.specs.Family.{last_name}
use Rattle.mig_model.specs.Version.{strip, put_version}
use Rattle.mig_model.specs.Const as model
use Rattle.mig_model.specs.Const.{Const, const_kind, const_tree}
use Rattle.mig_json.proofs.Edits.{removed_json, put_json}
use Rattle.mig_lift.proofs.Found.{got_json}
use Rattle.mig_nbt.proofs.Spelled.{removed_spelled, put_spelled, got_spelled}
use Rattle.mig_rule.specs.Chain.{Path}
use Rattle.mig_rule.specs.Spelled.{IsSpelledText, const_texts, rule_texts}
use Rattle.mig_schema.specs.Version.{version_tree}
use Rattle.mig_lift.specs.Writable.{IsWritable}
use Rattle.mig_lift.proofs.Names.{name_is}
use Rattle.mig_lift.specs.Small.{Edits}
use Rattle.mig_lift.specs.View.{with_edits}
use Rattle.mig_lift.proofs.Edits.{map_without, map_with, renamed_there, renamed_absent, added}
use Rattle.mig_lift.proofs.Parts.{rule_with}
use Rattle.mig_lift.proofs.ShortPath.{IsShort, strip_is, put_is, last_spelled}

pub removed_written : (form : Form) (x : List ℕ) (t : Plain) → IsWritable form t → IsWritable form (removed x t)
removed_written F.Nbt x t w = removed_spelled x t w
removed_written F.Json x t w = removed_json x t w

put_written : (form : Form) (x : List ℕ) (u t : Plain) → IsMap t → IsSpelledText x → IsWritable form u → IsWritable form t → IsWritable form (put_in x u t)
put_written F.Nbt x u t m n s w = put_spelled x u t m (name_is x n) s w
put_written F.Json x u t m n s w = put_json x u t n.1 s w

got_written : (form : Form) (x : List ℕ) (u t : Plain) → get_in x t ≡ Some u → IsWritable form t → IsWritable form u
got_written F.Nbt x u t e w = got_spelled x u t e w
got_written F.Json x u t e w = got_json x u t e w

const_written : (form : Form) (c : Const) (t : Plain) → IsTrue (is_of_form form (const_kind c)) → AllByRecursion IsSpelledText (const_texts c) → IsWritable form t → IsWritable form (const_tree c)
const_written F.Nbt (model.whole z) t f s w = absurd (let x : false ≡ true = f in cc)
const_written F.Nbt (model.text b) t f s w = name_is b s.0
const_written F.Nbt (model.boolean b) t f s w = absurd (let x : false ≡ true = f in cc)
const_written F.Nbt model.null t f s w = absurd (let x : false ≡ true = f in cc)
const_written F.Nbt model.no_bytes t f s w = omega arith
const_written F.Nbt model.no_ints t f s w = (0, refl, omega arith)
const_written F.Nbt model.no_longs t f s w = (0, refl, omega arith)
const_written F.Nbt _ t f s w = tt
const_written F.Json (model.whole z) t f s w = tt
const_written F.Json (model.text b) t f s w = s.0.1
const_written F.Json (model.boolean b) t f s w = tt
const_written F.Json model.null t f s w = tt
const_written F.Json _ t f s w = absurd (let x : false ≡ true = f in cc)

version_written : (form : Form) (n : ℕ) (t : Plain) → IsWritable form t → IsWritable form (version_tree form n)
version_written F.Nbt n t w = tt
version_written F.Json n t w = tt

module _ (form : Form) where
  renamed_written : (x y : List ℕ) (t : Plain) → IsMap t → IsSpelledText y → IsWritable form t → IsMap (on_entries (moved x y) t) × IsWritable form (on_entries (moved x y) t)
  renamed_written x y t m n w = by (get_in x t) refl
    where
      by : (o : Option Plain) → get_in x t ≡ o → IsMap (on_entries (moved x y) t) × IsWritable form (on_entries (moved x y) t)
      by None e =
          let rest = removed_written form y (removed x t) (removed_written form x t w) in
          subst (λ u. IsMap u × IsWritable form u) (renamed_absent x y t m e) (map_without y (removed x t) (map_without x t m), rest)
      by (Some u) e =
          let rest = removed_written form y (removed x t) (removed_written form x t w) in
          let is_map = map_without y (removed x t) (map_without x t m) in
          subst (λ v. IsMap v × IsWritable form v) (renamed_there x y t u m e)
          (map_with y u (removed y (removed x t)) is_map, put_written form y u (removed y (removed x t)) is_map n (got_written form x u t e w) rest)

  added_written : (x : List ℕ) (c : Const) (t : Plain) → IsMap t → IsSpelledText x → IsTrue (is_of_form form (const_kind c)) → AllByRecursion IsSpelledText (const_texts c) → IsWritable form t → IsWritable form (on_entries (λ es. put x (const_tree c) (without x es)) t)
  added_written x c t m n f s w =
      subst (IsWritable form) (added x c t m) (put_written form x (const_tree c) (removed x t) (map_without x t m) n (const_written form c t f s w) (removed_written form x t w))

  pub edited_written : (e : Edits) (t : Plain) → IsMap t → AllByRecursion IsSpelledText (rule_texts (rule_with e)) → IsTrue (is_of_form form (const_kind e.1.1)) → IsWritable form t → IsWritable form (with_edits e t)
  edited_written e t m s f w =
      let one = renamed_written e.0.0 e.0.1 t m s.1.0 w in
      added_written e.1.0 e.1.1 (on_entries (moved e.0.0 e.0.1) t) one.0 s.1.1.0 f s.1.1.1 one.1

  -- ---- the version is taken out and put in
  module _ (xs : Path) (short : IsShort xs) where
    pub stripped_written : (t : Plain) → IsWritable form t → IsWritable form (strip xs t)
    stripped_written t w = subst (IsWritable form) (sym (strip_is xs short t)) (removed_written form (last_name xs) t w)

    pub version_put_written : (n : ℕ) (t : Plain) → AllByRecursion IsSpelledText xs → IsMap t → IsWritable form t → IsWritable form (put_version xs (version_tree form n) t)
    version_put_written n t s m w =
        subst (IsWritable form) (sym (put_is xs short (version_tree form n) t))
        (put_written form (last_name xs) (version_tree form n) t m (last_spelled xs short s) (version_written form n t w) w)

    pub version_put_map : (u t : Plain) → IsMap t → IsMap (put_version xs u t)
    version_put_map u t m = subst IsMap (sym (put_is xs short u t)) (map_with (last_name xs) u t m)
