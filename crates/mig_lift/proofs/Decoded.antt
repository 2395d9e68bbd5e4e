-- What becomes of the bytes of a save.
use Rattle.std.proofs.Common.{◌≡◌, ℕ, List, [], option_map, true, false, Option, Some, None, refl, sym, ap, subst, ◌∙◌}
use Rattle.std.specs.Prelude.{Result, Ok, Err, Vec}
use Rattle.std.specs.Result.{IsErr, IsErrAnd}
use Rattle.mig_model.specs.declared.form.Form.{Form}
use Rattle.mig_model.specs.declared.form.Form.TheVariants as F
use Rattle.mig_model.specs.Plain.{Plain}
use Rattle.mig_json.specs.Save.{JsonSave}
use Rattle.mig_json.specs.Decode.{decode_json}
use Rattle.mig_json.proofs.Decoded.{not_decoded}
use Rattle.mig_json.proofs.Decoded.{decoded as json_decoded}
use Rattle.mig_nbt.specs.Format.{NbtSave}
use Rattle.mig_nbt.specs.Reading.{save_at}
use Rattle.mig_nbt.proofs.Laws.{save_sound, save_complete}
use Rattle.mig_tree.specs.declared.tree.Tree.{Tree}
use Rattle.mig_rule.specs.Chain.{Chain}
use Rattle.mig_lift.specs.Lift.{Save, Cause, lift, lift_tree, decoded, encoded, decode, bytes}
use Rattle.mig_lift.specs.declared.fault.LiftFault.{LiftFault}
use Rattle.mig_lift.specs.declared.fault.LiftFault.TheVariants as fault
use Rattle.mig_lift.specs.View.{Causes, Lifts, LiftsTree}

module _ (c : Chain) (aim : ℕ) (b : List ℕ) (e : c.form ≡ F.Nbt) where
  by_read : (o : Option (List ℕ × Plain)) → save_at b ≡ o → lift c aim b ≡ decoded c aim o
  unfolding lift
  by_read o h = ap (λ f. decoded c aim (decode f b)) e ∙ ap (decoded c aim) h

  pub nothing : ((name : List ℕ) (t : Plain) → NbtSave b name t → ⊥) → lift c aim b ≡ Err bytes
  nothing no_save = by (save_at b) refl
    where
      by : (o : Option (List ℕ × Plain)) → save_at b ≡ o → lift c aim b ≡ Err bytes
      by None h = by_read None h
      by (Some x) h = absurd (no_save x.0 x.1 (save_sound b x.0 x.1 h))

  pub something : (name : List ℕ) (t : Plain) → NbtSave b name t → lift c aim b ≡ encoded c.form name (lift_tree c aim t)
  something name t save = by_read (Some (name, t)) (save_complete b name t save)

module _ (c : Chain) (aim : ℕ) (b : List ℕ) (e : c.form ≡ F.Json) where
  by_parse : (o : Option Plain) → decode_json b ≡ o → lift c aim b ≡ decoded c aim (option_map (λ t. ([], t)) o)
  unfolding lift
  by_parse o h = ap (λ f. decoded c aim (decode f b)) e ∙ ap (λ p. decoded c aim (option_map (λ t. ([], t)) p)) h

  pub no_json : ((t : Plain) → JsonSave b t → ⊥) → lift c aim b ≡ Err bytes
  no_json no_save = by_parse None (not_decoded b no_save)

  pub some_json : (t : Plain) → JsonSave b t → lift c aim b ≡ encoded c.form [] (lift_tree c aim t)
  some_json t save = by_parse (Some t) (json_decoded b t save)

-- a cause of the tree is one of the save
pub caused : (form : Form) (name : List ℕ) (e : LiftFault) (r : Result (Plain × ℕ) Cause) → Causes e r → Causes e (encoded form name r)
caused form name fault.Bytes r c = ap (encoded form name) c
caused form name (fault.Version k) r c = ap (encoded form name) c
caused form name (fault.Schema p) r c = ap (encoded form name) c
caused form name fault.Memory r c = tt

-- a fault that is passed on
pub passed_tree : (e : LiftFault) (r : Result (Tree × ℕ) LiftFault) (is : Result (Plain × ℕ) Cause) → IsErr r × IsErrAnd r (λ d. d ≡ e) → Causes e is → LiftsTree r is
passed_tree e (Ok x) is given c = absurd (let h : false ≡ true = given.0 in cc)
passed_tree e (Err d) is given c = subst (λ f. Causes f is) (sym given.1) c

pub passed : {A : Type 0} (e : LiftFault) (r : Result (Vec ℕ A × ℕ) LiftFault) (is : Result Save Cause) → IsErr r × IsErrAnd r (λ d. d ≡ e) → Causes e is → Lifts r is
passed e (Ok x) is given c = absurd (let h : false ≡ true = given.0 in cc)
passed e (Err d) is given c = subst (λ f. Causes f is) (sym given.1) c
