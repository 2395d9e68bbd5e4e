-- What the answers of the calls stand for.
use Rattle.std.specs.Prelude.{◌≡◌, ◌<◌, ℕ, Vec, true, false, None, Some, Result, Ok, Err, slice_get}
use Rattle.mig_model.specs.Const.{const_tree}
use Rattle.mig_model.specs.Names.{put, without, moved}
use Rattle.mig_model.specs.Plain.{Plain, on_entries}
use Rattle.mig_model.specs.Family.{Family}
use Rattle.mig_model.specs.Place.{place}
use Rattle.mig_tree.specs.declared.tree.Tree.{Tree}
use Rattle.mig_tree.specs.View.{plain_of}
use Rattle.mig_leaf.specs.View.{const_of}
use Rattle.mig_rule.specs.Chain.{Chain, versions}
use Rattle.mig_lift.specs.declared.fault.LiftFault.{LiftFault}
use Rattle.mig_lift.specs.declared.fault.LiftFault.TheVariants as fault
use Rattle.mig_lift.specs.declared.fault.NewFault.{NewFault}
use Rattle.mig_lift.specs.declared.fault.NewFault.TheVariants as refusal
use Rattle.mig_lift.specs.declared.small.SmallEdits.{SmallEdits}
use Rattle.mig_lift.specs.Lift.{Save, Cause, bytes, version, schema}
use Rattle.mig_lift.specs.Small.{Edits, NumberedEdits, is_small}

-- the fault is this cause, unless memory ran out
abbrev pub Causes : {A : Type 0} → LiftFault → Result A Cause → Type 0
Causes fault.Bytes is = is ≡ Err bytes
Causes (fault.Version k) is = is ≡ Err (version k)
Causes (fault.Schema p) is = is ≡ Err (schema p)
Causes fault.Memory is = Unit {0}

-- the answer on a tree is this, unless memory ran out
abbrev pub LiftsTree : Result (Tree × ℕ) LiftFault → Result (Plain × ℕ) Cause → Type 0
LiftsTree (Ok x) is = is ≡ Ok (plain_of x.0, x.1)
LiftsTree (Err e) is = Causes e is

-- the answer on bytes is this, unless memory ran out
abbrev pub Lifts : {A : Type 0} → Result (Vec ℕ A × ℕ) LiftFault → Result Save Cause → Type 0
Lifts (Ok x) is = is ≡ Ok (record { bytes = x.0.items; version = x.1 })
Lifts (Err e) is = Causes e is

-- why a chain and a target make no migrator; want of memory says nothing
abbrev pub IsNoSetting : NewFault → Chain → ℕ → Type 0
IsNoSetting refusal.NotYet c target = is_small c ≡ false
IsNoSetting (refusal.TargetBelow v) c target = (is_small c ≡ true) × (slice_get (versions c.steps) 0 ≡ Some v) × (target < v)
IsNoSetting refusal.Memory c target = Unit {0}

-- the tree comes back and has no wrong place at the root's type, or its first wrong place is told; want of memory says nothing
abbrev pub Checks : Result Tree LiftFault → Family → Plain → Type 0
Checks (Ok u) f t = (plain_of u ≡ t) × (place f f.root t ≡ None)
Checks (Err (fault.Schema p)) f t = place f f.root t ≡ Some p
Checks (Err fault.Memory) f t = Unit {0}
Checks (Err e) f t = ⊥

abbrev pub edits_of : SmallEdits → Edits
edits_of e = ((e.old_name.now, e.new_name.now), (e.added.now, const_of e.constant.now))

abbrev pub numbered_of : ℕ × SmallEdits → NumberedEdits
numbered_of x = (x.0, edits_of x.1)

-- what the edits do to a map
abbrev pub with_edits : Edits → Plain → Plain
with_edits e t = on_entries (λ es. put e.1.0 (const_tree e.1.1) (without e.1.0 es)) (on_entries (moved e.0.0 e.0.1) t)
