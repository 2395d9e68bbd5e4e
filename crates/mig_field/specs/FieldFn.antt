-- Field functions as plain data.
use Rattle.std.specs.Prelude.{ℕ, List, [], false, Option, pos}
use Rattle.mig_model.specs.declared.kind.Kind.{Kind}
use Rattle.mig_model.specs.declared.kind.Kind.TheVariants as K
use Rattle.mig_model.specs.Plain as plain
use Rattle.mig_model.specs.Plain.{Plain, no_tree}
use Rattle.mig_model.specs.Template.{Template, leaf, list, Field}
use Rattle.mig_model.specs.Const.{Const, byte, short, int, long, whole, float, double, text, boolean, null, no_bytes, no_ints, no_longs, const_kind, const_tree}
use Rattle.mig_model.specs.Leaf.{LeafFn}

-- the common fields of a record, or the fields of the case with a literal
pub data Scope : Type 0 where
  common : Scope
  in_case : List ℕ → Scope

-- what a new field gets: a constant, or an empty list of such items
pub data Fill : Type 0 where
  constant : Const → Fill
  empty_list : Template → Fill

abbrev pub fill_template : Fill → Template
fill_template (constant c) = leaf (const_kind c)
fill_template (empty_list V) = list V

-- 0, zero bits, the empty text, false, null, or the empty array; the other kinds are no leaves
abbrev pub zero : Kind → Const
zero K.Byte = byte (pos 0)
zero K.Short = short (pos 0)
zero K.Int = int (pos 0)
zero K.Long = long (pos 0)
zero K.Float = float 0
zero K.Double = double 0
zero K.Text = text []
zero K.Bytes = no_bytes
zero K.Ints = no_ints
zero K.Longs = no_longs
zero K.Bool = boolean false
zero K.Whole = whole (pos 0)
zero k = null

abbrev pub fill_tree : Fill → Plain
fill_tree (constant c) = const_tree c
fill_tree (empty_list V) = plain.list no_tree

-- what is done to the fields of a record; in `learn`, None stands for `any`
pub data FieldOp : Type 0 where
  rename : List ℕ → List ℕ → FieldOp
  drop : List ℕ → FieldOp
  add : List ℕ → Fill → FieldOp
  learn : List ℕ → Option Kind → FieldOp
  forget : List ℕ → FieldOp
  default : List ℕ → Fill → FieldOp
  maybe : List ℕ → FieldOp
  map_leaf : List ℕ → LeafFn → FieldOp
  nest : List (List ℕ) → List ℕ → FieldOp
  unnest : List ℕ → FieldOp
  wrap : List ℕ → FieldOp
  unify : List ℕ → LeafFn → LeafFn → FieldOp
  retag : List ℕ → List ℕ → FieldOp
  add_case : List ℕ → List Field → FieldOp

pub record FieldFn : Type 0 where
  pub scope : Scope
  pub op : FieldOp
