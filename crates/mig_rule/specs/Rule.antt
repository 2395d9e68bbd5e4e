-- Rules, paths and fixes as plain data.
use Rattle.std.specs.Prelude.{ℕ, List}
use Rattle.mig_model.specs.Leaf.{LeafFn}
use Rattle.mig_model.specs.Template.{Template}
use Rattle.mig_field.specs.FieldFn.{FieldFn}

-- a rule is applied to a part of the body of a named type
pub data Rule : Type 0 where
  nop : Rule
  function : FieldFn → Rule
  on : List ℕ → Rule → Rule
  at : List ℕ → Rule → Rule
  seq : Rule → Rule → Rule
  or_else : Rule → Rule → Rule
  all : Rule → Rule
  everywhere : Rule → Rule

-- a step into the field of a name, into the items of a list, into a side of a sum, or one that stays at the maps whose tag is a literal
pub data PathStep : Type 0 where
  named : List ℕ → PathStep
  each left right : PathStep
  in_case : List ℕ → PathStep

pub data Fix : Type 0 where
  rule : Rule → Fix
  deep : List PathStep → LeafFn → Fix
  new_type : List ℕ → Template → Fix
  drop_type : List ℕ → Fix
