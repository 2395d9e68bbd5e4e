-- The trees of the JSON form.
use Rattle.std.specs.Prelude.{IsUtf8}
use Rattle.mig_model.specs.Plain as plain
use Rattle.mig_model.specs.Plain.{Plain}

-- the tree has JSON kinds alone, and its names and texts are UTF-8
abbrev mutual
  pub IsJson : Plain → Type 0
  IsJson (plain.text s) = IsUtf8 s
  IsJson (plain.list ts) = AreJson ts
  IsJson (plain.map ps) = ArePairsJson ps
  IsJson plain.null = Unit {0}
  IsJson (plain.boolean b) = Unit {0}
  IsJson (plain.whole z) = Unit {0}
  IsJson _ = ⊥

  pub AreJson : plain.Trees → Type 0
  AreJson plain.no_tree = Unit {0}
  AreJson (plain.tree t ts) = IsJson t × AreJson ts

  pub ArePairsJson : plain.Pairs → Type 0
  ArePairsJson plain.no_pair = Unit {0}
  ArePairsJson (plain.pair k t ps) = IsUtf8 k × IsJson t × ArePairsJson ps
