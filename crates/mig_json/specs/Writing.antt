-- The canonical text of a JSON tree.
use Rattle.std.specs.Prelude.{ℕ, List}
use Rattle.serde_json.specs.Data as json
use Rattle.serde_json.specs.Data.{Data}
use Rattle.serde_json.specs.Find.{of_integer}
use Rattle.serde_json.specs.Written.{compact_text}
use Rattle.mig_model.specs.Plain as plain
use Rattle.mig_model.specs.Plain.{Plain}

-- the value of a JSON tree; other kinds have none, and null stands for them
abbrev mutual
  pub data_of : Plain → Data
  data_of (plain.text s) = json.string s
  data_of (plain.list ts) = json.array (items_of ts)
  data_of (plain.map ps) = json.object (members_of ps)
  data_of (plain.boolean b) = json.boolean b
  data_of (plain.whole z) = json.number (of_integer z)
  data_of _ = json.null

  pub items_of : plain.Trees → json.Items
  items_of plain.no_tree = json.no_items
  items_of (plain.tree t ts) = json.item (data_of t) (items_of ts)

  pub members_of : plain.Pairs → json.Members
  members_of plain.no_pair = json.no_members
  members_of (plain.pair k t ps) = json.member k (data_of t) (members_of ps)

-- the compact text of the tree's value
abbrev pub json_text : Plain → List ℕ
json_text t = compact_text (data_of t)
