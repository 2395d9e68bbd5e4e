-- When a tree inhabits a template: one level at a time, with the trees at points left to a parameter.
use Rattle.std.specs.Prelude.{◌≡◌, ◌⊎◌, ℕ, zero, suc, max, List, [], ◌∷◌, Bool, true, false, not, ◌&&◌, ◌||◌, Option, Some, is_some, MatchBool, IsTrue, if◌then◌else◌}
use Rattle.mig_model.specs.declared.form.Form.{Form}
use Rattle.mig_model.specs.declared.form.Form.TheVariants as F
use Rattle.mig_model.specs.declared.kind.Kind.{Kind}
use Rattle.mig_model.specs.declared.rest.Rest.{Rest}
use Rattle.mig_model.specs.Plain as plain
use Rattle.mig_model.specs.Plain.{Plain, Trees, no_tree, tree, Pairs, no_pair, pair, items, entries}
use Rattle.mig_model.specs.Kinds.{kind_of}
use Rattle.mig_model.specs.Names.{under, same_name}
use Rattle.mig_model.specs.Template.{Template, leaf, any, list, point, rec, sum, Fields, no_field, field, Choice, no_choice, choice, Cases, no_case, case, same_kind, is_of_form, is_must, is_open}

-- the pairs of a map
abbrev pub Entries : Type 0
Entries = List (List ℕ × Plain)

-- the tree is a list of such items
abbrev pub EachItem : (Plain → Type 0) → List Plain → Type 0
EachItem Q [] = Unit {0}
EachItem Q (t ∷ ts) = Q t × EachItem Q ts

abbrev pub IsListOf : (Plain → Type 0) → Plain → Type 0
IsListOf Q (plain.list ts) = EachItem Q (items ts)
IsListOf Q t = ⊥

-- the tree is a map with such pairs
abbrev pub EachEntry : (List ℕ → Plain → Type 0) → Entries → Type 0
EachEntry Q [] = Unit {0}
EachEntry Q (e ∷ es) = Q e.0 e.1 × EachEntry Q es

abbrev pub IsMapOf : (Entries → Type 0) → Plain → Type 0
IsMapOf Q (plain.map ps) = Q (entries ps)
IsMapOf Q t = ⊥

-- all are of the kind
abbrev pub are_of_kind : Kind → Trees → Bool
are_of_kind k no_tree = true
are_of_kind k (tree t ts) = same_kind (kind_of t) k && are_of_kind k ts

abbrev pub have_one_kind : Trees → Bool
have_one_kind no_tree = true
have_one_kind (tree t ts) = are_of_kind (kind_of t) ts

-- the form allows these items in one list: in NBT they have one kind
abbrev pub may_be_items : Form → Trees → Bool
may_be_items F.Nbt ts = have_one_kind ts
may_be_items F.Json ts = true

-- every level of the tree is of the form
abbrev mutual
  pub is_in_form : Form → Plain → Bool
  is_in_form form (plain.list ts) = may_be_items form ts && items_in_form form ts
  is_in_form form (plain.map ps) = entries_in_form form ps
  is_in_form form t = is_of_form form (kind_of t)

  pub items_in_form : Form → Trees → Bool
  items_in_form form no_tree = true
  items_in_form form (tree t ts) = is_in_form form t && items_in_form form ts

  pub entries_in_form : Form → Pairs → Bool
  entries_in_form form no_pair = true
  entries_in_form form (pair n t ps) = is_in_form form t && entries_in_form form ps

-- the tree is the text l
abbrev pub is_text : List ℕ → Option Plain → Bool
is_text l (Some (plain.text s)) = same_name s l
is_text l o = false

-- the map's tag is the literal l
abbrev pub has_tag : List ℕ → List ℕ → Entries → Bool
has_tag tag l es = is_text l (under tag es)

-- the map's tag is a text
abbrev pub is_some_text : Option Plain → Bool
is_some_text (Some (plain.text s)) = true
is_some_text o = false

abbrev pub has_text : List ℕ → Entries → Bool
has_text tag es = is_some_text (under tag es)

-- each Must field is there
abbrev pub has_musts : Fields → Entries → Bool
has_musts no_field es = true
has_musts (field x p V fs) es = (not (is_must p) || is_some (under x es)) && has_musts fs es

-- the tag is a case's literal, and the Must fields of that case are there; or it is another text, which is kept
abbrev pub has_case : List ℕ → Cases → Bool → Entries → Bool
has_case tag no_case kept es = kept && has_text tag es
has_case tag (case l fs cs) kept es = if has_tag tag l es then has_musts fs es else has_case tag cs kept es

abbrev pub is_complete : Fields → Choice → Entries → Bool
is_complete fs no_choice es = has_musts fs es
is_complete fs (choice tag cs kept) es = has_musts fs es && has_case tag cs kept es

-- a name that is no field stands only where the rest is open
abbrev pub Unknown : Rest → List ℕ → Plain → Type 0
Unknown r n t = IsTrue (is_open r)

-- a tree inhabits a template, where P says when a tree at a point does.
-- In a record each Must field is there, each pair whose name is a field inhabits that field's template,
-- the tag is a case's literal or a text that is kept, and any other pair stands only where the rest is open, or beside a tag that is no literal.
abbrev mutual
  pub Fits : Form → (List ℕ → Plain → Type 0) → Template → Plain → Type 0
  Fits form P (leaf k) t = kind_of t ≡ k
  Fits form P any t = IsTrue (is_in_form form t)
  Fits form P (list V) t = IsListOf (Fits form P V) t
  Fits form P (point n) t = P n t
  Fits form P (rec fs c r) t = IsMapOf (λ es. IsTrue (is_complete fs c es) × EachEntry (ChoiceFits form P c (FieldsFit form P fs) r es) es) t
  Fits form P (sum V W) t = Fits form P V t ⊎ Fits form P W t

  pub FieldsFit : Form → (List ℕ → Plain → Type 0) → Fields → (List ℕ → Plain → Type 0) → List ℕ → Plain → Type 0
  FieldsFit form P no_field Other n t = Other n t
  FieldsFit form P (field x p V fs) Other n t = MatchBool (same_name n x) (Fits form P V t) (FieldsFit form P fs Other n t)

  pub ChoiceFits : Form → (List ℕ → Plain → Type 0) → Choice → ((List ℕ → Plain → Type 0) → List ℕ → Plain → Type 0) → Rest → Entries → List ℕ → Plain → Type 0
  ChoiceFits form P no_choice Common r es n t = Common (Unknown r) n t
  ChoiceFits form P (choice tag cs kept) Common r es n t = MatchBool (same_name n tag) (Unit {0}) (Common (CasesFit form P tag cs r es) n t)

  pub CasesFit : Form → (List ℕ → Plain → Type 0) → List ℕ → Cases → Rest → Entries → List ℕ → Plain → Type 0
  CasesFit form P tag no_case r es n t = Unit {0}
  CasesFit form P tag (case l fs cs) r es n t = MatchBool (has_tag tag l es) (FieldsFit form P fs (Unknown r) n t) (CasesFit form P tag cs r es n t)

-- how many levels stand in a tree
abbrev mutual
  pub depth : Plain → ℕ
  depth (plain.list ts) = suc (items_depth ts)
  depth (plain.map ps) = suc (entries_depth ps)
  depth t = 0

  pub items_depth : Trees → ℕ
  items_depth no_tree = 0
  items_depth (tree t ts) = max (depth t) (items_depth ts)

  pub entries_depth : Pairs → ℕ
  entries_depth no_pair = 0
  entries_depth (pair n t ps) = max (depth t) (entries_depth ps)

-- the tree inhabits the body of n, with at most k points on each way down
abbrev pub InhabitsWithin : Form → (List ℕ → Template) → ℕ → List ℕ → Plain → Type 0
InhabitsWithin form body zero n t = ⊥
InhabitsWithin form body (suc k) n t = Fits form (InhabitsWithin form body k) (body n) t

-- the tree inhabits the body of the named type n. Points are guarded, so no way down has more points than levels
abbrev pub Inhabits : Form → (List ℕ → Template) → List ℕ → Plain → Type 0
Inhabits form body n t = InhabitsWithin form body (suc (depth t)) n t
