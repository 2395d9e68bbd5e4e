-- The frame of a value determines its rest.
use Rattle.std.proofs.Common.{◌≡◌, ◌∙◌, sym, ap, ap₂, refl, ℕ, List, [], ◌∷◌, ◌++◌, ◌⊎◌, inl, inr, length, map, Bool, true, false, Option, Some, None}
use Rattle.std.specs.Prelude.{option_to_list, is_some, IsTrue, if◌then◌else◌}
use Rattle.std.specs.List.{flat_map, AllByRecursion}
use Rattle.mig_value.specs.Typed.{Typed, list, left, right, point, items}
use Rattle.mig_path.specs.declared.side.Side.TheVariants.{Left, Right}
use Rattle.mig_path.specs.Fields.{null, value_under, with_value_under, tag_of, has_literal, is_tagged_as}
use Rattle.mig_path.specs.Path.{Path, here, field_at, may_field, case_of, each, side, cross, then_, Takes, foci, over, over_field, frame}
use Rattle.mig_path.specs.Rest.{Residual, whole, stays, hole, many, named, both, rest_for, field_rest, part_of, groups_of, join}
use Rattle.mig_path.specs.Laws.{IsDetermined}
use Rattle.std.proofs.lemmas.List.{length-map, map-append}
use Rattle.mig_path.proofs.Records.{with_with, under_with, tag_with}
use Rattle.mig_path.proofs.Over.{parted}
use Rattle.mig_value.proofs.Views.{items_again}

-- what is done leaves the tag, or no tag at all
abbrev pub LeavesTag : (Typed → Typed) → Type 0
LeavesTag f = (u : Typed) → (tag_of (f u) ≡ None) ⊎ (tag_of (f u) ≡ tag_of u)

field_tag : (x : List ℕ) (f : Typed → Typed) (o : Option Typed) (v : Typed) → tag_of (over_field x f o v) ≡ tag_of v
field_tag x f None v = refl
field_tag x f (Some w) v = tag_with x (f w) v

case_tag : (f : Typed → Typed) → LeavesTag f → (b : Bool) (v : Typed) → (tag_of (if b then f v else v) ≡ None) ⊎ (tag_of (if b then f v else v) ≡ tag_of v)
case_tag f h true v = h v
case_tag f h false v = inr refl

leaves_tag : (o : Path) (f : Typed → Typed) → LeavesTag f → LeavesTag (over o f)
leaves_tag here f h v = h v
leaves_tag (field_at x) f h v = inr (field_tag x f (value_under x v) v)
leaves_tag (may_field x) f h v = inr (field_tag x f (value_under x v) v)
leaves_tag (case_of l) f h v = case_tag f h (has_literal l v) v
leaves_tag each f h (list vs) = inr refl
leaves_tag each f h v = inr refl
leaves_tag (side Left) f h (left v) = inr refl
leaves_tag (side Left) f h v = inr refl
leaves_tag (side Right) f h (right v) = inr refl
leaves_tag (side Right) f h v = inr refl
leaves_tag cross f h (point n v) = inr refl
leaves_tag cross f h v = inr refl
leaves_tag (then_ p q) f h v = leaves_tag p (over q f) (leaves_tag q f h) v

-- the two values have the same rest, and what is done at their foci gives the same
pub record Alike (o : Path) (f g : Typed → Typed) (v w : Typed) : Type 0 where
  pub rest : rest_for o v ≡ rest_for o w
  pub done : map f (foci o v) ≡ map g (foci o w)

-- ---- a value under a name
record AlikeUnder (x : List ℕ) (f g : Typed → Typed) (v w : Typed) (m n : Option Typed) : Type 0 where
  rest : field_rest x m v ≡ field_rest x n w
  done : map f (option_to_list m) ≡ map g (option_to_list n)

field_alike : (x : List ℕ) (f g : Typed → Typed) (v w : Typed) (m n : Option Typed) → value_under x v ≡ m → value_under x w ≡ n → over_field x f m v ≡ over_field x g n w → AlikeUnder x f g v w m n
field_alike x f g v w None None d e h = record { rest = ap stays h; done = refl }
field_alike x f g v w (Some a) (Some b) d e h =
    let same : Some (f a) ≡ Some (g b) = sym (under_with x a (f a) v d) ∙ ap (value_under x) h ∙ under_with x b (g b) w e in
    record {
      rest = ap (hole x) (sym (with_with x null (f a) v) ∙ ap (with_value_under x null) h ∙ with_with x null (g b) w);
      done = ap (λ (o : Option Typed). option_to_list o) same;
    }
field_alike x f g v w None (Some b) d e h =
    let wrong : None ≡ Some (g b) = sym d ∙ ap (value_under x) h ∙ under_with x b (g b) w e in
    absurd cc
field_alike x f g v w (Some a) None d e h =
    let wrong : Some (f a) ≡ None = sym (under_with x a (f a) v d) ∙ ap (value_under x) h ∙ e in
    absurd cc

-- ---- a case
no_literal : (l : List ℕ) (f : Typed → Typed) (v w : Typed) → has_literal l v ≡ true → has_literal l w ≡ false → IsTrue (is_some (tag_of w)) → (tag_of (f v) ≡ None) ⊎ (tag_of (f v) ≡ tag_of v) → f v ≡ w → ⊥
no_literal l f v w a b t (inl h) e = let wrong : false ≡ true = sym (ap is_some h) ∙ ap (λ (u : Typed). is_some (tag_of u)) e ∙ t in absurd cc
no_literal l f v w a b t (inr h) e = let wrong : true ≡ false = sym a ∙ sym (ap (is_tagged_as l) h) ∙ ap (has_literal l) e ∙ b in absurd cc

case_alike : (l : List ℕ) (f g : Typed → Typed) → LeavesTag f → LeavesTag g → (v w : Typed) → IsTrue (is_some (tag_of v)) → IsTrue (is_some (tag_of w)) → (b c : Bool) → has_literal l v ≡ b → has_literal l w ≡ c → (if b then f v else v) ≡ (if c then g w else w) → ((if b then whole else stays v) ≡ (if c then whole else stays w)) × (map f (if b then v ∷ [] else []) ≡ map g (if c then w ∷ [] else []))
case_alike l f g p q v w s t true true d e h = (refl, ap (λ (u : Typed). u ∷ []) h)
case_alike l f g p q v w s t false false d e h = (ap stays h, refl)
case_alike l f g p q v w s t true false d e h = absurd (no_literal l f v w d e t (p v) h)
case_alike l f g p q v w s t false true d e h = absurd (no_literal l g w v e d s (q w) (sym h))

-- ---- the second optic, at each focus of the first
abbrev AlikeAt : Path → Type 0
AlikeAt o = (f g : Typed → Typed) → LeavesTag f → LeavesTag g → (v w : Typed) → Takes o v → Takes o w → over o f v ≡ over o g w → Alike o f g v w

record EachAlike (q : Path) (f g : Typed → Typed) (vs ws : List Typed) : Type 0 where
  parts : map (part_of q) vs ≡ map (part_of q) ws
  done : map f (flat_map (foci q) vs) ≡ map g (flat_map (foci q) ws)

first_is : (a b : Typed) (vs ws : List Typed) → a ∷ vs ≡ b ∷ ws → a ≡ b
first_is a b vs ws e = cc

rest_are : (a b : Typed) (vs ws : List Typed) → a ∷ vs ≡ b ∷ ws → vs ≡ ws
rest_are a b vs ws e = cc

each_alike : (q : Path) → AlikeAt q → (f g : Typed → Typed) → LeavesTag f → LeavesTag g → (vs ws : List Typed) → AllByRecursion (Takes q) vs → AllByRecursion (Takes q) ws → map (over q f) vs ≡ map (over q g) ws → EachAlike q f g vs ws
each_alike q h f g j k [] [] s t e = record { parts = refl; done = refl }
each_alike q h f g j k [] (w ∷ ws) s t e = absurd cc
each_alike q h f g j k (v ∷ vs) [] s t e = absurd cc
each_alike q h f g j k (v ∷ vs) (w ∷ ws) s t e =
    let here = h f g j k v w s.0 t.0 (first_is (over q f v) (over q g w) (map (over q f) vs) (map (over q g) ws) e) in
    let others = each_alike q h f g j k vs ws s.1 t.1 (rest_are (over q f v) (over q g w) (map (over q f) vs) (map (over q g) ws) e) in
    let as_many : length (foci q v) ≡ length (foci q w) = sym (length-map (foci q v) f) ∙ ap length here.done ∙ length-map (foci q w) g in
    record {
      parts = ap₂ (λ (a : ℕ × Residual) (l : List (ℕ × Residual)). a ∷ l) (ap₂ (λ (m : ℕ) (r : Residual). (m, r)) as_many here.rest) others.parts;
      done = map-append f (foci q v) (flat_map (foci q) vs) ∙ ap₂ (λ (a b : List Typed). a ++ b) here.done others.done ∙ sym (map-append g (foci q w) (flat_map (foci q) ws));
    }

abbrev list_items : Typed → List Typed
list_items (list vs) = items vs
list_items v = []

pub alike : (o : Path) → AlikeAt o
alike here f g j k v w s t e = record { rest = refl; done = ap (λ (u : Typed). u ∷ []) e }
alike (field_at x) f g j k v w s t e =
    let h = field_alike x f g v w (value_under x v) (value_under x w) refl refl e in
    record { rest = h.rest; done = h.done }
alike (may_field x) f g j k v w s t e =
    let h = field_alike x f g v w (value_under x v) (value_under x w) refl refl e in
    record { rest = h.rest; done = h.done }
alike (case_of l) f g j k v w s t e =
    let h = case_alike l f g j k v w s t (has_literal l v) (has_literal l w) refl refl e in
    record { rest = h.0; done = h.1 }
alike each f g j k (list vs) (list ws) s t e =
    let same : map f (items vs) ≡ map g (items ws) = sym (items_again (map f (items vs))) ∙ ap list_items e ∙ items_again (map g (items ws)) in
    record { rest = ap many (sym (length-map (items vs) f) ∙ ap length same ∙ length-map (items ws) g); done = same }
alike each f g j k (list vs) w s t e = absurd t
alike each f g j k v w s t e = absurd s
alike (side Left) f g j k (left v) (left w) s t e = record { rest = refl; done = let same : f v ≡ g w = cc in ap (λ (u : Typed). u ∷ []) same }
alike (side Left) f g j k (right v) (right w) s t e = record { rest = ap stays e; done = refl }
alike (side Left) f g j k (left v) (right w) s t e = absurd cc
alike (side Left) f g j k (right v) (left w) s t e = absurd cc
alike (side Left) f g j k (left v) w s t e = absurd t
alike (side Left) f g j k (right v) w s t e = absurd t
alike (side Left) f g j k v w s t e = absurd s
alike (side Right) f g j k (right v) (right w) s t e = record { rest = refl; done = let same : f v ≡ g w = cc in ap (λ (u : Typed). u ∷ []) same }
alike (side Right) f g j k (left v) (left w) s t e = record { rest = ap stays e; done = refl }
alike (side Right) f g j k (right v) (left w) s t e = absurd cc
alike (side Right) f g j k (left v) (right w) s t e = absurd cc
alike (side Right) f g j k (left v) w s t e = absurd t
alike (side Right) f g j k (right v) w s t e = absurd t
alike (side Right) f g j k v w s t e = absurd s
alike cross f g j k (point m v) (point n w) s t e =
    let names : m ≡ n = cc in
    let same : f v ≡ g w = cc in
    record { rest = ap named names; done = ap (λ (u : Typed). u ∷ []) same }
alike cross f g j k (point m v) w s t e = absurd t
alike cross f g j k v w s t e = absurd s
alike (then_ p q) f g j k v w s t e =
    let first = alike p (over q f) (over q g) (leaves_tag q f j) (leaves_tag q g k) v w s.0 t.0 e in
    let others = each_alike q (alike q) f g j k (foci p v) (foci p w) s.1 t.1 first.done in
    record { rest = ap₂ (λ (r : Residual) (l : List (ℕ × Residual)). both r (groups_of l)) first.rest others.parts; done = others.done }

pub determined : (o : Path) (v w : Typed) → Takes o v → Takes o w → frame o v ≡ frame o w → IsDetermined o v w
determined o v w s t e =
    let same = (alike o (λ u. null) (λ u. null) (λ u. inl refl) (λ u. inl refl) v w s t e).rest in
    record { rest = same; value = λ f. sym (parted o v s) ∙ ap₂ join same f ∙ parted o w t }
