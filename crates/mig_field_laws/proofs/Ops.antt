-- Each function on the fields of a scope but nesting and unnesting.
use Rattle.std.proofs.Common.{◌≡◌, ℕ, List, Bool, true, false, Option, Some, None, refl, sym, ap, subst, ◌∙◌, ◌⊎◌, arith}
use Rattle.std.specs.Prelude.{not, ◌||◌, ◌&&◌, is_some, option_map, if◌then◌else◌}
use Rattle.mig_model.specs.declared.form.Form.{Form}
use Rattle.mig_model.specs.declared.kind.Kind.{Kind}
use Rattle.mig_model.specs.declared.presence.Presence.TheVariants.{Must, May}
use Rattle.mig_model.specs.Plain as plain
use Rattle.mig_model.specs.Plain.{Plain, no_tree, tree}
use Rattle.mig_model.specs.Kinds.{kind_of}
use Rattle.mig_model.specs.Names.{same_name, under, has, without, put, moved, changed}
use Rattle.mig_model.specs.Template.{Template, leaf, list, sum, Field, same_kind, has_kind, is_must}
use Rattle.mig_model.specs.Inhabits.{Entries, Fits, is_in_form}
use Rattle.mig_model.specs.Leaf.{LeafFn, leaf_out, leaf_value}
use Rattle.mig_model.proofs.Bools.{split_and}
use Rattle.mig_model.proofs.SameNames.{same_kind_itself, same_kind_is}
use Rattle.mig_leaf.proofs.KindOut.{const_has_kind}
use Rattle.mig_fold.specs.Fold.{treat}
use Rattle.mig_fold.proofs.Treats.{Treatment}
use Rattle.mig_field.specs.FieldFn.{Fill, constant, empty_list, fill_template, fill_tree, default, map_leaf, unify, learn}
use Rattle.mig_field.specs.NewRecord.{Scoped, FieldType, filled, lessened, learned, leaf_after, leaf_of_both, common_kind, with_template}
use Rattle.mig_field.specs.SameTemplate.{same_template}
use Rattle.mig_field.specs.Act.{edit, is_learned, left_kind, unified}
use Rattle.mig_model.proofs.Edits.{first}
use Rattle.mig_action.proofs.Ops.{IsFree}
use Rattle.mig_field.proofs.Same.{same_is}
use Rattle.mig_action.proofs.Values.{so, mapped, leaf_kind_out, both_kinds}
use Rattle.mig_field_laws.proofs.Places.{Stands}
use Rattle.mig_field_laws.proofs.Scopes.{field_put, field_without, field_moved, OneEdit, dropping, putting, staying, changing, defaulting, learning, moving, At, Scene, alone, own, Step}

-- ---- single trees
pub same_at : (o : Option Plain) → o ≡ option_map (λ t. t) o
same_at None = refl
same_at (Some t) = refl

leaf_kind : (f : LeafFn) (t : Plain) (k j : Kind) → kind_of t ≡ k → leaf_out f k ≡ Some j → kind_of (leaf_value f t) ≡ j
leaf_kind f t k j e h = leaf_kind_out (λ v. Unit {0}) (λ n v. Unit {0}) f t k j e h

-- whichever of the two functions is taken, the kind is the same
unified_kind : (f g : LeafFn) (a b j : Kind) (t : Plain) → leaf_out f a ≡ Some j → leaf_out g b ≡ Some j → (kind_of t ≡ a) ⊎ (kind_of t ≡ b) → kind_of (unified f g a t) ≡ j
unified_kind f g a b j t h k e = grind (arith, leaf_kind f t a j, leaf_kind g t b j, same_kind_is (kind_of t) a, same_kind_itself a)

module _ (form : Form) (P : List ℕ → Plain → Type 0) (w : Bool) (h : Treatment) (o : Bool) where
  pub fill_fits : (c : Fill) → Fits form P (fill_template c) (fill_tree c)
  fill_fits (constant c) = const_has_kind c
  fill_fits (empty_list V) = tt

  pub fill_treated : (c : Fill) → fill_tree c ≡ treat form h (fill_template c) (fill_tree c)
  fill_treated (constant c) = refl
  fill_treated (empty_list V) = refl

  -- an unknown tree is learned, where it has the kind
  learned_at : (k : Option Kind) (u v : Option Plain) → (w ≡ true → (t : Plain) → u ≡ Some t → is_in_form form t ≡ true) → At form P w h o None u v
      → At form P w h o (Some (May, learned k)) (if is_learned k u then u else None) (if is_learned k v then v else None)
  learned_at k u v i a = subst (λ (z : Option Plain). At form P w h o (Some (May, learned k)) (if is_learned k u then u else None) (if is_learned k z then z else None))
      (sym (a.1 ∙ sym (same_at u))) (by k u i)
    where
      of_kind : (j : Kind) (t : Plain) (b : Bool) → same_kind (kind_of t) j ≡ b → At form P w h o (Some (May, leaf j)) (if b then Some t else None) (if b then Some t else None)
      of_kind j t true e = (λ y. same_kind_is (kind_of t) j e, refl)
      of_kind j t false e = (λ y. refl, refl)

      by : (k : Option Kind) (u : Option Plain) → (w ≡ true → (t : Plain) → u ≡ Some t → is_in_form form t ≡ true)
          → At form P w h o (Some (May, learned k)) (if is_learned k u then u else None) (if is_learned k u then u else None)
      by None None i = (λ y. refl, refl)
      by None (Some t) i = (λ y. i y t refl, refl)
      by (Some j) None i = (λ y. refl, refl)
      by (Some j) (Some t) i = of_kind j t (same_kind (kind_of t) j) refl

  forgotten_at : (f : FieldType) (u v : Option Plain) → o ≡ true → ((t : Plain) → treat form h f.1 t ≡ t) → At form P w h o (Some f) u v → At form P w h o None u v
  forgotten_at f None v k i a = (λ y. tt, a.1)
  forgotten_at f (Some t) v k i a = (λ y. k, a.1 ∙ ap Some (i t))

  filled_at : (c : Fill) (f : FieldType) (u v : Option Plain) → f.1 ≡ fill_template c → At form P w h o (Some f) u v
      → At form P w h o (Some (Must, f.1)) (first u (Some (fill_tree c))) (first v (Some (fill_tree c)))
  filled_at c f u v e a = subst (λ (z : Option Plain). At form P w h o (Some (Must, f.1)) (first u (Some (fill_tree c))) (first z (Some (fill_tree c)))) (sym a.1) (by u a.0)
    where
      by : (u : Option Plain) → (w ≡ true → Stands form P o (Some f) u) → At form P w h o (Some (Must, f.1)) (first u (Some (fill_tree c)))
          (first (option_map (treat form h f.1) u) (Some (fill_tree c)))
      by None k = (λ y. subst (λ V. Fits form P V (fill_tree c)) (sym e) (fill_fits c), ap Some (fill_treated c ∙ ap (λ V. treat form h V (fill_tree c)) (sym e)))
      by (Some t) k = (k, refl)

  lessened_at : (V : Template) (u v : Option Plain) → At form P w h o (Some (Must, V)) u v → At form P w h o (Some (May, V)) u v
  lessened_at V None v a = (λ y. refl, a.1)
  lessened_at V (Some t) v a = a

  -- a tree is changed in place
  changed_at : (f : FieldType) (W : Template) (g : Plain → Plain) → ((t : Plain) → Fits form P f.1 t → Fits form P W (g t)) → ((t : Plain) → g (treat form h f.1 t) ≡ treat form h W (g t))
      → (u v : Option Plain) → At form P w h o (Some f) u v → At form P w h o (Some (f.0, W)) (option_map g u) (option_map g v)
  changed_at f W g k e u v a = subst (λ (z : Option Plain). At form P w h o (Some (f.0, W)) (option_map g u) (option_map g z)) (sym a.1) (by u a.0)
    where
      by : (u : Option Plain) → (w ≡ true → Stands form P o (Some f) u) → At form P w h o (Some (f.0, W)) (option_map g u) (option_map g (option_map (treat form h f.1) u))
      by None s = (s, refl)
      by (Some t) s = (λ y. k t (s y), ap Some (e t))

  leaf_fits : (f : LeafFn) (V W : Template) → leaf_after f V ≡ Some W → (t : Plain) → Fits form P V t → Fits form P W (leaf_value f t)
  leaf_fits f (leaf k) W e t s = let m = mapped (λ j. leaf j) (leaf_out f k) W e in subst (λ X. Fits form P X (leaf_value f t)) m.2 (leaf_kind f t k m.0 s m.1)
  leaf_fits f V W e t s = cc

  leaf_treated : (f : LeafFn) (V W : Template) → leaf_after f V ≡ Some W → (t : Plain) → leaf_value f (treat form h V t) ≡ treat form h W (leaf_value f t)
  leaf_treated f (leaf k) W e t = let m = mapped (λ j. leaf j) (leaf_out f k) W e in subst (λ X. leaf_value f t ≡ treat form h X (leaf_value f t)) m.2 refl
  leaf_treated f V W e t = cc

  module _ (f g : LeafFn) (a b : Kind) (W : Template) (e : leaf_of_both f g (sum (leaf a) (leaf b)) ≡ Some W) where
    sum_fits : (t : Plain) → Fits form P (sum (leaf a) (leaf b)) t → Fits form P W (unified f g a t)
    sum_fits t s =
        let m = mapped (λ j. leaf j) (common_kind (leaf_out f a) (leaf_out g b)) W e in
        let ks = both_kinds (λ v. Unit {0}) (λ n v. Unit {0}) (leaf_out f a) (leaf_out g b) m.0 m.1 in
        subst (λ X. Fits form P X (unified f g a t)) m.2 (unified_kind f g a b m.0 t ks.0 ks.1 s)

    sum_treated : (t : Plain) → unified f g a (treat form h (sum (leaf a) (leaf b)) t) ≡ treat form h W (unified f g a t)
    sum_treated t =
        let m = mapped (λ j. leaf j) (common_kind (leaf_out f a) (leaf_out g b)) W e in
        subst (λ X. unified f g a (treat form h (sum (leaf a) (leaf b)) t) ≡ treat form h X (unified f g a t)) m.2
        (ap (unified f g a) (idle (has_kind form (leaf a) (kind_of t)) (has_kind form (leaf b) (kind_of t))))
      where
        idle : (x y : Bool) → (if x then t else (if y then t else t)) ≡ t
        idle x y = grind arith

  -- ---- the functions
  module _ (other : List ℕ → Option FieldType) (s : Scoped) (es ts : Entries) (c : Scene form P w h o other s es ts) where
    abbrev Is : (Entries → Entries) → List Field → Type 0
    Is = Step form P w h o other s es ts c

    here : (n : List ℕ) → s.taken n ≡ false → At form P w h o (under n s.fields) (under n es) (under n ts)
    here = own form P w h o other s es ts c

    pub renames : (x y : List ℕ) → has x s.fields ≡ true → IsFree s y → Is (moved x y) (moved x y s.fields)
    renames x y there f = record {
      at = λ n. same_name n y || same_name n x;
      places = λ n. if same_name n y then under x s.fields else None;
      fields = field_moved s c.fields x y there f.free;
      trees = λ n es. if same_name n y then under x es else None;
      edit = moving x y;
      each = λ n k. by (same_name n y);
    }
      where
        by : (b : Bool) → At form P w h o (if b then under x s.fields else None) (if b then under x es else None) (if b then under x ts else None)
        by true = here x (c.fields.apart x there)
        by false = (λ y. tt, refl)

    pub drops : (x : List ℕ) → has x s.fields ≡ true → Is (without x) (without x s.fields)
    drops x there = record { at = λ n. same_name n x; places = λ n. None; fields = field_without s c.fields x there; trees = λ n es. None; edit = dropping x; each = λ n k. (λ y. tt, refl) }

    pub adds : (x : List ℕ) (g : Fill) → IsFree s x → Is (λ es. put x (fill_tree g) (without x es)) (put x (Must, fill_template g) s.fields)
    adds x g f = record {
      at = λ n. same_name n x;
      places = λ n. Some (Must, fill_template g);
      fields = field_put s c.fields x (Must, fill_template g) f.free;
      trees = λ n es. Some (fill_tree g);
      edit = putting x (fill_tree g);
      each = λ n k. (λ y. fill_fits g, ap Some (fill_treated g));
    }

    pub learns : (x : List ℕ) (k : Option Kind) → IsFree s x → Is (edit (learn x k) s.fields) (put x (May, learned k) s.fields)
    learns x k f = record {
      at = λ n. same_name n x;
      places = λ n. Some (May, learned k);
      fields = field_put s c.fields x (May, learned k) f.free;
      trees = λ n es. if is_learned k (under x es) then under x es else None;
      edit = learning x k;
      each = λ n q. learned_at k (under x es) (under x ts) (λ y t q. c.unknown y x t (λ j. first (f.absent j) (alone form P w h o other s es ts c x f.free j)) q)
          (subst (λ F. At form P w h o F (under x es) (under x ts)) f.absent (here x f.free));
    }

    pub forgets : (x : List ℕ) → has x s.fields ≡ true → o ≡ true → ((f : FieldType) → under x s.fields ≡ Some f → (t : Plain) → treat form h f.1 t ≡ t) → Is (λ es. es) (without x s.fields)
    forgets x there k i = record {
      at = λ n. same_name n x;
      places = λ n. None;
      fields = field_without s c.fields x there;
      trees = λ n es. under x es;
      edit = staying x;
      each = λ n q. by (under x s.fields) there i (here x (c.fields.apart x there));
    }
      where
        by : (F : Option FieldType) → is_some F ≡ true → ((f : FieldType) → F ≡ Some f → (t : Plain) → treat form h f.1 t ≡ t) → At form P w h o F (under x es) (under x ts)
            → At form P w h o None (under x es) (under x ts)
        by None e i a = cc
        by (Some f) e i a = forgotten_at f (under x es) (under x ts) k (i f refl) a

    -- ---- one field in its place
    module _ (x : List ℕ) (old new : FieldType) (there : under x s.fields ≡ Some old) where
      free : s.taken x ≡ false
      free = c.fields.apart x (ap is_some there)

      was : At form P w h o (Some old) (under x es) (under x ts)
      was = subst (λ F. At form P w h o F (under x es) (under x ts)) there (here x free)

      one : (E : Entries → Entries) (T : Option Plain → Option Plain) → OneEdit x E T → At form P w h o (Some new) (T (under x es)) (T (under x ts)) → Is E (put x new s.fields)
      one E T e a = record { at = λ n. same_name n x; places = λ n. Some new; fields = field_put s c.fields x new free; trees = λ n es. T (under x es); edit = e; each = λ n k. a }

      pub fills : (g : Fill) → filled g old ≡ Some new → Is (edit (default x g) s.fields) (put x new s.fields)
      fills g e =
          let a = so (not (is_must old.0) && same_template old.1 (fill_template g)) (Must, old.1) new e in
          let b = split_and (not (is_must old.0)) (same_template old.1 (fill_template g)) a.0 in
          one (edit (default x g) s.fields) (λ u. first u (Some (fill_tree g))) (defaulting x (fill_tree g))
          (subst (λ f. At form P w h o (Some f) (first (under x es) (Some (fill_tree g))) (first (under x ts) (Some (fill_tree g)))) a.1
          (filled_at g old (under x es) (under x ts) (same_is old.1 (fill_template g) b.1) was))

      pub lessens : lessened old ≡ Some new → Is (λ es. es) (put x new s.fields)
      lessens e =
          let a = so (is_must old.0) (May, old.1) new e in
          one (λ es. es) (λ u. u) (staying x) (subst (λ f. At form P w h o (Some f) (under x es) (under x ts)) a.1 (by (under x es) was))
        where
          by : (u : Option Plain) → At form P w h o (Some old) u (under x ts) → At form P w h o (Some (May, old.1)) u (under x ts)
          by None a = (λ y. refl, a.1)
          by (Some t) a = a

      retypes : (W : Template) (g : Plain → Plain) → (old.0, W) ≡ new → ((t : Plain) → Fits form P old.1 t → Fits form P W (g t)) → ((t : Plain) → g (treat form h old.1 t) ≡ treat form h W (g t))
          → Is (changed x g) (put x new s.fields)
      retypes W g n k e = one (changed x g) (option_map g) (changing x g)
          (subst (λ f. At form P w h o (Some f) (option_map g (under x es)) (option_map g (under x ts))) n (changed_at old W g k e (under x es) (under x ts) was))

      pub maps : (f : LeafFn) → with_template (leaf_after f) old ≡ Some new → Is (edit (map_leaf x f) s.fields) (put x new s.fields)
      maps f e = let a = mapped (λ (W : Template). (old.0, W)) (leaf_after f old.1) new e in retypes a.0 (leaf_value f) a.2 (leaf_fits f old.1 a.0 a.1) (leaf_treated f old.1 a.0 a.1)

      pub wraps : with_template (λ V. Some (list V)) old ≡ Some new → Is (changed x (λ t. plain.list (tree t no_tree))) (put x new s.fields)
      wraps e = let n : (old.0, list old.1) ≡ new = cc in retypes (list old.1) (λ t. plain.list (tree t no_tree)) n (λ t k. (k, tt)) (λ t. refl)

      pub unifies : (f g : LeafFn) → with_template (leaf_of_both f g) old ≡ Some new → Is (edit (unify x f g) s.fields) (put x new s.fields)
      unifies f g e =
          let a = mapped (λ (W : Template). (old.0, W)) (leaf_of_both f g old.1) new e in
          by old.1 refl a.0 a.1 a.2
        where
          by : (V : Template) → old.1 ≡ V → (W : Template) → leaf_of_both f g V ≡ Some W → (old.0, W) ≡ new → Is (edit (unify x f g) s.fields) (put x new s.fields)
          by (sum (leaf a) (leaf b)) k W l n =
              let q : ◌≡◌ {A = FieldType} old (old.0, sum (leaf a) (leaf b)) = λ i. (old.0, k i) in
              let kind : left_kind (under x s.fields) ≡ a = ap left_kind (there ∙ ap Some q) in
              subst (λ j. Is (changed x (unified f g j)) (put x new s.fields)) (sym kind)
              (retypes W (unified f g a) n (λ t s. sum_fits f g a b W l t (subst (λ X. Fits form P X t) k s))
              (λ t. subst (λ X. unified f g a (treat form h X t) ≡ treat form h W (unified f g a t)) (sym k) (sum_treated f g a b W l t)))
          by V k W l n = cc
