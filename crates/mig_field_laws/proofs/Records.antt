-- A map of a record and the same map treated, before and after a function.
use Rattle.std.proofs.Common.{◌≡◌, ◌≤◌, ℕ, List, [], ◌∷◌, Bool, true, false, Option, Some, None, refl, sym, ap, subst, ◌∙◌, arith}
use Rattle.std.specs.Prelude.{not, ◌||◌, ◌&&◌, is_some, option_and_then, unwrap_or, if◌then◌else◌}
use Rattle.std.specs.Map.{keys_of}
use Rattle.mig_model.specs.declared.form.Form.{Form}
use Rattle.mig_model.specs.declared.kind.Kind.TheVariants as K
use Rattle.mig_model.specs.declared.presence.Presence.TheVariants.{Must}
use Rattle.mig_model.specs.declared.rest.Rest.{Rest}
use Rattle.mig_model.specs.Plain as plain
use Rattle.mig_model.specs.Plain.{Plain}
use Rattle.mig_model.specs.Kinds.{kind_of}
use Rattle.mig_model.specs.Names.{Ascends, has_twice, is_among, under, same_name, has, put, others, those}
use Rattle.mig_model.specs.Const.{const_tree}
use Rattle.mig_model.specs.Fields.{is_in_choice, if_so}
use Rattle.mig_model.specs.Template.{leaf, any, Field, same_kind, is_must, is_open}
use Rattle.mig_model.specs.Inhabits.{Entries, is_in_form}
use Rattle.mig_model.specs.Family.{is_wrong_leaf}
use Rattle.mig_model.proofs.Bools.{split_or, left_or, right_or}
use Rattle.mig_model.proofs.SameNames.{same_name_itself, same_kind_is}
use Rattle.mig_model.specs.Record as template
use Rattle.mig_model.specs.Record.{RecordParts, IsRecord, choice_of}
use Rattle.mig_fold.proofs.Treats.{Treatment}
use Rattle.mig_field.specs.FieldFn.{FieldOp, zero}
use Rattle.mig_field.specs.NewRecord.{Scoped, FieldType, is_tag, new_fields, is_easy, are_easy}
use Rattle.mig_field.specs.Act.{edit, by_field, settled_tree, where_closed, settle, is_learned}
use Rattle.mig_model.proofs.Edits.{first, found_in, under-put, under-put_all, under-those, under-others, ascends-put, among_is}
use Rattle.mig_model.proofs.Options.{none-there}
use Rattle.mig_action.proofs.Stands.{case_of}
use Rattle.mig_action.proofs.Settings.{first-none}
use Rattle.mig_action.proofs.Distinct.{common_apart, case_apart, case_ascends}
use Rattle.mig_action.proofs.Scopes.{either_taken}
use Rattle.mig_action.proofs.Settling.{under-by_field, ascends-by_field, zero_kind}
use Rattle.mig_field_laws.proofs.Ops.{same_at}
use Rattle.mig_field_laws.proofs.Places.{tagged, tag_place, place, opened, HasTag, IsTag}
use Rattle.mig_field_laws.proofs.Scopes.{refielded, At, Scene, Step, stepped}
use Rattle.mig_field_laws.proofs.Sums.{Weight, sum_same, sum_agree, sum_zero, sum_put, sum_put_all, sum_filter}
use Rattle.mig_field_laws.proofs.Tallies.{tally_at, weighed}
use Rattle.mig_field_laws.proofs.Ascending.{beside_ascends, settle_ascends}
use Rattle.mig_field_laws.proofs.Forms.{Formed, RightPlaces, leaf_formed, text_formed, op_formed}
use Rattle.mig_field_laws.proofs.Lighter.{op_lighter}
use Rattle.mig_value.specs.Nodes.{sum_entries}
use Rattle.mig_field_laws.proofs.Steps.{Idle, op_steps}

-- the map stands in the record, the other is the same treated, and what is counted at points comes to at most the limit, and the trees are of the form where the record's leaves are
pub record Both (form : Form) (P : List ℕ → Plain → Type 0) (w : Bool) (h : Treatment) (weight : Weight) (limit : ℕ) (Z : Type 0) (p : RecordParts) (s : List ℕ) (es ts : Entries) : Type 0 where
  pub tag : HasTag p.choice s es
  pub literal : IsTag p.choice s
  pub ascend : Ascends es
  pub also : Ascends ts
  pub at : (n : List ℕ) → At form P w h (opened p s) (place p s n) (under n es) (under n ts)
  pub light : weighed form weight p s es ≤ limit
  pub formed : w ≡ true → Z → RightPlaces form p s → Formed form es

-- each tree of the map of whose name the record knows nothing is of the form
abbrev pub UnknownFormed : Form → RecordParts → List ℕ → Entries → Type 0
UnknownFormed form p s es = (n : List ℕ) (t : Plain) → place p s n ≡ None → under n es ≡ Some t → is_in_form form t ≡ true

tag_none : (n : List ℕ) (c : Option template.Cases) → is_tag n c ≡ false → tag_place c n ≡ None
tag_none n None k = refl
tag_none n (Some c) k = ap (λ b. if_so b (Must, leaf K.Text)) k

tag_some : (n : List ℕ) (c : Option template.Cases) (D : Option FieldType) → is_some (first (tag_place c n) D) ≡ true → (is_tag n c || is_some D) ≡ true
tag_some n None D k = k
tag_some n (Some c) D k = grind (arith, k)

choice_no_tag : (n : List ℕ) (c : Option template.Cases) → is_in_choice n (choice_of c) ≡ false → is_tag n c ≡ false
choice_no_tag n None k = refl
choice_no_tag n (Some c) k = grind (arith, k)

tag_in_choice : (n : List ℕ) (c : Option template.Cases) → is_tag n c ≡ true → is_in_choice n (choice_of c) ≡ true
tag_in_choice n None k = k
tag_in_choice n (Some c) k = grind (arith, k)

module _ (form : Form) (P : List ℕ → Plain → Type 0) (w : Bool) (h : Treatment) (weight : Weight) (limit : ℕ) (Z : Type 0) where
  -- at a field it plays no part whether unknown names may stand there
  field_still : (f : FieldType) (o o' : Bool) (u v : Option Plain) → At form P w h o (Some f) u v → At form P w h o' (Some f) u v
  field_still f o o' None v a = a
  field_still f o o' (Some t) v a = a

  -- a step leaves what stands elsewhere
  untouched : (o : Bool) (other : List ℕ → Option FieldType) (s : Scoped) (es ts : Entries) (c : Scene form P w h o other s es ts) (E : Entries → Entries) (gs : List Field)
      → Step form P w h o other s es ts c E gs
      → (n : List ℕ) → s.taken n ≡ true → under n (E es) ≡ under n es
  untouched o other s es ts c E gs d n k = let free = d.fields.free n in grind (arith, d.edit.is es c.ascend n, free, k)

  -- ---- the common fields
  module _ (p : RecordParts) (i : IsRecord p.fields p.choice) (s : List ℕ) (es ts : Entries) (b : Both form P w h weight limit Z p s es ts) (unknown : w ≡ true → UnknownFormed form p s es)
      (m : w ≡ true → Z → Formed form es) where
    abbrev common_scope : Scoped
    common_scope = record { fields = p.fields; taken = λ n. is_in_choice n (choice_of p.choice) }

    abbrev beside : List ℕ → Option FieldType
    beside n = first (tag_place p.choice n) (under n (case_of p.choice (tagged s)))

    common_place : (fs : List Field) → ((n : List ℕ) → has n fs ≡ true → is_in_choice n (choice_of p.choice) ≡ false) → (n : List ℕ)
        → place (record p { fields = fs }) s n ≡ first (under n fs) (beside n)
    common_place fs a n = by (under n fs) (a n)
      where
        by : (F : Option FieldType) → (is_some F ≡ true → is_in_choice n (choice_of p.choice) ≡ false)
            → first (tag_place p.choice n) (first F (under n (case_of p.choice (tagged s)))) ≡ first F (beside n)
        by None k = refl
        by (Some f) k = ap (λ T. first T (Some f)) (tag_none n p.choice (choice_no_tag n p.choice (k refl)))

    common_scene : Scene form P w h (opened p s) beside common_scope es ts
    common_scene = record {
      fields = record { ascend = i.fields; apart = common_apart p i };
      within = λ n k. either_taken n p.choice (tagged s) (tag_some n p.choice (under n (case_of p.choice (tagged s))) k);
      ascend = b.ascend;
      also = b.also;
      at = λ n. subst (λ F. At form P w h (opened p s) F (under n es) (under n ts)) (common_place p.fields (common_apart p i) n) (b.at n);
      unknown = λ y n t q. unknown y n t (common_place p.fields (common_apart p i) n ∙ q);
    }

    weighed_common : (fs : List Field) → ((n : List ℕ) → has n fs ≡ true → is_in_choice n (choice_of p.choice) ≡ false) → (ls : Entries)
        → weighed form weight (record p { fields = fs }) s ls ≡ sum_entries (λ n. tally_at form weight (first (under n fs) (beside n))) ls
    weighed_common fs a ls = sum_same (λ n. tally_at form weight (place (record p { fields = fs }) s n)) (λ n. tally_at form weight (first (under n fs) (beside n)))
        (λ n t. ap (λ (F : Option FieldType). tally_at form weight F t) (common_place fs a n)) ls

    pub common_both : (op : FieldOp) (gs : List Field) → new_fields op p.rest common_scope ≡ Some gs → Idle form h op p.fields
        → Both form P w h weight limit Z (record p { fields = gs }) s (edit op p.fields es) (edit op p.fields ts)
    common_both op gs e q =
        let d = op_steps form P w h (opened p s) beside common_scope es ts common_scene p.rest (left_or (is_open p.rest) _) op gs e q in
        let apart = (refielded common_scope gs d.at d.places common_scene.fields d.fields).apart in
        let less = op_lighter form weight beside common_scope common_scene.fields common_scene.within p.rest op gs e es b.ascend in
        let now = weighed_common gs apart (edit op p.fields es) in
        let then_was = weighed_common p.fields (common_apart p i) es in
        let most = b.light in
        record {
          light = omega (arith, less, now, then_was, most);
          formed = λ y v right. op_formed form P w h (opened p s) beside common_scope es ts common_scene y (m y v) p.rest op gs e d
              (λ n f k. right n f (common_place gs apart n ∙ ap (λ (G : Option FieldType). first G (beside n)) k));
          tag = tag p.choice (λ n k. tag_in_choice n p.choice k) (untouched (opened p s) beside common_scope es ts common_scene (edit op p.fields) gs d) b.tag;
          literal = b.literal;
          ascend = d.edit.ascend es b.ascend;
          also = d.edit.ascend ts b.also;
          at = λ n. subst (λ F. At form P w h (opened p s) F (under n (edit op p.fields es)) (under n (edit op p.fields ts)))
              (sym (common_place gs (refielded common_scope gs d.at d.places common_scene.fields d.fields).apart n))
              (stepped form P w h (opened p s) beside common_scope es ts common_scene (edit op p.fields) gs d n);
        }
      where
        tag : (c : Option template.Cases) → ((n : List ℕ) → is_tag n c ≡ true → is_in_choice n (choice_of p.choice) ≡ true)
            → ((n : List ℕ) → is_in_choice n (choice_of p.choice) ≡ true → under n (edit op p.fields es) ≡ under n es) → HasTag c s es → HasTag c s (edit op p.fields es)
        tag None k u t = tt
        tag (Some c) k u t = u c.0 (k c.0 (same_name_itself c.0)) ∙ t

  -- ---- a record with a choice
  module _ (fs : List Field) (c : template.Cases) (rest : Rest) where
    abbrev p : RecordParts
    p = record { fields = fs; choice = Some c; rest = rest }

    abbrev with : List template.Case → RecordParts
    with cs = record { fields = fs; choice = Some (c.0, cs, c.2); rest = rest }

    -- what stands under a name where the tag names these fields, or none, and what is counted then
    abbrev spot : Option (List Field) → List ℕ → Option FieldType
    spot F n = first (tag_place (Some c) n) (first (under n fs) (under n (unwrap_or F [])))

    abbrev wide : Option (List Field) → Bool
    wide F = is_open rest || not (is_some F)

    abbrev Here : List ℕ → Option (List Field) → Option Plain → Option Plain → Type 0
    Here n F u v = At form P w h (wide F) (spot F n) u v

    abbrev weighed_at : Option (List Field) → Entries → ℕ
    weighed_at F ls = sum_entries (λ n. tally_at form weight (spot F n)) ls

    module _ (i : IsRecord fs (Some c)) (s : List ℕ) (es ts : Entries) (b : Both form P w h weight limit Z p s es ts) (unknown : w ≡ true → UnknownFormed form p s es)
        (m : w ≡ true → Z → Formed form es) where
      -- the tag's fields stand under another tag
      pub same_both : (cs : List template.Case) (l : List ℕ) → under l cs ≡ under s c.1 → (es' ts' : Entries) → under c.0 es' ≡ Some (plain.text l) → Ascends es' → Ascends ts'
          → ((n : List ℕ) → At form P w h (opened p s) (place p s n) (under n es') (under n ts')) → weighed form weight p s es' ≤ limit → (w ≡ true → Z → Formed form es')
          → Both form P w h weight limit Z (with cs) l es' ts'
      same_both cs l now es' ts' tag a a' at light made = record {
        formed = λ y v right. made y v;
        light = subst (λ (F : Option (List Field)). weighed_at F es' ≤ limit) (sym now) light;
        tag = tag;
        literal = ap (λ (F : Option (List Field)). is_some F || c.2) now ∙ b.literal;
        ascend = a;
        also = a';
        at = λ n. subst (λ (F : Option (List Field)). Here n F (under n es') (under n ts')) (sym now) (at n);
      }

      pub older_both : (cs : List template.Case) → under s cs ≡ under s c.1 → Both form P w h weight limit Z (with cs) s es ts
      older_both cs now = same_both cs s now es ts b.tag b.ascend b.also b.at b.light m

      pub retagged_both : (cs : List template.Case) (l : List ℕ) → under l cs ≡ under s c.1 → Both form P w h weight limit Z (with cs) l (put c.0 (plain.text l) es) (put c.0 (plain.text l) ts)
      retagged_both cs l now =
          same_both cs l now (put c.0 (plain.text l) es) (put c.0 (plain.text l) ts)
          (under-put c.0 (plain.text l) es c.0 ∙ ap (λ x. if x then Some (plain.text l) else under c.0 es) (same_name_itself c.0))
          (ascends-put c.0 (plain.text l) es b.ascend) (ascends-put c.0 (plain.text l) ts b.also)
          (λ n. subst (λ (v : Option Plain). At form P w h (opened p s) (place p s n) (under n (put c.0 (plain.text l) es)) v) (sym (under-put c.0 (plain.text l) ts n))
          (subst (λ (u : Option Plain). At form P w h (opened p s) (place p s n) u (if same_name n c.0 then Some (plain.text l) else under n ts)) (sym (under-put c.0 (plain.text l) es n))
          (by n (same_name n c.0) (b.at n))))
          (let more = sum_put (λ n. tally_at form weight (place p s n)) c.0 (plain.text l) es in let most = b.light in
          omega (arith, more, most, nothing (same_name c.0 c.0) (same_name_itself c.0)))
          (λ y v n t q. text_or y v n t (same_name n c.0) (sym (under-put c.0 (plain.text l) es n) ∙ q))
        where
          text_or : w ≡ true → Z → (n : List ℕ) (t : Plain) (x : Bool) → (if x then Some (plain.text l) else under n es) ≡ Some t → is_in_form form t ≡ true
          text_or y v n t true q = let same : plain.text l ≡ t = cc in subst (λ u. is_in_form form u ≡ true) same (text_formed form l)
          text_or y v n t false q = m y v n t q

          nothing : (x : Bool) → x ≡ true → tally_at form weight (first (if_so x (Must, leaf K.Text)) (first (under c.0 fs) (under c.0 (case_of (Some c) (tagged s))))) (plain.text l) ≡ 0
          nothing true k = refl
          nothing false k = cc

          by : (n : List ℕ) (x : Bool) → At form P w h (opened p s) (first (if_so x (Must, leaf K.Text)) (first (under n fs) (under n (case_of (Some c) (tagged s))))) (under n es) (under n ts)
              → At form P w h (opened p s) (first (if_so x (Must, leaf K.Text)) (first (under n fs) (under n (case_of (Some c) (tagged s))))) (if x then Some (plain.text l) else under n es)
              (if x then Some (plain.text l) else under n ts)
          by n true k = (λ y. refl, refl)
          by n false k = k

      -- ---- the fields of the tag's case
      module _ (ds : List Field) (e : under s c.1 ≡ Some ds) where
        abbrev case_scope : Scoped
        case_scope = record { fields = ds; taken = λ n. has n fs || same_name n c.0 }

        abbrev beside_case : List ℕ → Option FieldType
        beside_case n = first (tag_place (Some c) n) (under n fs)

        case_place : (gs : List Field) → ((n : List ℕ) → has n gs ≡ true → (has n fs || same_name n c.0) ≡ false) → (n : List ℕ) → spot (Some gs) n ≡ first (under n gs) (beside_case n)
        case_place gs a n = by (under n gs) (a n)
          where
            by : (G : Option FieldType) → (is_some G ≡ true → (has n fs || same_name n c.0) ≡ false) → first (tag_place (Some c) n) (first (under n fs) G) ≡ first G (beside_case n)
            by None k = ap (first (tag_place (Some c) n)) (first-none (under n fs))
            by (Some g) k =
                let both = split_or (has n fs) (same_name n c.0) (k refl) in
                λ j. first (tag_none n (Some c) both.1 j) (first (none-there (under n fs) both.0 j) (Some g))

        known : opened p s ≡ (is_open rest || false)
        known = ap (λ (F : Option (List Field)). wide F) e

        case_scene : Scene form P w h (is_open rest || false) beside_case case_scope es ts
        case_scene = record {
          fields = record { ascend = case_ascends p i s ds e; apart = case_apart p i s ds e };
          within = λ n k. grind (arith, tag_some n (Some c) (under n fs) k);
          ascend = b.ascend;
          also = b.also;
          at = λ n. subst (λ F. At form P w h (is_open rest || false) F (under n es) (under n ts)) (case_place ds (case_apart p i s ds e) n)
              (subst (λ (F : Option (List Field)). Here n F (under n es) (under n ts)) e (b.at n));
          unknown = λ y n t q. unknown y n t (ap (λ (F : Option (List Field)). spot F n) e ∙ (case_place ds (case_apart p i s ds e) n ∙ q));
        }

        weighed_case : (gs : List Field) → ((n : List ℕ) → has n gs ≡ true → (has n fs || same_name n c.0) ≡ false) → (ls : Entries)
            → weighed_at (Some gs) ls ≡ sum_entries (λ n. tally_at form weight (first (under n gs) (beside_case n))) ls
        weighed_case gs a ls =
            sum_same (λ n. tally_at form weight (spot (Some gs) n)) (λ n. tally_at form weight (first (under n gs) (beside_case n)))
            (λ n t. ap (λ (F : Option FieldType). tally_at form weight F t) (case_place gs a n)) ls

        pub case_both : (op : FieldOp) (gs : List Field) → new_fields op rest case_scope ≡ Some gs → Idle form h op ds
            → Both form P w h weight limit Z (with (put s gs c.1)) s (edit op ds es) (edit op ds ts)
        case_both op gs k q =
            let d = op_steps form P w h (is_open rest || false) beside_case case_scope es ts case_scene rest (left_or (is_open rest) false) op gs k q in
            let now : under s (put s gs c.1) ≡ Some gs = under-put s gs c.1 s ∙ ap (λ x. if x then Some gs else under s c.1) (same_name_itself s) in
            let apart = (refielded case_scope gs d.at d.places case_scene.fields d.fields).apart in
            let less = op_lighter form weight beside_case case_scope case_scene.fields case_scene.within rest op gs k es b.ascend in
            let new = weighed_case gs apart (edit op ds es) in
            let old = weighed_case ds (case_apart p i s ds e) es in
            let most = subst (λ (F : Option (List Field)). weighed_at F es ≤ limit) e b.light in
            let light : weighed_at (Some gs) (edit op ds es) ≤ limit = omega (arith, less, new, old, most) in
            record {
              formed = λ y v right. op_formed form P w h (is_open rest || false) beside_case case_scope es ts case_scene y (m y v) rest op gs k d
                  (λ n f x. right n f (ap (λ (F : Option (List Field)). spot F n) now ∙ (case_place gs apart n ∙ ap (λ (G : Option FieldType). first G (beside_case n)) x)));
              light = subst (λ (F : Option (List Field)). weighed_at F (edit op ds es) ≤ limit) (sym now) light;
              tag = untouched (is_open rest || false) beside_case case_scope es ts case_scene (edit op ds) gs d c.0 (right_or (has c.0 fs) (same_name c.0 c.0) (same_name_itself c.0)) ∙ b.tag;
              literal = ap (λ (F : Option (List Field)). is_some F || c.2) now;
              ascend = d.edit.ascend es b.ascend;
              also = d.edit.ascend ts b.also;
              at = λ n. subst (λ (F : Option (List Field)). Here n F (under n (edit op ds es)) (under n (edit op ds ts))) (sym now)
                  (subst (λ F. At form P w h (is_open rest || false) F (under n (edit op ds es)) (under n (edit op ds ts)))
                  (sym (case_place gs (refielded case_scope gs d.at d.places case_scene.fields d.fields).apart n))
                  (stepped form P w h (is_open rest || false) beside_case case_scope es ts case_scene (edit op ds) gs d n));
            }

      -- ---- settling
      module _ (kept : has s c.1 ≡ false) (ds gs : List Field) (cs : List template.Case) (now : under s cs ≡ Some gs) (once : has_twice (keys_of ds) ≡ false)
          (same : (n : List ℕ) → under n gs ≡ under n ds)
          (apart : (n : List ℕ) → has n ds ≡ true → (has n fs || same_name n c.0) ≡ false) (easy : are_easy ds ≡ true) where
        easy_at : (n : List ℕ) (f : FieldType) → under n ds ≡ Some f → is_easy f ≡ true
        easy_at n f e = found_in (λ (l : List Field). are_easy l ≡ true) (λ m f. is_easy f ≡ true) (λ f l k. (grind (arith, k), grind (arith, k))) ds easy n f e

        stays_there : Bool → List ℕ → Bool
        stays_there x n = (is_open rest || (x || has n fs)) && not (has n ds)

        under_settled : (ls : Entries) (n : List ℕ) → under n (settle ds p c.0 ls)
            ≡ first (option_and_then (λ f. settled_tree f (under n ls)) (under n ds)) (if (is_open rest || (same_name n c.0 || has n fs)) && not (has n ds) then under n ls else None)
        under_settled ls n =
            under-put_all (by_field settled_tree ds ls) (where_closed rest (c.0 ∷ keys_of fs) (others (keys_of ds) ls)) n
            ∙ (λ j. first (under-by_field settled_tree ds once ls n j) (beside_under j))
          where
            beside_under : under n (where_closed rest (c.0 ∷ keys_of fs) (others (keys_of ds) ls)) ≡
                (if (is_open rest || (same_name n c.0 || has n fs)) && not (has n ds) then under n ls else None)
            beside_under = grind (arith, under-those (c.0 ∷ keys_of fs) (others (keys_of ds) ls) n, under-others (keys_of ds) ls n, among_is ds n, among_is fs n)

        -- in easy fields nothing is counted
        easy_zero : (f : FieldType) → is_easy f ≡ true → (t : Plain) → tally_at form weight (Some f) t ≡ 0
        easy_zero (q, leaf j) k t = refl
        easy_zero (q, any) k t = refl
        easy_zero f k t = cc

        abbrev Old : Weight
        Old n = tally_at form weight (first (tag_place (Some c) n) (first (under n fs) None))

        abbrev New : Weight
        New n = tally_at form weight (spot (Some ds) n)

        in_fields_zero : (n : List ℕ) (t : Plain) → under n (by_field settled_tree ds es) ≡ Some t → New n t ≡ 0
        in_fields_zero n t k = by (under n ds) refl (sym (under-by_field settled_tree ds once es n) ∙ k)
          where
            by : (F : Option FieldType) → under n ds ≡ F → option_and_then (λ f. settled_tree f (under n es)) F ≡ Some t → New n t ≡ 0
            by None e q = cc
            by (Some f) e q =
                let away = split_or (has n fs) (same_name n c.0) (apart n (ap is_some e)) in
                ap (λ (F : Option FieldType). tally_at form weight F t) (λ j. first (tag_none n (Some c) away.1 j) (first (none-there (under n fs) away.0 j) (e j))) ∙ easy_zero f (easy_at n f e) t

        beside_same : (n : List ℕ) (t : Plain) → under n (where_closed rest (c.0 ∷ keys_of fs) (others (keys_of ds) es)) ≡ Some t → New n t ≡ Old n t
        beside_same n t k =
            let absent : under n ds ≡ None = none-there (under n ds) (grind (arith, k, under-those (c.0 ∷ keys_of fs) (others (keys_of ds) es) n, under-others (keys_of ds) es n, among_is ds n)) in
            ap (λ (F : Option FieldType). tally_at form weight (first (tag_place (Some c) n) (first (under n fs) F)) t) absent

        beside_fewer : sum_entries Old (where_closed rest (c.0 ∷ keys_of fs) (others (keys_of ds) es)) ≤ sum_entries Old es
        beside_fewer = by (is_open rest)
          where
            all : sum_entries Old (others (keys_of ds) es) ≤ sum_entries Old es
            all = sum_filter Old (λ n. not (is_among (keys_of ds) n)) es

            by : (x : Bool) → sum_entries Old (if x then others (keys_of ds) es else those (c.0 ∷ keys_of fs) (others (keys_of ds) es)) ≤ sum_entries Old es
            by true = all
            by false = let some = sum_filter Old (is_among (c.0 ∷ keys_of fs)) (others (keys_of ds) es) in let most = all in omega (arith, some, most)

        settled_light : sum_entries New (settle ds p c.0 es) ≤ limit
        settled_light =
            let both = sum_put_all New (by_field settled_tree ds es) (where_closed rest (c.0 ∷ keys_of fs) (others (keys_of ds) es)) in
            let none = sum_zero New (by_field settled_tree ds es) (ascends-by_field settled_tree ds es) in_fields_zero in
            let still = sum_agree New Old (where_closed rest (c.0 ∷ keys_of fs) (others (keys_of ds) es)) (beside_ascends rest (c.0 ∷ keys_of fs) (keys_of ds) es b.ascend) beside_same in
            let fewer = beside_fewer in
            let most : sum_entries Old es ≤ limit = subst (λ (F : Option (List Field)). weighed_at F es ≤ limit) (none-there (under s c.1) kept) b.light in
            omega (arith, both, none, still, fewer, most)

        -- a field that is settled
        settled_at : (o : Bool) (f : FieldType) (u : Option Plain) → is_easy f ≡ true → (w ≡ true → (t : Plain) → u ≡ Some t → is_in_form form t ≡ true)
            → At form P w h o (Some f) (settled_tree f u) (settled_tree f u)
        settled_at o (q, any) None k x = (λ y. grind (arith, k), refl)
        settled_at o (q, any) (Some t) k x = (λ y. x y t refl, refl)
        settled_at o (q, leaf j) u k x = by u
          where
            zeroed : (y : Bool) → is_must q ≡ y → At form P w h o (Some (q, leaf j)) (if_so y (const_tree (zero j))) (if_so y (const_tree (zero j)))
            zeroed true e = (λ z. zero_kind j k, refl)
            zeroed false e = (λ z. e, refl)

            of_kind : (t : Plain) (y : Bool) → same_kind (kind_of t) j ≡ y → At form P w h o (Some (q, leaf j)) (if y then Some t else if_so (is_must q) (const_tree (zero j)))
                (if y then Some t else if_so (is_must q) (const_tree (zero j)))
            of_kind t true e = (λ z. same_kind_is (kind_of t) j e, refl)
            of_kind t false e = zeroed (is_must q) refl

            by : (u : Option Plain) → At form P w h o (Some (q, leaf j)) (settled_tree (q, leaf j) u) (settled_tree (q, leaf j) u)
            by None = zeroed (is_must q) refl
            by (Some t) = of_kind t (same_kind (kind_of t) j) refl
        settled_at o f u k x = cc

        -- before, no case has the tag
        before : (n : List ℕ) → At form P w h true (first (tag_place (Some c) n) (under n fs)) (under n es) (under n ts)
        before n =
            subst (λ F. At form P w h true F (under n es) (under n ts)) (ap (first (tag_place (Some c) n)) (first-none (under n fs)))
            (subst (λ (x : Bool). At form P w h x (first (tag_place (Some c) n) (first (under n fs) None)) (under n es) (under n ts))
            (ap (λ x. is_open rest || not x) kept ∙ right_or (is_open rest) true refl)
            (subst (λ (F : Option (List Field)). At form P w h (opened p s) (spot F n) (under n es) (under n ts)) (none-there (under s c.1) kept) (b.at n)))

        alone_there : (u : Option Plain) (x : Bool) (v : Option Plain) → first u (if x && false then v else None) ≡ u
        alone_there u x v = grind arith

        -- what is no field of the case
        beside_at : (o x : Bool) (G : Option FieldType) (u v : Option Plain) → At form P w h true (first (if_so x (Must, leaf K.Text)) G) u v
            → At form P w h (o || false) (first (if_so x (Must, leaf K.Text)) (first G None)) (if (o || (x || is_some G)) && true then u else None)
            (if (o || (x || is_some G)) && true then v else None)
        beside_at true x G u v a = subst (λ F. At form P w h true (first (if_so x (Must, leaf K.Text)) F) u v) (sym (first-none G)) a
        beside_at false true G u v a = field_still (Must, leaf K.Text) true false u v a
        beside_at false false None u v a = (λ y. tt, refl)
        beside_at false false (Some g) u v a = field_still g true false u v a

        after : (n : List ℕ) → At form P w h (is_open rest || false) (spot (Some ds) n) (under n (settle ds p c.0 es)) (under n (settle ds p c.0 ts))
        after n =
            subst (λ (v : Option Plain). At form P w h (is_open rest || false) (spot (Some ds) n) (under n (settle ds p c.0 es)) v) (sym (under_settled ts n))
            (subst (λ (u : Option Plain). At form P w h (is_open rest || false) (spot (Some ds) n) u (Settled ts (under n ds))) (sym (under_settled es n)) (by (under n ds) refl))
          where
            Settled : Entries → Option FieldType → Option Plain
            Settled ls F = first (option_and_then (λ f. settled_tree f (under n ls)) F) (if (is_open rest || (same_name n c.0 || has n fs)) && not (is_some F) then under n ls else None)

            by : (F : Option FieldType) → under n ds ≡ F → At form P w h (is_open rest || false) (first (tag_place (Some c) n) (first (under n fs) F)) (Settled es F) (Settled ts F)
            by None e = beside_at (is_open rest) (same_name n c.0) (under n fs) (under n es) (under n ts) (before n)
            by (Some f) e =
                let away = split_or (has n fs) (same_name n c.0) (apart n (ap is_some e)) in
                let was = subst (λ F. At form P w h true F (under n es) (under n ts)) (λ j. first (tag_none n (Some c) away.1 j) (none-there (under n fs) away.0 j)) (before n) in
                subst (λ (F : Option FieldType). At form P w h (is_open rest || false) F (Settled es (Some f)) (Settled ts (Some f)))
                (sym (λ j. first (tag_none n (Some c) away.1 j) (first (none-there (under n fs) away.0 j) (Some f))))
                (subst (λ (v : Option Plain). At form P w h (is_open rest || false) (Some f) (Settled es (Some f)) v)
                (sym (alone_there (settled_tree f (under n ts)) (is_open rest || (same_name n c.0 || has n fs)) (under n ts)))
                (subst (λ (u : Option Plain). At form P w h (is_open rest || false) (Some f) u (settled_tree f (under n ts)))
                (sym (alone_there (settled_tree f (under n es)) (is_open rest || (same_name n c.0 || has n fs)) (under n es)))
                (subst (λ (v : Option Plain). At form P w h (is_open rest || false) (Some f) (settled_tree f (under n es)) (settled_tree f v)) (sym (was.1 ∙ sym (same_at (under n es))))
                (settled_at (is_open rest || false) f (under n es) (easy_at n f e)
                (λ y t q. unknown y n t (λ j. first (tag_none n (Some c) away.1 j) (first (none-there (under n fs) away.0 j) (under n (unwrap_or (none-there (under s c.1) kept j) [])))) q)))))

        settled_formed : w ≡ true → Z → RightPlaces form (with cs) s → Formed form (settle ds p c.0 es)
        settled_formed y v right n t q = by (under n ds) refl (sym (under_settled es n) ∙ q)
          where
            made : (f : FieldType) → is_easy f ≡ true → is_wrong_leaf form f.1 ≡ false → (u : Option Plain) → under n es ≡ u → settled_tree f u ≡ Some t → is_in_form form t ≡ true
            made (x, any) e r u k z = m y v n t (k ∙ z)
            made (x, leaf j) e r u k z = or_zero (is_learned (Some j) u) z
              where
                zeroed : (z : Bool) → if_so z (const_tree (zero j)) ≡ Some t → is_in_form form t ≡ true
                zeroed true z = let same : const_tree (zero j) ≡ t = cc in subst (λ u. is_in_form form u ≡ true) same (leaf_formed form j (const_tree (zero j)) r (zero_kind j e))
                zeroed false z = cc

                or_zero : (b : Bool) → (if b then u else if_so (is_must x) (const_tree (zero j))) ≡ Some t → is_in_form form t ≡ true
                or_zero true z = m y v n t (k ∙ z)
                or_zero false z = zeroed (is_must x) z
            made f e r u k z = cc

            by : (F : Option FieldType) → under n ds ≡ F
                → first (option_and_then (λ f. settled_tree f (under n es)) F) (if (is_open rest || (same_name n c.0 || has n fs)) && not (is_some F) then under n es else None) ≡ Some t
                → is_in_form form t ≡ true
            by None e x = stayed ((is_open rest || (same_name n c.0 || has n fs)) && true) x
              where
                stayed : (b : Bool) → (if b then under n es else None) ≡ Some t → is_in_form form t ≡ true
                stayed true z = m y v n t z
                stayed false z = cc
            by (Some f) e x =
                let away = split_or (has n fs) (same_name n c.0) (apart n (ap is_some e)) in
                let there : place (with cs) s n ≡ Some f = ap (λ (F : Option (List Field)). spot F n) now
                ∙ (λ j. first (tag_none n (Some c) away.1 j) (first (none-there (under n fs) away.0 j) ((same n ∙ e) j))) in
                made f (easy_at n f e) (right n f there) (under n es) refl (sym (alone_there (settled_tree f (under n es)) (is_open rest || (same_name n c.0 || has n fs)) (under n es)) ∙ x)

        pub settled_both : Both form P w h weight limit Z (with cs) s (settle ds p c.0 es) (settle ds p c.0 ts)
        settled_both = record {
          formed = settled_formed;
          light = subst (λ (F : Option (List Field)). weighed_at F (settle ds p c.0 es) ≤ limit) (sym now)
              (let whole = sum_same (λ n. tally_at form weight (spot (Some gs) n)) New
              (λ n t. ap (λ (F : Option FieldType). tally_at form weight (first (tag_place (Some c) n) (first (under n fs) F)) t) (same n)) (settle ds p c.0 es) in let most = settled_light in
              omega (arith, whole, most));
          tag = tag;
          literal = ap (λ (F : Option (List Field)). is_some F || c.2) now;
          ascend = settle_ascends ds p c.0 es b.ascend;
          also = settle_ascends ds p c.0 ts b.also;
          at = λ n. subst (λ (F : Option (List Field)). Here n F (under n (settle ds p c.0 es)) (under n (settle ds p c.0 ts))) (sym now)
              (subst (λ F. At form P w h (is_open rest || false) (first (tag_place (Some c) n) (first (under n fs) F)) (under n (settle ds p c.0 es)) (under n (settle ds p c.0 ts))) (sym (same n))
              (after n));
        }
          where
            no_field : has c.0 ds ≡ false
            no_field = let a = apart c.0 in grind (arith, a, same_name_itself c.0)

            tag : under c.0 (settle ds p c.0 es) ≡ Some (plain.text s)
            tag = grind (arith, under_settled es c.0, no_field, same_name_itself c.0, b.tag)
