-- The lines of listed saves, one after the other, with the answers that were counted.
use Rattle.std.proofs.Common.{◌≡◌, refl, sym, ◌∙◌, ap, subst, ℕ, ◌+◌, ◌≤◌, Bool, false, ◌||◌, List, [], ◌∷◌, ◌++◌, Option, Some, None, Result, Ok, Err, arith}
use Rattle.std.proofs.Math.Bool.{or-false}
use Rattle.std.proofs.lemmas.List.{append-nil, append_assoc}
use Rattle.std.proofs.lemmas.List.Concat.{flat_map-append}
use Rattle.std.proofs.lemmas.List.Folds.{list_any-append}
use Rattle.mig_files.specs.Held.{Counts, Rose, RoseBy}
use Rattle.mig_lift.specs.Lift.{Save, Cause}
use Rattle.mig_run.specs.declared.stop.Stop.{Stop}
use Rattle.mig_run.specs.declared.stop.Stop.TheVariants as stop
use Rattle.mig_run.specs.Causes.{is_refusal, absent_as_number, absent_in, PutsLines, PutsSaves}
use Rattle.mig_run.specs.Folder.{Grows, GrowsInto}
use Rattle.mig_run.specs.Lines.{Listed, listed_line, listed_lines}
use Rattle.mig_run.specs.View.{Told}
use Rattle.mig_run.proofs.Loop.{grows_on, grows_still}
use Rattle.mig_run.proofs.Steps.{grows_nothing}

absent_append : (xs ys : List Listed) → absent_in (xs ++ ys) ≡ absent_in xs + absent_in ys
absent_append [] ys = omega arith
absent_append (x ∷ xs) ys = let more = absent_append xs ys in omega (arith, more)

-- ---- one listed save

-- a part of a run that puts nothing and stops
pub stops_before : (target : ℕ) (before now : Counts) (old new : Option (List ℕ)) (e : Stop) → before.absent ≤ now.absent → new ≡ old → (e ≡ stop.Report → ⊥)
    → PutsSaves target before now old new (Err e)
stops_before target before now old new e later same isnt = record { saves = []; absent = omega arith; lines = by e isnt }
  where
    by : (e : Stop) → (e ≡ stop.Report → ⊥) → PutsLines target [] old new (Err e)
    by stop.Files h = grows_still old old [] new same (grows_nothing old)
    by stop.Report h = absurd (h refl)
    by stop.Memory h = grows_still old old [] new same (grows_nothing old)

-- before any save
pub none_put : (target : ℕ) (before now : Counts) (old : Option (List ℕ)) → before.absent ≤ now.absent → PutsSaves target before now old old (Ok false)
none_put target before now old later = record { saves = []; absent = omega arith; lines = (grows_nothing old, refl) }

module _ (target : ℕ) (before now : Counts) (old new : Option (List ℕ)) (name : List ℕ) (found : Option (Result Save Cause))
    (cause : found ≡ None → Rose before.absent now.absent) (later : before.absent ≤ now.absent) where
  counted : RoseBy (absent_in ((name, found) ∷ [])) before.absent now.absent
  counted = by found cause
    where
      by : (o : Option (Result Save Cause)) → (o ≡ None → Rose before.absent now.absent) → RoseBy (absent_as_number o + 0) before.absent now.absent
      by None h = h refl
      by (Some outcome) h = omega arith

  pub one_put : (refused : Bool) → Told (listed_line target (name, found)) old new (Ok tt) → refused ≡ is_refusal found → PutsSaves target before now old new (Ok refused)
  one_put refused told is =
      record {
        saves = (name, found) ∷ [];
        absent = counted;
        lines = (subst (Grows old new) (sym (append-nil (listed_line target (name, found)))) told, is ∙ sym (or-false (is_refusal found)));
      }

  pub one_stops_at : (e : Stop) → Told (listed_line target (name, found)) old new (Err e) → PutsSaves target before now old new (Err e)
  one_stops_at stop.Files told = absurd told
  one_stops_at stop.Report told = record { saves = (name, found) ∷ []; absent = counted; lines = ([], (name, found), refl, told) }
  one_stops_at stop.Memory told = record { saves = []; absent = omega arith; lines = told }

-- ---- one part of a run after another

-- counts that went up before
pub later_saves : (target : ℕ) (a b c : Counts) (old new : Option (List ℕ)) (w : Result Bool Stop) → a.absent ≤ b.absent → PutsSaves target b c old new w → PutsSaves target a c old new w
later_saves target a b c old new w later s = record { saves = s.saves; absent = omega (arith, s.absent); lines = s.lines }

grows_into_more : (o m n : Option (List ℕ)) (xs ys next : List ℕ) → Grows o m xs → GrowsInto m n ys next → GrowsInto o n (xs ++ ys) next
grows_into_more None m n xs ys next first then_ = tt
grows_into_more (Some b) m n xs ys next first then_ =
    let t : GrowsInto (Some (b ++ xs)) n ys next = subst (λ (p : Option (List ℕ)). GrowsInto p n ys next) first then_ in
    (t.0, t.1, t.2, t.3 ∙ ap (λ (l : List ℕ). Some l) (append_assoc b xs (ys ++ t.0) ∙ ap (λ (l : List ℕ). b ++ l) (sym (append_assoc xs ys t.0))))

module _ (target : ℕ) (a b c : Counts) (o m n : Option (List ℕ)) (refused : Bool) (first : PutsSaves target a b o m (Ok refused)) where
  all_counted : (saves : List Listed) → RoseBy (absent_in saves) b.absent c.absent → RoseBy (absent_in (first.saves ++ saves)) a.absent c.absent
  all_counted saves more =
      let rose = first.absent in
      let both = absent_append first.saves saves in
      omega arith

  all_lines : (saves : List Listed) → Grows m n (listed_lines target saves) → Grows o n (listed_lines target (first.saves ++ saves))
  all_lines saves more =
      subst (Grows o n) (sym (flat_map-append (listed_line target) first.saves saves)) (grows_on o m n (listed_lines target first.saves) (listed_lines target saves) first.lines.0 more)

  pub saves_more : (one : Bool) → PutsSaves target b c m n (Ok one) → PutsSaves target a c o n (Ok (refused || one))
  saves_more one s =
      record {
        saves = first.saves ++ s.saves;
        absent = all_counted s.saves s.absent;
        lines = (all_lines s.saves s.lines.0, (λ i. first.lines.1 i || s.lines.1 i) ∙ sym (list_any-append (λ x. is_refusal x.1) first.saves s.saves));
      }

  pub saves_stop : (e : Stop) → PutsSaves target b c m n (Err e) → PutsSaves target a c o n (Err e)
  saves_stop e s = record { saves = first.saves ++ s.saves; absent = all_counted s.saves s.absent; lines = by e s.lines }
    where
      by : (e : Stop) → PutsLines target s.saves m n (Err e) → PutsLines target (first.saves ++ s.saves) o n (Err e)
      by stop.Files l = all_lines s.saves l
      by stop.Memory l = all_lines s.saves l
      by stop.Report (done, last, split, into) = (
        first.saves ++ done,
        last,
        ap (λ (l : List Listed). first.saves ++ l) split ∙ sym (append_assoc first.saves done (last ∷ [])),
        subst (λ (l : List ℕ). GrowsInto o n l (listed_line target last)) (sym (flat_map-append (listed_line target) first.saves done))
            (grows_into_more o m n (listed_lines target first.saves) (listed_lines target done) (listed_line target last) first.lines.0 into),
      )
