-- A run over several saves, one after another.
use Rattle.std.proofs.Common.{◌≡◌, inl, inr, refl, sym, ◌∙◌, ap, subst, ℕ, ◌+◌, ◌<◌, Bool, false, ◌||◌, cond, List, [], ◌∷◌, ◌++◌, Option, Some, None, Result, Ok, Err, length, take, drop, get_or, map, arith, take-append-drop}
use Rattle.std.specs.Prelude.{IsSome, bytes_eq}
use Rattle.std.specs.List.{IsDistinct, AllByRecursion}
use Rattle.std.proofs.lemmas.List.{append-nil, append_assoc, take_more, get_or-map, length-map}
use Rattle.std.proofs.lemmas.List.Concat.{flat_map-append}
use Rattle.std.proofs.lemmas.List.Folds.{list_any-append}
use Rattle.mig_files.specs.Held.{Held, Counts, NoneFell}
use Rattle.mig_run.specs.declared.stop.Stop.{Stop}
use Rattle.mig_run.specs.declared.stop.Stop.TheVariants as stop
use Rattle.mig_lift.specs.Lift.{Save, Cause}
use Rattle.mig_run.specs.Folder.{Job, lifted, stored, after_from, after, line, lines, is_refused, any_refused, Grows, GrowsInto, OneSave, AllSaves, Splits, AreThere}
use Rattle.mig_model.proofs.Bools.{false_and}
use Rattle.std.proofs.Math.Bool.{or-false}

pub after_append : (job : Job) (now : Held) (xs ys : List (List ℕ)) → after_from job now (xs ++ ys) ≡ after_from job (after_from job now xs) ys
after_append job now [] ys = refl
after_append job now (x ∷ xs) ys = after_append job (stored now (job.to, x) (lifted job x)) xs ys

-- a save's key is all that changes
pub stored_apart : (now : Held) (to from x y : List ℕ) (v : Result Save Cause) → bytes_eq x y ≡ false → stored now (to, x) v (from, y) ≡ now (from, y)
stored_apart now to from x y (Ok save) apart = ap (λ (b : Bool). cond b (Some save.bytes) (now (from, y))) (false_and (bytes_eq to from) (bytes_eq x y) apart)
stored_apart now to from x y (Err cause) apart = refl

-- a name that isn't among these
abbrev pub Apart : List (List ℕ) → List ℕ → Type 0
Apart xs y = AllByRecursion (λ x. bytes_eq x y ≡ false) xs

pub untouched : (job : Job) (now : Held) (xs : List (List ℕ)) (y : List ℕ) → Apart xs y → after_from job now xs (job.from, y) ≡ now (job.from, y)
untouched job now [] y apart = refl
untouched job now (x ∷ xs) y apart = untouched job (stored now (job.to, x) (lifted job x)) xs y apart.1 ∙ stored_apart now job.to job.from x y (lifted job x) apart.0

pub all_middle : (P : List ℕ → Type 0) (xs : List (List ℕ)) (y : List ℕ) (ys : List (List ℕ)) → AllByRecursion P (xs ++ y ∷ ys) → P y
all_middle P [] y ys all = all.0
all_middle P (x ∷ xs) y ys all = all_middle P xs y ys all.1

pub distinct_apart : (xs : List (List ℕ)) (y : List ℕ) (ys : List (List ℕ)) → IsDistinct bytes_eq (xs ++ y ∷ ys) → Apart xs y
unfolding IsDistinct
distinct_apart [] y ys once = tt
distinct_apart (x ∷ xs) y ys once = (all_middle (λ z. bytes_eq x z ≡ false) xs y ys once.0, distinct_apart xs y ys once.1)

pub grows_on : (o m n : Option (List ℕ)) (xs ys : List ℕ) → Grows o m xs → Grows m n ys → Grows o n (xs ++ ys)
grows_on None m n xs ys first then_ = tt
grows_on (Some b) m n xs ys first then_ =
    let is : n ≡ Some (b ++ xs ++ ys) = subst (λ (p : Option (List ℕ)). Grows p n ys) first then_ in
    is ∙ ap (λ (l : List ℕ). Some l) (append_assoc b xs ys)

pub grows_into : (o m n : Option (List ℕ)) (xs next : List ℕ) → Grows o m xs → GrowsInto m n [] next → GrowsInto o n xs next
grows_into None m n xs next first then_ = tt
grows_into (Some b) m n xs next first then_ =
    let t : GrowsInto (Some (b ++ xs)) n [] next = subst (λ (p : Option (List ℕ)). GrowsInto p n [] next) first then_ in
    (t.0, t.1, t.2, t.3 ∙ ap (λ (l : List ℕ). Some l) (append_assoc b xs t.0))

pub grows_still : (o m : Option (List ℕ)) (xs : List ℕ) (n : Option (List ℕ)) → n ≡ m → Grows o m xs → Grows o n xs
grows_still o m xs n is first = subst (λ (p : Option (List ℕ)). Grows o p xs) (sym is) first

-- what holds behind some saves
abbrev pub Done : Job → List (List ℕ) → Option Held → Option (List ℕ) → Option (List ℕ) → Bool → Type 0
Done job done now old report refused = (now ≡ Some (after job done)) × Grows old report (lines job done) × (refused ≡ any_refused job done)

pub one_more : (job : Job) (done : List (List ℕ)) (name : List ℕ) (now new : Option Held) (old report new_report : Option (List ℕ)) (refused one : Bool)
    → Done job done now old report refused → OneSave job name (after job done) new report new_report (Ok one)
    → Done job (done ++ name ∷ []) new old new_report (refused || one)
one_more job done name now new old report new_report refused one d s =
    let grown = grows_on old report new_report (lines job done) (line job name) d.1 s.1 in
    let more : lines job (done ++ name ∷ []) ≡ lines job done ++ line job name = flat_map-append (line job) done (name ∷ []) ∙ ap (λ (l : List ℕ). lines job done ++ l) (append-nil (line job name)) in (
      s.0 ∙ ap (λ (h : Held). Some h) (sym (after_append job job.held done (name ∷ []))),
      subst (λ (l : List ℕ). Grows old new_report l) (sym more) grown,
      (λ i. d.2 i || s.2 i) ∙ ap (λ (b : Bool). any_refused job done || b) (sym (or-false (is_refused (lifted job name)))) ∙ sym (list_any-append (λ n. is_refused (lifted job n)) done (name ∷ [])),
    )

pub one_stops : (job : Job) (names done : List (List ℕ)) (name : List ℕ) (now new : Option Held) (old report new_report : Option (List ℕ)) (refused : Bool) (e : Stop)
    → Splits names done name → Done job done now old report refused → OneSave job name (after job done) new report new_report (Err e)
    → AllSaves job names new old new_report (Err e)
one_stops job names done name now new old report new_report refused stop.Files split d s = (done, name, split, s.0, grows_still old report (lines job done) new_report s.1 d.1)
one_stops job names done name now new old report new_report refused stop.Report split d s =
    (done, name, split, s.0 ∙ ap (λ (h : Held). Some h) (sym (after_append job job.held done (name ∷ []))), grows_into old report new_report (lines job done) (line job name) d.1 s.1)
one_stops job names done name now new old report new_report refused stop.Memory split d s = (
  done,
  name,
  split,
  elim s.0 [ inl a ↦ inl a | inr b ↦ inr (b ∙ ap (λ (h : Held). Some h) (sym (after_append job job.held done (name ∷ [])))) ],
  subst (λ (l : List ℕ). Grows old new_report l) (append-nil (lines job done)) (grows_on old report new_report (lines job done) [] d.1 s.1),
)

-- the i-th of a list, between what stands before and behind it
pub parted : {X : Type 0} (xs : List X) (i : ℕ) (d : X) → i < length xs → xs ≡ take i xs ++ get_or xs i d ∷ drop (i + 1) xs
parted xs i d below = sym (take-append-drop (i + 1) xs) ∙ ap (λ l. l ++ drop (i + 1) xs) (take_more xs i d below) ∙ append_assoc (take i xs) (get_or xs i d ∷ []) (drop (i + 1) xs)

-- a name of a list of names that are there is there still when those before it are done
pub still_there : (job : Job) (names done : List (List ℕ)) (name : List ℕ) → (s : Splits names done name) → AreThere job.held job.from names
    → IsSome (job.held (job.from, name)) × (after job done (job.from, name) ≡ job.held (job.from, name))
still_there job names done name s are =
    let once : IsDistinct bytes_eq (done ++ name ∷ s.rest) = subst (λ (l : List (List ℕ)). IsDistinct bytes_eq l) s.split are.once in
    let there : AllByRecursion (λ n. IsSome (job.held (job.from, n))) (done ++ name ∷ s.rest) = subst (λ (l : List (List ℕ)). AllByRecursion (λ n. IsSome (job.held (job.from, n))) l) s.split are.there in
    (all_middle (λ n. IsSome (job.held (job.from, n))) done name s.rest there, untouched job job.held done name (distinct_apart done name s.rest once))

-- the name that a loop over texts is at
pub at_name : {X : Type 0} (f : X → List ℕ) (xs : List X) (i : ℕ) (x : X) (y : List ℕ) → i < length xs → x ≡ get_or xs i x → y ≡ f x → get_or (map f xs) i [] ≡ y
at_name f xs i x y below at is = get_or-map f xs i x [] below ∙ ap f (sym at) ∙ sym is

pub splits_at : {X : Type 0} (f : X → List ℕ) (xs : List X) (i : ℕ) (x : X) (y : List ℕ) → i < length xs → x ≡ get_or xs i x → y ≡ f x → Splits (map f xs) (take i (map f xs)) y
splits_at f xs i x y below at is =
    let as_long : length (map f xs) ≡ length xs = length-map xs f in
    let short : i < length (map f xs) = omega (arith, below, as_long) in
    record { rest = drop (i + 1) (map f xs); split = parted (map f xs) i [] short ∙ ap (λ (n : List ℕ). take i (map f xs) ++ n ∷ drop (i + 1) (map f xs)) (at_name f xs i x y below at is) }

pub takes_one : {X : Type 0} (f : X → List ℕ) (xs : List X) (i : ℕ) (x : X) (y : List ℕ) → i < length xs → x ≡ get_or xs i x → y ≡ f x → take (i + 1) (map f xs) ≡ take i (map f xs) ++ y ∷ []
takes_one f xs i x y below at is =
    let as_long : length (map f xs) ≡ length xs = length-map xs f in
    let short : i < length (map f xs) = omega (arith, below, as_long) in
    take_more (map f xs) i [] short ∙ ap (λ (n : List ℕ). take i (map f xs) ++ n ∷ []) (at_name f xs i x y below at is)

pub fell_not : {a b c : Counts} → NoneFell a b → NoneFell b c → NoneFell a c
fell_not f s = record { faults = omega (arith, f.faults, s.faults); absent = omega (arith, f.absent, s.absent); long = omega (arith, f.long, s.long) }
