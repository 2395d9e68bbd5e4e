-- What is read of the words is what they ask for.
use Rattle.std.proofs.Common.{◌≡◌, ℕ, List, [], ◌∷◌, Bool, true, false, cond, Option, Some, None, refl, sym, ap, subst, ◌∙◌, inl, inr}
use Rattle.std.specs.Prelude.{codes, bytes_eq, Result, IfSome}
use Rattle.std.proofs.lemmas.Slice.Eq.{bytes_eq-Decides}
use Rattle.std.proofs.lemmas.Option.{same_Some}
use Rattle.mig_files.specs.Held.{Held}
use Rattle.mig_run.specs.declared.stop.Stop.{Stop}
use Rattle.mig_run.specs.declared.stop.Ending.{Ending}
use Rattle.mig_run.specs.Command.{number_of_word, Asked, lift, check, asked_at, asked, Asks, AsksNothing, RunsAsked, Runs}
use Rattle.mig_run.proofs.Numbers.{number_found, number_complete}

read_lift : (command chain source aim target : List ℕ) (a : Asked) → asked (command ∷ chain ∷ source ∷ aim ∷ target ∷ []) ≡ Some a → Asks (command ∷ chain ∷ source ∷ aim ∷ target ∷ []) a
read_lift command chain source aim target a e = by (bytes_eq command (codes "lift")) refl e
  where
    at : (o : Option ℕ) → number_of_word target ≡ o → command ≡ codes "lift" → asked_at chain source aim o ≡ Some a → Asks (command ∷ chain ∷ source ∷ aim ∷ target ∷ []) a
    at None h is f = absurd (let n : None ≡ Some a = f in cc)
    at (Some n) h is f =
        let same : lift (record { chain = chain; source = source; aim = aim; target = n }) ≡ a = same_Some _ a f in
        subst (Asks (command ∷ chain ∷ source ∷ aim ∷ target ∷ [])) same (target, (λ i. is i ∷ chain ∷ source ∷ aim ∷ target ∷ []), number_found target n h)

    by : (b : Bool) → bytes_eq command (codes "lift") ≡ b → cond b (asked_at chain source aim (number_of_word target)) None ≡ Some a → Asks (command ∷ chain ∷ source ∷ aim ∷ target ∷ []) a
    by true h f = at (number_of_word target) refl ((bytes_eq-Decides command (codes "lift")).0 h) f
    by false h f = absurd (let n : None ≡ Some a = f in cc)

read_check : (command chain : List ℕ) (a : Asked) → asked (command ∷ chain ∷ []) ≡ Some a → Asks (command ∷ chain ∷ []) a
read_check command chain a e = by (bytes_eq command (codes "check")) refl e
  where
    by : (b : Bool) → bytes_eq command (codes "check") ≡ b → cond b (Some (check chain)) None ≡ Some a → Asks (command ∷ chain ∷ []) a
    by true h f = subst (Asks (command ∷ chain ∷ [])) (same_Some (check chain) a f) (ap (λ (c : List ℕ). c ∷ chain ∷ []) ((bytes_eq-Decides command (codes "check")).0 h))
    by false h f = absurd (let n : None ≡ Some a = f in cc)

read_asks : (words : List (List ℕ)) (a : Asked) → asked words ≡ Some a → Asks words a
read_asks (command ∷ chain ∷ source ∷ aim ∷ target ∷ []) a e = read_lift command chain source aim target a e
read_asks (command ∷ chain ∷ []) a e = read_check command chain a e
read_asks words a e = absurd (let n : None ≡ Some a = e in cc)

asks_read : (words : List (List ℕ)) (a : Asked) → Asks words a → asked words ≡ Some a
asks_read words (lift a) h =
    ap asked h.1
    ∙ ap (λ b. cond b (asked_at a.chain a.source a.aim (number_of_word h.0)) None) ((bytes_eq-Decides (codes "lift") (codes "lift")).1 refl)
    ∙ ap (asked_at a.chain a.source a.aim) (number_complete h.0 a.target h.2)
asks_read words (check chain) h = ap asked h ∙ ap (λ b. cond b (Some (check chain)) None) ((bytes_eq-Decides (codes "check") (codes "check")).1 refl)

pub none_read : (words : List (List ℕ)) → asked words ≡ None → AsksNothing words
none_read words e a h = let n : None ≡ Some a = sym e ∙ asks_read words a h in cc

pub nothing_asked : (words : List (List ℕ)) → AsksNothing words → asked words ≡ None
nothing_asked words h = by (asked words) refl
  where
    by : (o : Option Asked) → asked words ≡ o → o ≡ None
    by None e = refl
    by (Some a) e = absurd (h a (read_asks words a e))

pub runs : (words : List (List ℕ)) (held : Held) (new : Option Held) (old_report new_report : Option (List ℕ)) (result : Result Ending Stop)
    → RunsAsked (asked words) held new old_report new_report result → Runs words held new old_report new_report result
runs words held new old_report new_report result h = by (asked words) refl h
  where
    by : (o : Option Asked) → asked words ≡ o → RunsAsked o held new old_report new_report result → Runs words held new old_report new_report result
    by None e k = inl (none_read words e, k)
    by (Some a) e k = inr (a, read_asks words a e, k)

-- what is said of what is read holds of what the words ask for
pub of_asked : (words : List (List ℕ)) (P : Asked → Type 0) → IfSome (asked words) P → (a : Asked) → Asks words a → P a
of_asked words P h a k = subst (λ o. IfSome o P) (asks_read words a k) h
