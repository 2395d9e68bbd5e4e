-- What a function answers, beside what the definition gives.
use Rattle.std.specs.Prelude.{◌≡◌, List, ◌++◌, Option, Some, None, option_map, Result, Ok, Err}
use Rattle.mig_json.specs.declared.error.JsonError.{JsonError}
use Rattle.mig_json.specs.declared.error.JsonError.TheVariants as errors

abbrev pub Fails : {Y : Type 0} → JsonError → Option Y → Type 0
Fails errors.Memory found = Unit {0}
Fails errors.Wrong found = found ≡ None

-- an answer is what was found, and `Wrong` comes where nothing was
abbrev pub Gives : {X Y : Type 0} → (X → Y) → Result X JsonError → Option Y → Type 0
Gives view (Ok x) found = found ≡ Some (view x)
Gives view (Err e) found = Fails e found

-- what was found before, and what is still found
abbrev pub ahead : {A : Type 0} → List A → Option (List A) → Option (List A)
ahead front found = option_map (λ xs. front ++ xs) found
