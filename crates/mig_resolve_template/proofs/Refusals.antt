-- Whether a record is refused: its parts make none, or a template in its fields or in its cases is refused.
use Rattle.std.proofs.Common.{◌≡◌, ◌∙◌, ◌||◌, Bool, true, false, refl, sym, true≢false}
use Rattle.std.specs.Prelude.{not}

pub refused_fields : (parts fields choice : Bool) → false ≡ not fields → false ≡ not (parts || (fields || choice))
refused_fields true true choice h = refl
refused_fields false true choice h = refl
refused_fields parts false choice h = absurd (true≢false (sym h))

pub refused_choice : (parts fields choice : Bool) → false ≡ not choice → false ≡ not (parts || (fields || choice))
refused_choice true fields true h = refl
refused_choice false true true h = refl
refused_choice false false true h = refl
refused_choice parts fields false h = absurd (true≢false (sym h))

-- where no template in it is refused, its parts alone decide
pub parts_alone : (some given parts fields choice : Bool) → given ≡ parts → true ≡ not fields → true ≡ not choice → some ≡ not given → some ≡ not (parts || (fields || choice))
parts_alone some given true false false same f g h = h ∙ (λ i. not (same i))
parts_alone some given false false false same f g h = h ∙ (λ i. not (same i))
parts_alone some given parts true choice same f g h = absurd (true≢false f)
parts_alone some given parts false true same f g h = absurd (true≢false g)
