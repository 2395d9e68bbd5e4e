-- Whether a template nests above a number of levels, told of one level less.
use Rattle.std.proofs.Common.{◌≡◌, ◌∙◌, ℕ, suc, ◌||◌, Bool, true, false, sym, ap}
use Rattle.mig_syntax.specs.TemplateSyntax.{TemplateSyntax}
use Rattle.mig_resolve_template.specs.Templates.{nests_above}

pub above : (levels below : ℕ) (t s : TemplateSyntax) (b : Bool) → levels ≡ suc below → t ≡ s → b ≡ nests_above (suc below) s → b ≡ nests_above levels t
above levels below t s b deeper is inside = inside ∙ sym (ap (λ n. nests_above n s) deeper) ∙ sym (ap (nests_above levels) is)

pub or_first : (x a b : Bool) → x ≡ true → x ≡ a → x ≡ (a || b)
or_first x a b is_true h = is_true ∙ ap (λ c. c || b) (sym is_true ∙ h)

pub or_second : (a b x : Bool) → a ≡ false → x ≡ b → x ≡ (a || b)
or_second a b x is_false h = h ∙ ap (λ c. c || b) (sym is_false)
