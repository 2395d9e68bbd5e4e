-- Names in lines of text.
use Rattle.std.specs.Prelude.{ℕ, ◌+◌, ◌/◌, ◌%◌, List, [], ◌∷◌, nat_lt, ◌==◌, ◌||◌, if◌then◌else◌}

-- an upper-case hexadecimal digit
abbrev pub hex_digit : ℕ → ℕ
hex_digit n = if nat_lt n 10 then 48 + n else 55 + n

-- `%`, `/` and what isn't printed become `%` and two digits
abbrev pub spelled_byte : ℕ → List ℕ
spelled_byte b = if nat_lt b 0x21 || (nat_lt 0x7e b || (b == 37 || b == 47)) then 37 ∷ hex_digit (b / 16) ∷ hex_digit (b % 16) ∷ [] else b ∷ []
