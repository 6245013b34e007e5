-- Numbers as words of a text.
use Rattle.std.specs.Prelude.{ℕ, Bool, false, List, [], ◌∷◌, length, Option, Some, None, if◌then◌else◌, ◌&&◌, ◌==◌, nat_lt, nat_le}
use Rattle.std.specs.Char.{is_ascii_digit}
use Rattle.std.specs.List.{list_all}
use Rattle.std.specs.Str.Parse.{digits_value}

-- one decimal digit or more, leading zeros included
abbrev pub is_numeral : List ℕ → Bool
is_numeral word = nat_lt 0 (length word) && list_all is_ascii_digit word

-- the number that a word spells, where it is at most a limit
abbrev pub number_up_to : ℕ → List ℕ → Option ℕ
number_up_to limit word =
    if is_numeral word && nat_le (digits_value 10 word) limit then Some (digits_value 10 word) else None

-- own choice: a number is below 2 ^ 64
unfoldable pub number_of : List ℕ → Option ℕ
number_of word = number_up_to 18446744073709551615 word

-- a number of 32 bits, as a notification value is (GASPI: notifications)
unfoldable pub value_of : List ℕ → Option ℕ
value_of word = number_up_to 4294967295 word

-- a zero in front of another digit, which no number in decimal has
abbrev pub has_leading_zero : List ℕ → Bool
has_leading_zero [] = false
has_leading_zero (first ∷ []) = false
has_leading_zero (first ∷ second ∷ rest) = (first == 48) && is_ascii_digit second
