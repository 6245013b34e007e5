-- Which bytes a line may have, and how many bytes a line and an input. (own choice)
use Rattle.std.specs.Prelude.{ℕ, Bool, ◌==◌, ◌||◌, not, nat_lt, List, length}
use Rattle.std.specs.List.{list_any}
use Rattle.gaspi_types.specs.Ranges.{is_between}

-- the most bytes that a world text may have, and an input that begins with one
abbrev pub input_limit : ℕ
input_limit = 268435456

-- a byte that a line may have: a printing one of ASCII, a space or a tab
abbrev pub is_line_byte : ℕ → Bool
is_line_byte byte = is_between 32 126 byte || (byte == 9)

-- a line that no text may have: with another byte, or with over 140,000 bytes
abbrev pub is_bad_line : List ℕ → Bool
is_bad_line line = list_any (λ byte. not (is_line_byte byte)) line || nat_lt 140000 (length line)
