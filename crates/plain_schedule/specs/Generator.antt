-- What a number of the generator picks. (own choice)
use Rattle.std.specs.Prelude.{ℕ, ◌/◌, ◌%◌}

-- which of n candidates a number picks
abbrev pub picked : ℕ → ℕ → ℕ
picked x n = (x / 65536) % n
