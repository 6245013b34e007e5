-- The generator of numbers of 32 bits. (own choice)
use Rattle.std.specs.Prelude.{ℕ, zero, suc, ◌+◌, ◌*◌, ◌%◌}

-- the number after a draw
abbrev pub drawn : ℕ → ℕ
drawn x = (69069 * x + 1) % 4294967296

-- the number after `count` draws from a seed
abbrev pub after_draws : ℕ → ℕ → ℕ
after_draws seed zero = seed
after_draws seed (suc count) = drawn (after_draws seed count)
