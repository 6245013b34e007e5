-- The lines that made the calls of a run, as ranges of numbers.
use Rattle.std.specs.Prelude.{ℕ, ◌+◌, List, ◌∷◌}
use Rattle.std.specs.List.{flat_map, range_with_len}
use Rattle.call_journal.specs.declared.called_lines.LineRange.{LineRange}

-- the numbers of a range
abbrev pub numbers_in : LineRange → List ℕ
numbers_in range = range.first ∷ range_with_len (range.first + 1) range.more

-- the numbers of all ranges
abbrev pub numbers_of : List LineRange → List ℕ
numbers_of ranges = flat_map numbers_in ranges
