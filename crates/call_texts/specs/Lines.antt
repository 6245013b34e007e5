-- The lines of a text. (own choice)
use Rattle.std.specs.Prelude.{map, ℕ, Bool, false, ◌==◌, List, [], ◌∷◌, if◌then◌else◌}
use Rattle.std.specs.List.{onto_first}

-- Each with its line feed, which the last one may lack.

-- the lines of a text, each with its line feed
abbrev pub fed_lines : List ℕ → List (List ℕ)
fed_lines [] = []
fed_lines (byte ∷ bytes) = if byte == 10 then (byte ∷ []) ∷ fed_lines bytes else onto_first byte (fed_lines bytes)

-- Each without its line feed, and without one carriage return before that.

abbrev pub ends_with : ℕ → List ℕ → Bool
ends_with last [] = false
ends_with last (byte ∷ []) = byte == last
ends_with last (byte ∷ next ∷ bytes) = ends_with last (next ∷ bytes)

-- a line without that byte at its end, where it ends with it
abbrev pub without_last : ℕ → List ℕ → List ℕ
without_last last [] = []
without_last last (byte ∷ []) = if byte == last then [] else byte ∷ []
without_last last (byte ∷ next ∷ bytes) = byte ∷ without_last last (next ∷ bytes)

-- a line without its end; one without a line feed keeps its carriage return
abbrev pub plain_line : List ℕ → List ℕ
plain_line line = if ends_with 10 line then without_last 13 (without_last 10 line) else line

-- the lines of a text, each without its end
abbrev pub lines_of : List ℕ → List (List ℕ)
lines_of text = map plain_line (fed_lines text)
