-- The lines of a text up to its journal, where that is looked for, or all of them. (own choice)
use Rattle.std.specs.Prelude.{map, ℕ, Bool, ◌&&◌, nat_lt, List, [], ◌∷◌, length, Option, None, Result, Err, if◌then◌else◌}
use Rattle.call_texts.specs.Lines.{fed_lines, plain_line}
use Rattle.rank_script.specs.Lines.{input_limit}
use Rattle.rank_script.specs.WorldText.{WorldReading, TextFault, empty_reading, read_lines, is_journal_line, journal_from}

-- the lines before the journal, where it is looked for; otherwise all
abbrev pub lines_until : Bool → List (List ℕ) → List (List ℕ)
lines_until journal [] = []
lines_until journal (line ∷ lines) = if journal && is_journal_line (plain_line line) then [] else line ∷ lines_until journal lines

-- what those lines give, as a world text
abbrev pub until_text : Bool → List ℕ → Result WorldReading TextFault
until_text journal bytes =
    if nat_lt input_limit (length bytes) then Err (record { number = 1; line = 0 })
    else read_lines empty_reading 1 (map plain_line (lines_until journal (fed_lines bytes)))

-- where the journal begins, where it is looked for
abbrev pub until_from : Bool → ℕ → ℕ → List (List ℕ) → Option (ℕ × ℕ)
until_from journal byte number lines = if journal then journal_from byte number lines else None
