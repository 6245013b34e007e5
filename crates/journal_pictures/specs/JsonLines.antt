-- JSON objects, each a line of its own. (own choice)
use Rattle.std.specs.Prelude.{◌≡◌, ℕ, List, [], ◌∷◌, ◌++◌, codes}
use Rattle.std.specs.Fmt.{decimal}
use Rattle.json.specs.Print.{escape}
use Rattle.serde_json.specs.Data.{Data, Members, number, unsigned, object}
use Rattle.serde_json.specs.Written.{compact_text}
use Rattle.journal_pictures.specs.declared.json_lines.Piece.{Piece}
use Rattle.journal_pictures.specs.declared.json_lines.Piece.TheVariants.{Fixed, Number}

-- a whole number as JSON
abbrev pub whole : ℕ → Data
whole n = number (unsigned n)

-- an object in a line of its own, behind another
abbrev pub line : Data → List ℕ
line d = codes ",\n" ++ compact_text d

-- objects, each in a line of its own
abbrev pub lines : List Data → List ℕ
lines [] = []
lines (d ∷ ds) = line d ++ lines ds

-- How lines are put together.

-- the bytes of a piece
abbrev pub piece_text : Piece → List ℕ
piece_text (Fixed bytes) = bytes.now
piece_text (Number n) = decimal n

-- pieces, one behind the other
abbrev pub pieces_text : List Piece → List ℕ
pieces_text [] = []
pieces_text (piece ∷ pieces) = piece_text piece ++ pieces_text pieces

-- a text that is between quotes as it is: JSON escapes no byte of it
abbrev pub IsPlain : List ℕ → Type 0
IsPlain text = escape text ≡ text

-- the front of a line, up to the `args` of its object
abbrev pub line_front : Members → List ℕ
line_front arguments = codes ",\n{\"args\":" ++ compact_text (object arguments)
