use Rattle.std.proofs.Common.{◌≡◌, ◌++◌, drop}
use Rattle.journal_pictures.specs.JsonLines.{pieces_text}
use Rattle.journal_pictures.proofs.json_lines.append_pieces.Given as goal

-- the pieces so far, and those that are left
abbrev pub invariant-loop-piece : goal.invariant-loop-piece
invariant-loop-piece l = l.text ++ pieces_text (drop l.piece-index l.pieces) ≡ l.fn.text ++ pieces_text l.pieces
