use Rattle.std.proofs.Common.{◌≡◌, ◌++◌, length, map}
use Rattle.call_texts.specs.Words.{pieces_of}
use Rattle.call_texts.proofs.blanks.set_pieces.Given as goal

abbrev pub invariant-loop-piece : goal.invariant-loop-piece
invariant-loop-piece l = pieces_of l.text ≡ map (λ word. word.now) l.list.items ++ pieces_of l.rest

abbrev pub decreases-loop-piece : goal.decreases-loop-piece
decreases-loop-piece l = length l.rest
