use Rattle.std.proofs.Common.{◌≡◌, ◌++◌}
use Rattle.std.specs.List.{flat_map, range_with_len}
use Rattle.journal_pictures.specs.Diagram.{participant_line}
use Rattle.journal_pictures.proofs.drawing.write_participants.Given as goal

-- the ranks so far
abbrev pub invariant-loop-rank : goal.invariant-loop-rank
invariant-loop-rank l = l.text ≡ l.fn.text ++ flat_map participant_line (range_with_len 0 l.rank)
