use Rattle.journal_pictures.specs.Diagram.{participant_line}
use Rattle.journal_pictures.proofs.NumberRanges.{range-more}
use Rattle.journal_pictures.proofs.drawing.write_participants.Goals as goal

pub loop-rank-preserved : goal.loop-rank-preserved
loop-rank-preserved c = range-more participant_line c.loop-rank.rank _ _ _ c.in_ok-write_participant.ensures c.loop-rank.invariant
