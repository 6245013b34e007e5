use Rattle.std.proofs.Common.{[]}
use Rattle.call_journal.specs.Transcripts.{rank_transcripts}
use Rattle.call_journal.proofs.NumberRanges.{range-more}
use Rattle.call_journal.proofs.transcripts.text_of_runs.Goals as goal

pub loop-rank-preserved : goal.loop-rank-preserved
loop-rank-preserved c = λ scripts told.
    range-more (rank_transcripts scripts c.args.journal.now) c.loop-rank.rank [] c.loop-rank.text c.write_rank.new.text
    (c.in_ok-write_rank.ensures scripts c.args.journal.now told (rw c.as_slice.ensures at c.in_ok-table.ensures)) (c.loop-rank.invariant scripts told)
