use Rattle.std.proofs.Common.{arith}
use Rattle.journal_pictures.specs.Trace.{rank_name}
use Rattle.journal_pictures.proofs.Lines.{lines-more}
use Rattle.journal_pictures.proofs.tracing.write_ranks.Goals as goal

pub loop-before-preserved : goal.loop-before-preserved
loop-before-preserved c =
    lines-more rank_name 1 c.loop-before.before _ _ _ _ _ (omega arith) (omega arith) c.in_ok-write_rank.ensures c.loop-before.invariant
