use Rattle.std.proofs.Common.{length}
use Rattle.gaspi_texts.proofs.ReadJournals.{HasRead}
use Rattle.gaspi_texts.proofs.journal_reading.read.Given as goal

abbrev pub invariant-loop-rest : goal.invariant-loop-rest
invariant-loop-rest l = HasRead l.text l.journal l.rest

abbrev pub decreases-loop-rest : goal.decreases-loop-rest
decreases-loop-rest l = length l.rest
