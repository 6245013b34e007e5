use Rattle.std.proofs.Common.{◌≡◌, length}
use Rattle.gaspi_texts.specs.Merges.{joined}
use Rattle.gaspi_texts.proofs.MergedJournals.{IsMerged}
use Rattle.gaspi_texts.proofs.merging.MergeRoom.merge.Given as goal

abbrev pub invariant-loop-list : goal.invariant-loop-list
invariant-loop-list l = record { room : l.journal.capacity ≡ l.fn.self.events; merged : IsMerged l.fn.self.lists l.lists.items l.journal.items }

abbrev pub decreases-loop-list : goal.decreases-loop-list
decreases-loop-list l = length (joined l.lists.items)
