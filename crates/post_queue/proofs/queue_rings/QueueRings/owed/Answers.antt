use Rattle.std.proofs.Common.{arith}
use Rattle.gaspi_types.specs.Lanes.{entry_owed}
use Rattle.post_queue.proofs.Counts.{total-bound, small-owed}
use Rattle.post_queue.proofs.queue_rings.QueueRings.owed.Goals as goal

pub returns-clause-bound : goal.returns-clause-bound
returns-clause-bound c =
    let counts = c.self.invariant.queue.counts in
    let bound = total-bound entry_owed _ small-owed counts.few counts.short in
    let owed = counts.tally.owed in
    omega arith
