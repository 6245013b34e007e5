use Rattle.gaspi_model.specs.Transfers.{transfer_of}
use Rattle.plain_machine.proofs.Walked.{found_here}
use Rattle.plain_machine.proofs.listing.entries_transfer.Goals as goal

pub returns-then-left-eq0 : goal.returns-then-left-eq0
returns-then-left-eq0 c =
    found_here (transfer_of c.args.id.now.origin c.args.id.now.queue c.args.id.now.target c.args.limits.now c.args.entries.now) c.args.entries.now c.loop-entry.entry-index c.args.place c.loop-entry.left c.entry-item.result c.transfer_of.result _
    c.loop-entry-test.true c.entry-item.is c.loop-entry.invariant c.if-left-eq0.true (c.transfer_of.ensures c.args.entries.now c.summary_of-summary.ensures) c.in-Some.is
