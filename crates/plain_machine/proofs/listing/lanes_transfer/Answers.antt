use Rattle.plain_machine.specs.NonemptyLanes.{unbroken_transfers}
use Rattle.plain_machine.proofs.Walked.{sought_here}
use Rattle.plain_machine.proofs.listing.lanes_transfer.Goals as goal

pub returns-in-Found : goal.returns-in-Found
returns-in-Found c =
    sought_here (unbroken_transfers c.args.limits.now c.args.posts.now) c.args.lanes.now c.loop-id.id-index c.args.place c.loop-id.left c.id-item.result c.in-Found.transfer
    c.loop-id-test.true c.id-item.is c.loop-id.invariant (rw c.open_entries.ensures at c.in-Found.ensures)
