use Rattle.std.proofs.Common.{◌≡◌, arith, length}
use Rattle.plain_machine.specs.NonemptyLanes.{unbroken_transfers}
use Rattle.plain_machine.proofs.Walked.{counted_here}
use Rattle.plain_machine.proofs.listing.lanes_count.Goals as goal

pub overflow_add-count : goal.overflow_add-count
overflow_add-count c =
    let few = counted_here (unbroken_transfers c.args.limits.now c.args.posts.now) c.args.lanes.now c.loop-id.id-index c.id-item.result c.loop-id-test.true c.id-item.is in
    let more : c.entries_count-count.result ≡ length (unbroken_transfers c.args.limits.now c.args.posts.now c.id-item.result) = rw c.open_entries.ensures at c.entries_count-count.ensures in
    let all = c.requires in
    let so_far = c.loop-id.invariant in
    omega (arith, few, more, all, so_far)
