use Rattle.std.proofs.Common.{◌≡◌, ◌+◌, length, take}
use Rattle.std.specs.List.{flat_map}
use Rattle.plain_machine.specs.NonemptyLanes.{unbroken_transfers}
use Rattle.plain_machine.proofs.listing.lanes_transfer.Given as goal

abbrev pub invariant-loop-id : goal.invariant-loop-id
invariant-loop-id l = l.place ≡ length (flat_map (unbroken_transfers l.limits l.posts) (take l.id-index l.lanes)) + l.left
