use Rattle.std.proofs.Common.{◌≡◌, length, take}
use Rattle.std.specs.List.{flat_map}
use Rattle.plain_machine.specs.NonemptyLanes.{unbroken_transfers}
use Rattle.plain_machine.proofs.listing.lanes_count.Given as goal

abbrev pub invariant-loop-id : goal.invariant-loop-id
invariant-loop-id l = l.count ≡ length (flat_map (unbroken_transfers l.limits l.posts) (take l.id-index l.lanes))
