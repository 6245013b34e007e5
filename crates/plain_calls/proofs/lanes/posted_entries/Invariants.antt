use Rattle.std.proofs.Common.{◌≡◌, ◌+◌, ◌++◌, drop}
use Rattle.gaspi_types.specs.Lanes.{posted_entries}
use Rattle.plain_calls.proofs.lanes.posted_entries.Given as goal

abbrev pub invariant-loop-kind : goal.invariant-loop-kind
invariant-loop-kind l =
    (l.next ≡ l.number + l.kind-index)
    × (l.entries ++ posted_entries l.next (drop l.kind-index l.kinds) ≡ posted_entries l.number l.kinds)
