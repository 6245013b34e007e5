use Rattle.std.proofs.Common.{◌≡◌, None}
use Rattle.gaspi_world.specs.HeldShards.{Holds}
use Rattle.gaspi_world.specs.Transfers.{HasMoved}
use Rattle.gaspi_world.proofs.transfers.go_on.Given as goal

abbrev pub invariant-loop : goal.invariant-loop
invariant-loop l =
    (l.pass.table ≡ l.fn.pass.table) × Holds l.fn.table.start.shape l.held l.pass.known × (l.held.own ≡ l.fn.held.own) × (l.held.other ≡ None)
    × HasMoved l.fn.table.start.shape l.fn.held.own l.fn.pass.known l.pass.known
