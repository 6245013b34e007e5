use Rattle.std.proofs.Common.{◌≡◌, ◌+◌, length, take}
use Rattle.std.specs.List.{flat_map}
use Rattle.gaspi_model.specs.Transfers.{transfer_of}
use Rattle.plain_machine.proofs.listing.entries_transfer.Given as goal

abbrev pub invariant-loop-entry : goal.invariant-loop-entry
invariant-loop-entry l =
    l.place ≡ length (flat_map (transfer_of l.id.origin l.id.queue l.id.target l.limits l.entries) (take l.entry-index l.entries)) + l.left
