use Rattle.std.proofs.Common.{◌≡◌, ◌++◌, take}
use Rattle.std.specs.List.{flat_map}
use Rattle.gaspi_model.specs.Transfers.{transfer_of}
use Rattle.plain_machine.proofs.listing.push_transfers.Given as goal

abbrev pub invariant-loop-entry : goal.invariant-loop-entry
invariant-loop-entry l =
    l.found ≡ l.initial.found ++ flat_map (transfer_of l.id.origin l.id.queue l.id.target l.limits l.entries) (take l.entry-index l.entries)
