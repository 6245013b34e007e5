use Rattle.std.proofs.Common.{◌≡◌, ◌≤◌, ◌<◌, ◌^◌, ℕ, nat_lt, take}
use Rattle.gaspi_types.specs.Lanes.{carried_count, has_earlier_write, has_earlier_read}
use Rattle.plain_machine.proofs.listing.summary_of.Given as goal

abbrev pub invariant-loop-entry : goal.invariant-loop-entry
invariant-loop-entry l =
    (l.carried ≤ l.entry-index)
    × (l.carried ≡ carried_count (take l.entry-index l.entries))
    × ((n : ℕ) → n < 2 ^ 32 → has_earlier_write (take l.entry-index l.entries) n ≡ nat_lt l.first_write n)
    × ((n : ℕ) → n < 2 ^ 32 → has_earlier_read (take l.entry-index l.entries) n ≡ nat_lt l.first_read n)
