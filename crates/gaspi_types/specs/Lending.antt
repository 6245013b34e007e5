-- A list with one item that is lent to be written.
use Rattle.std.specs.Prelude.{ℕ, List, slice_set}
use Rattle.std.specs.Borrow.{Lends, MutBor, Fml, RattleType}
use Rattle.gaspi_types.specs.contracts.lists.Sequence.{the_row}

-- once the borrow r ends, the item at that index is the last value written through r, and the others are as they were
abbrev pub LendsItem : (T : RattleType) → MutBor (List T.Denot) → ℕ → MutBor T.Denot → Fml
LendsItem T rows place r = Lends (the_row T) T rows r (slice_set rows.now place)
