-- Positions in a lane: of its first posted and its first carried entry. (GASPI: one-sided communication)
use Rattle.std.specs.Prelude.{ℕ, List, Option, slice_get}
use Rattle.std.specs.List.{position_or_len}
use Rattle.gaspi_types.specs.Lanes.{is_posted, is_carried}
use Rattle.gaspi_types.specs.Tables.{changed_at}
use Rattle.gaspi_types.specs.declared.entries.Entry.{Entry}
use Rattle.gaspi_types.specs.declared.entries.Phase.{Phase}

-- the position of the first posted entry, or the length of the lane
abbrev pub posted_position : List Entry → ℕ
posted_position lane = position_or_len is_posted lane

-- the first posted entry
abbrev pub first_posted : List Entry → Option Entry
first_posted lane = slice_get lane (posted_position lane)

-- the first carried entry
abbrev pub first_carried : List Entry → Option Entry
first_carried lane = slice_get lane (position_or_len is_carried lane)

-- a lane, with the entry at a position in another phase
abbrev pub with_phase : List Entry → ℕ → Phase → List Entry
with_phase lane place phase = changed_at lane place (λ (e : Entry). record { number = e.number; kind = e.kind; phase = phase })
