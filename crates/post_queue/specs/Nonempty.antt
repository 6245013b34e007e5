-- The nonempty lanes of a queue: those that have an entry. (own choice)
use Rattle.std.specs.Prelude.{◌≡◌, ℕ, ◌<◌, Bool, true, false, List, [], ◌∷◌, Option, None, Some, slice_get}
use Rattle.std.specs.List.{position}
use Rattle.gaspi_types.specs.Masks.{is_member}
use Rattle.gaspi_types.specs.declared.entries.Entry.{Entry}
use Rattle.gaspi_types.specs.declared.entries.Queue.{Queue}
use Rattle.post_queue.specs.LaneStates.{LaneValue}

-- whether a lane has an entry
abbrev pub is_nonempty : List Entry → Bool
is_nonempty [] = false
is_nonempty (e ∷ lane) = true

-- the least target to which a queue has a nonempty lane
abbrev pub nonempty_in : Queue → Option ℕ
nonempty_in q = position is_nonempty q.lanes

-- whether a lane is there and has an entry
abbrev pub is_nonempty_at : Option LaneValue → Bool
is_nonempty_at None = false
is_nonempty_at (Some lane) = is_nonempty lane.entries

-- a set has just the targets of the nonempty lanes
abbrev pub IsNonempty : ℕ → List LaneValue → Type 0
IsNonempty nonempty lanes = (target : ℕ) → target < 32 → is_member nonempty target ≡ is_nonempty_at (slice_get lanes target)
