-- The movable lanes: those that have an entry, of queues that are not broken; and their cyclic order. (own choice)
use Rattle.std.specs.Prelude.{◌≡◌, ◌⊎◌, ℕ, ◌<◌, ◌&&◌, Bool, true, false, List, Option, None, Some, is_none, slice_get}
use Rattle.std.specs.Option.{is_some}
use Rattle.gaspi_types.specs.Masks.{is_member}
use Rattle.gaspi_types.specs.declared.entries.Entry.{Entry}
use Rattle.gaspi_types.specs.declared.entries.Queue.{Queue}
use Rattle.post_queue.specs.LanesStates.{IsLanes}
use Rattle.post_queue.specs.Nonempty.{is_nonempty, nonempty_in}
use Rattle.post_queue.specs.QueueStates.{QueueState}

-- whether a lane is there and has an entry
abbrev pub is_nonempty_lane : Option (List Entry) → Bool
is_nonempty_lane None = false
is_nonempty_lane (Some lane) = is_nonempty lane

-- whether a queue is there and not broken, and has a nonempty lane to a target
abbrev pub is_movable_to : Option Queue → ℕ → Bool
is_movable_to None target = false
is_movable_to (Some q) target = is_none q.broken && is_nonempty_lane (slice_get q.lanes target)

-- whether a lane is movable, by its queue and its target
abbrev pub is_movable_lane : List Queue → ℕ → ℕ → Bool
is_movable_lane queues queue target = is_movable_to (slice_get queues queue) target

-- whether a queue is movable: it is not broken, and has a nonempty lane
abbrev pub is_movable : Queue → Bool
is_movable q = is_none q.broken && is_some (nonempty_in q)

abbrev pub is_movable_in : Option Queue → Bool
is_movable_in None = false
is_movable_in (Some q) = is_movable q

-- whether a queue is there and movable
abbrev pub is_movable_queue : List Queue → ℕ → Bool
is_movable_queue queues queue = is_movable_in (slice_get queues queue)

-- A lane, by its queue and its target, comes before another: by queue, then by target.
abbrev pub IsBefore : ℕ × ℕ → ℕ × ℕ → Type 0
IsBefore a b = (a.0 < b.0) ⊎ ((a.0 ≡ b.0) × (a.1 < b.1))

-- `other` is between the lanes `after` and `next` in the cyclic order: after the last lane comes the first one
abbrev pub IsPassed : ℕ × ℕ → ℕ × ℕ → ℕ × ℕ → Type 0
IsPassed after next other = (IsBefore after other × IsBefore other next) ⊎ ((IsBefore after next → ⊥) × (IsBefore after other ⊎ IsBefore other next))

-- the next movable lane after a lane, in that cyclic order
pub record IsNextLane (queues : List Queue) (after next : ℕ × ℕ) : Type 0 where
  pub movable : is_movable_lane queues next.0 next.1 ≡ true
  pub first : (other : ℕ × ℕ) → IsPassed after next other → is_movable_lane queues other.0 other.1 ≡ false

-- Queues with their depths.

abbrev pub is_movable_state : Option QueueState → Bool
is_movable_state None = false
is_movable_state (Some q) = is_movable q.queue

-- a set has just the movable queues
abbrev pub AreMovable : ℕ → List QueueState → Type 0
AreMovable movable queues = (queue : ℕ) → queue < 32 → is_member movable queue ≡ is_movable_state (slice_get queues queue)

-- the invariant of `Lanes`: each queue has its depth and its lanes, and `movable` has just the movable queues
pub record AreMarked (depth ranks : ℕ) (queues : List QueueState) (movable : ℕ) : Type 0 where
  pub lanes : IsLanes depth ranks queues
  pub marks : AreMovable movable queues
