-- Which entries are in a lane after a history. (GASPI: notification order)
use Rattle.std.specs.Prelude.{◌≡◌, ℕ, ◌+◌, ◌<◌, Bool, true, false, ◌&&◌, ◌==◌, List, Some, Ok}
use Rattle.gaspi_types.specs.Lanes.{is_write, is_read, is_notify, is_read_note}
use Rattle.gaspi_types.specs.World.{ShapeValue}
use Rattle.gaspi_types.specs.declared.entries.Entry.{Entry}
use Rattle.gaspi_types.specs.declared.calls.Call.TheVariants.{Purge}
use Rattle.gaspi_types.specs.declared.events.Event.{Event}
use Rattle.gaspi_types.specs.declared.events.Event.TheVariants.{Called}
use Rattle.gaspi_types.specs.declared.replies.Reply.TheVariants as replies
use Rattle.gaspi_model.specs.Step.{reached}
use Rattle.gaspi_model.specs.Shards.{entry_after}
use Rattle.gaspi_model.specs.declared.states.State.{State}

-- after a history an entry of that kind is in a lane with a number: it was posted, and is not put yet
pub record IsInLane (is_kind : Entry → Bool) (w : ShapeValue) (history : List Event) (origin queue target number : ℕ) : Type 0 where
  pub state : State
  pub entry : Entry
  pub leads : reached w history ≡ Ok state
  pub stands : entry_after state origin queue target number ≡ Some entry
  pub kind : is_kind entry ≡ true

-- a write is in a lane
abbrev pub IsWriteInLane : ShapeValue → List Event → ℕ → ℕ → ℕ → ℕ → Type 0
IsWriteInLane w history origin queue target number = IsInLane is_write w history origin queue target number

-- a read is in a lane
abbrev pub IsReadInLane : ShapeValue → List Event → ℕ → ℕ → ℕ → ℕ → Type 0
IsReadInLane w history origin queue target number = IsInLane is_read w history origin queue target number

-- a notification is in a lane
abbrev pub IsNotificationInLane : ShapeValue → List Event → ℕ → ℕ → ℕ → ℕ → Type 0
IsNotificationInLane w history origin queue target number = IsInLane is_notify w history origin queue target number

-- the notification of a read is in a lane
abbrev pub IsReadNoteInLane : ShapeValue → List Event → ℕ → ℕ → ℕ → ℕ → Type 0
IsReadNoteInLane w history origin queue target number = IsInLane is_read_note w history origin queue target number

-- so many entries of that kind are in a lane, with numbers one after another from a first one on
abbrev pub AreInLane : (Entry → Bool) → ShapeValue → List Event → ℕ → ℕ → ℕ → ℕ → ℕ → Type 0
AreInLane is_kind w history origin queue target number count =
    (k : ℕ) → k < count → IsInLane is_kind w history origin queue target (number + k)

-- a purge of a queue by a caller of its origin that was answered with done (queue_purge)
abbrev pub is_purge_of : ℕ → ℕ → Event → Bool
is_purge_of origin queue (Called c (Purge call) replies.Done) = (c.rank == origin) && (call.queue == queue)
is_purge_of origin queue event = false
