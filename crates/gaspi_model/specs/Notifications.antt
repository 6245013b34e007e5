-- Which put has set a notification slot last, and that each value that was set is handed out once. (GASPI: notifications)
use Rattle.std.specs.Prelude.{◌≡◌, ◌≢◌, ℕ, ◌<◌, List, take, slice_get, Some, Ok}
use Rattle.gaspi_types.specs.World.{ShapeValue}
use Rattle.gaspi_types.specs.declared.calls.Call.TheVariants.{Reset}
use Rattle.gaspi_types.specs.declared.calls.notifications.Reset as reset
use Rattle.gaspi_types.specs.declared.entries.Entry.{Entry}
use Rattle.gaspi_types.specs.declared.entries.Kind.{Kind}
use Rattle.gaspi_types.specs.declared.entries.Kind.TheVariants.{Write, Read, Notify, ReadNote}
use Rattle.gaspi_types.specs.declared.entries.NoteSlot.{NoteSlot}
use Rattle.gaspi_types.specs.declared.events.Event.{Event}
use Rattle.gaspi_types.specs.declared.events.Event.TheVariants.{Called, Put}
use Rattle.gaspi_types.specs.declared.events.Outcome.TheVariants.{Applied}
use Rattle.gaspi_types.specs.declared.replies.Reply.TheVariants as replies
use Rattle.gaspi_types.specs.declared.shapes.CallerId.{CallerId}
use Rattle.gaspi_model.specs.Changes.{IsThere}
use Rattle.gaspi_model.specs.Shards.{entry_after}
use Rattle.gaspi_model.specs.Step.{reached}
use Rattle.gaspi_model.specs.declared.states.Memory.{Memory}
use Rattle.gaspi_model.specs.declared.states.State.{State}

-- The slot of a rank that an entry sets, and the value: a notification a slot of its target, to its own value; the notification of a
-- read a slot of its origin, to 1; a write and a read none.
abbrev pub Sets : ℕ → ℕ → Kind → ℕ → NoteSlot → ℕ → Type 0
Sets origin target (Write own to) rank slot value = ⊥
Sets origin target (Read own to) rank slot value = ⊥
Sets origin target (Notify to set) rank slot value = (rank ≡ target) × (slot ≡ to) × (value ≡ set)
Sets origin target (ReadNote own) rank slot value = (rank ≡ origin) × (slot ≡ own) × (value ≡ 1)

-- At a place of a history is the put of an entry that sets a slot of a rank, in that generation of its segment, to a value. A put
-- that failed sets nothing.
pub record SetsSlot (w : ShapeValue) (history : List Event) (place rank : ℕ) (slot : NoteSlot) (value : ℕ) : Type 0 where
  pub origin : ℕ
  pub queue : ℕ
  pub target : ℕ
  pub number : ℕ
  pub state : State
  pub entry : Entry
  pub is : slice_get history place ≡ Some (Put origin queue target number Applied)
  pub leads : reached w (take place history) ≡ Ok state
  pub stands : entry_after state origin queue target number ≡ Some entry
  pub sets : Sets origin target entry.kind rank slot value

-- At a place of a history is a reset of a slot by a caller of its rank that was answered with a value, while the segment is there
-- in that generation. (notify_reset)
pub record IsResetOf (w : ShapeValue) (history : List Event) (place rank : ℕ) (slot : NoteSlot) (value : ℕ) : Type 0 where
  pub caller : CallerId
  pub state : State
  pub memory : Memory
  pub is : slice_get history place ≡ Some (Called caller (Reset (record { seg = slot.segment; note = slot.note })) (replies.Value value))
  pub own : caller.rank ≡ rank
  pub leads : reached w (take place history) ≡ Ok state
  pub memory_there : slice_get state.memories rank ≡ Some memory
  pub there : IsThere memory slot.segment slot.generation

-- The put at a place is the last before another place that has set a slot of a rank in that generation of its segment; it has set
-- it to a value.
pub record IsLastSet (w : ShapeValue) (history : List Event) (put place rank : ℕ) (slot : NoteSlot) (value : ℕ) : Type 0 where
  pub sets : SetsSlot w history put rank slot value
  pub earlier : put < place
  pub last : (between other : ℕ) → put < between → between < place → SetsSlot w history between rank slot other → ⊥

-- The reset at a place answers a value that is not 0, and the put at another is the last before it that has set its slot in that
-- generation; that is set, and this is answered.
pub record IsHandedOut (w : ShapeValue) (history : List Event) (put place set answered : ℕ) : Type 0 where
  pub rank : ℕ
  pub slot : NoteSlot
  pub resets : IsResetOf w history place rank slot answered
  pub some : answered ≢ 0
  pub last : IsLastSet w history put place rank slot set

-- Each value but 0 that a reset answers was set by the last put before it that has set its slot in the generation of its segment; and
-- what a put has set is handed out by one reset alone.
pub record HandsOutOnce (w : ShapeValue) (history : List Event) : Type 0 where
  pub each : (place : ℕ) (c : CallerId) (call : reset.Reset) (value : ℕ) → slice_get history place ≡ Some (Called c (Reset call) (replies.Value value)) → value ≢ 0
      → (put : ℕ) × IsHandedOut w history put place value value
  pub once : (put place other set later answered again : ℕ) → IsHandedOut w history put place set answered → IsHandedOut w history put other later again → place ≡ other
