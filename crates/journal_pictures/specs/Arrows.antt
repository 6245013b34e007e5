-- That each arrow of a trace joins the put that has set a notification slot with a call that gets the notification. (GASPI: notifications)
use Rattle.std.specs.Prelude.{◌≡◌, ◌≢◌, ℕ, ◌+◌, ◌<◌, List, [], ◌∷◌, ◌++◌, take, Some, Ok, slice_get}
use Rattle.gaspi_types.specs.World.{ShapeValue}
use Rattle.gaspi_types.specs.declared.calls.Call.{Call}
use Rattle.gaspi_types.specs.declared.calls.Call.TheVariants.{Reset, Waitsome}
use Rattle.gaspi_types.specs.declared.entries.NoteSlot.{NoteSlot}
use Rattle.gaspi_types.specs.declared.events.Event.{Event}
use Rattle.gaspi_types.specs.declared.events.Event.TheVariants.{Called}
use Rattle.gaspi_types.specs.declared.replies.Reply.{Reply}
use Rattle.gaspi_types.specs.declared.replies.Reply.TheVariants as replies
use Rattle.gaspi_types.specs.declared.shapes.CallerId.{CallerId}
use Rattle.gaspi_model.specs.Changes.{IsThere}
use Rattle.gaspi_model.specs.Notifications.{SetsSlot}
use Rattle.gaspi_model.specs.Step.{reached}
use Rattle.gaspi_model.specs.declared.states.Memory.{Memory}
use Rattle.gaspi_model.specs.declared.states.State.{State}
use Rattle.journal_pictures.specs.OpenEntries.{entries_after, put_entry, slots_after}
use Rattle.journal_pictures.specs.Trace.{event_objects, got_slot, nothing_open, objects_from}
use Rattle.journal_pictures.specs.declared.open_entries.RankEntries.{RankEntries}
use Rattle.journal_pictures.specs.declared.set_slots.SetSlot.{SetSlot}

-- The open entries, and the set slots, after events.

abbrev pub open_after : List RankEntries → List Event → List RankEntries
open_after ranks [] = ranks
open_after ranks (e ∷ events) = open_after (entries_after e ranks) events

abbrev pub set_after : List RankEntries → List SetSlot → ℕ → List Event → List SetSlot
set_after ranks slots place [] = slots
set_after ranks slots place (e ∷ events) = set_after (entries_after e ranks) (slots_after (put_entry ranks e) place e slots) (place + 1) events

-- before the event at a place of a history
abbrev pub open_at : List Event → ℕ → List RankEntries
open_at history place = open_after nothing_open (take place history)

abbrev pub set_at : List Event → ℕ → List SetSlot
set_at history place = set_after nothing_open [] 0 (take place history)

-- the slot, in a generation of its segment
abbrev pub slot_in : ℕ → SetSlot → NoteSlot
slot_in generation s = record { segment = s.segment; generation = generation; note = s.note }

-- The put at a slot's place, which is one of the slot's origin and queue, has set it to a value, in a generation of its segment. Before
-- another place no later put has set the slot, in whatever generation, and no reset of it was answered with a value. (notify_reset)
pub record IsSetBy (w : ShapeValue) (history : List Event) (place : ℕ) (s : SetSlot) (generation value : ℕ) : Type 0 where
  pub sets : SetsSlot w history s.place s.rank (slot_in generation s) value
  pub origin : sets.origin ≡ s.origin
  pub queue : sets.queue ≡ s.queue
  pub earlier : s.place < place
  pub last : (between other again : ℕ) → s.place < between → between < place → SetsSlot w history between s.rank (slot_in other s) again → ⊥
  pub unread : (between answered : ℕ) (c : CallerId) → s.place < between → between < place → c.rank ≡ s.rank
      → slice_get history between ≡ Some (Called c (Reset (record { seg = s.segment; note = s.note })) (replies.Value answered)) → ⊥

-- Of which segment and slot a call gets the notification, by what it was answered: a waitsome names a slot, and a reset reads one, which
-- had another value than 0. (notify_waitsome, notify_reset)
abbrev pub Gets : Call → Reply → ℕ → ℕ → Type 0
Gets (Waitsome call) (replies.Id found) segment note = (segment ≡ call.seg) × (note ≡ found)
Gets (Reset call) (replies.Value value) segment note = (segment ≡ call.seg) × (note ≡ call.note) × (value ≢ 0)
Gets call reply segment note = ⊥

-- An arrow from the put of a slot to a call at a place: the call gets that slot's notification, of the rank of its caller, where the
-- segment is there in the generation in which that put has set the slot, as the last one; and a reset is answered the value that the
-- put has set.
pub record IsArrow (w : ShapeValue) (history : List Event) (place : ℕ) (c : CallerId) (call : Call) (reply : Reply) (s : SetSlot) : Type 0 where
  pub generation : ℕ
  pub value : ℕ
  pub own : s.rank ≡ c.rank
  pub gets : Gets call reply s.segment s.note
  pub set : IsSetBy w history place s generation value
  pub some : value ≢ 0
  pub answered : (answer : ℕ) → reply ≡ replies.Value answer → answer ≡ value
  pub state : State
  pub memory : Memory
  pub leads : reached w (take place history) ≡ Ok state
  pub memory_there : slice_get state.memories c.rank ≡ Some memory
  pub there : IsThere memory s.segment generation

-- The trace of a history: the objects of one event more are those of that event, by what is open and set before it; where a call has
-- an arrow, that is one; and each call that gets a notification has one.
pub record JoinsArrows (w : ShapeValue) (history : List Event) : Type 0 where
  pub drawn : (place : ℕ) (e : Event) → slice_get history place ≡ Some e
      → objects_from nothing_open [] 0 (take (place + 1) history) ≡ objects_from nothing_open [] 0 (take place history) ++ event_objects (open_at history place) (set_at history place) place e
  pub right : (place : ℕ) (c : CallerId) (call : Call) (reply : Reply) (s : SetSlot) → slice_get history place ≡ Some (Called c call reply)
      → got_slot (set_at history place) c call reply ≡ Some s → IsArrow w history place c call reply s
  pub all : (place : ℕ) (c : CallerId) (call : Call) (reply : Reply) (segment note : ℕ) → slice_get history place ≡ Some (Called c call reply)
      → Gets call reply segment note → (s : SetSlot) × (got_slot (set_at history place) c call reply ≡ Some s) × (s.segment ≡ segment) × (s.note ≡ note)
