-- What is known of the writes of a lane before a place of a journal. (own choice)
use Rattle.std.specs.Prelude.{◌≡◌, ℕ, ◌+◌, ◌<◌, ◌≤◌, Bool, true, List, [], ◌∷◌, take, Option, None, Some, Ok, slice_get}
use Rattle.gaspi_types.specs.Lanes.{is_notify}
use Rattle.gaspi_types.specs.World.{ShapeValue}
use Rattle.gaspi_types.specs.declared.entries.Entry.{Entry}
use Rattle.gaspi_types.specs.declared.events.Event.{Event}
use Rattle.gaspi_types.specs.declared.events.Event.TheVariants.{Put}
use Rattle.gaspi_types.specs.declared.events.Outcome.TheVariants.{Applied}
use Rattle.gaspi_model.specs.Shards.{entry_after}
use Rattle.gaspi_model.specs.Step.{reached}
use Rattle.gaspi_model.specs.declared.states.Posts.{Posts}
use Rattle.gaspi_model.specs.declared.states.State.{State}
use Rattle.call_journal.specs.Explanations.{IsPostedAt, IsUnpurged}
use Rattle.call_journal.specs.declared.lane_writes.EntryPut.{EntryPut}
use Rattle.call_journal.specs.declared.lane_writes.LaneWrite.{LaneWrite}

-- an event puts the write with that number
abbrev pub IsPutAt : List Event → EntryPut → (number place : ℕ) → Type 0
IsPutAt journal at number place = slice_get journal place ≡ Some (Put at.origin at.queue at.target number Applied)

-- where the put of a write is, or that it was not put since its post
abbrev pub HasPut : List Event → ℕ → EntryPut → (post number : ℕ) → Option ℕ → Type 0
HasPut journal place at post number None = (k : ℕ) → post < k → k < place → IsPutAt journal at number k → ⊥
HasPut journal place at post number (Some put) = (put < place) × IsPutAt journal at number put

-- a write of a lane that was posted before a place, and not purged since
pub record IsListed (w : ShapeValue) (journal : List Event) (place : ℕ) (at : EntryPut) (x : LaneWrite) : Type 0 where
  pub earlier : x.post < place
  pub posted : IsPostedAt w journal x.post at.origin at.queue at.target x.number
  pub unpurged : IsUnpurged journal x.post place at.origin at.queue
  pub put : HasPut journal place at x.post x.number x.put

-- The writes of the lane of an entry at a place of a journal, the number of its origin's next entry, and whether the entry itself
-- was posted as a notification.
pub record IsTracked (w : ShapeValue) (journal : List Event) (place : ℕ) (at : EntryPut) (next : ℕ) (notified : Bool) (writes : List LaneWrite) : Type 0 where
  pub numbered : (s : State) (posts : Posts) → reached w (take place journal) ≡ Ok s → slice_get s.posts at.origin ≡ Some posts → posts.next ≡ next
  pub listed : (k : ℕ) (x : LaneWrite) → slice_get writes k ≡ Some x → IsListed w journal place at x
  pub all : (post m : ℕ) → post < place → IsPostedAt w journal post at.origin at.queue at.target m → IsUnpurged journal post place at.origin at.queue
      → (k : ℕ) × (x : LaneWrite) × (slice_get writes k ≡ Some x) × (x.post ≡ post) × (x.number ≡ m)
  pub note : (s : State) (e : Entry) → reached w (take place journal) ≡ Ok s → entry_after s at.origin at.queue at.target at.number ≡ Some e → is_notify e ≡ notified
  pub posted : notified ≡ true → at.number < next

-- the numbers of writes rise from one on, and are below another
abbrev pub Rise : ℕ → List LaneWrite → ℕ → Type 0
Rise low [] high = low ≤ high
Rise low (x ∷ writes) high = (low ≤ x.number) × Rise (x.number + 1) writes high
