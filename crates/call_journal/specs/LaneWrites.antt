-- The writes of a lane, as the events of a journal show them. (own choice)
use Rattle.std.specs.Prelude.{ℕ, zero, suc, ◌+◌, ◌-◌, ◌==◌, ◌&&◌, Bool, true, false, List, [], ◌∷◌, ◌++◌, map, nat_lt, Option, None, Some, if◌then◌else◌}
use Rattle.gaspi_types.specs.CallRows.{row_of, entries_of}
use Rattle.gaspi_types.specs.declared.call_rows.Posting.{Posting}
use Rattle.gaspi_types.specs.declared.calls.Call.{Call}
use Rattle.gaspi_types.specs.declared.calls.Call.TheVariants.{Write, Notify, WriteNotify, WriteList, WriteListNotify}
use Rattle.gaspi_types.specs.declared.events.Event.{Event}
use Rattle.gaspi_types.specs.declared.events.Event.TheVariants.{Called, Put}
use Rattle.gaspi_types.specs.declared.events.Outcome.TheVariants.{Applied}
use Rattle.gaspi_types.specs.declared.replies.Reply.TheVariants as replies
use Rattle.gaspi_model.specs.Order.{is_purge_of}
use Rattle.std.specs.List.{flat_map, slice_get}
use Rattle.call_journal.specs.declared.answers.CoveredWrite.{CoveredWrite}
use Rattle.call_journal.specs.declared.lane_writes.EntryPut.{EntryPut}
use Rattle.call_journal.specs.declared.lane_writes.Post.{Post}
use Rattle.call_journal.specs.declared.lane_writes.LaneWrite.{LaneWrite}

-- how many writes a call posts that is done: its first entries
abbrev pub writes_in : Call → ℕ
writes_in (Write call) = entries_of (Write call)
writes_in (WriteList call) = entries_of (WriteList call)
writes_in (WriteNotify call) = entries_of (WriteNotify call) - 1
writes_in (WriteListNotify call) = entries_of (WriteListNotify call) - 1
writes_in call = 0

-- whether its last entry is a notification
abbrev pub posts_notification : Call → Bool
posts_notification (Notify call) = true
posts_notification (WriteNotify call) = true
posts_notification (WriteListNotify call) = true
posts_notification call = false

-- what a call posts when it is done
abbrev pub post_in : Call → Option Posting → Option Post
post_in call None = None
post_in call (Some to) = Some (record { posting = to; writes = writes_in call; notified = posts_notification call })

-- what an event has posted for an origin
abbrev pub post_of : ℕ → Event → Option Post
post_of origin (Called c call replies.Done) = if c.rank == origin then post_in call (row_of call).posting else None
post_of origin event = None

-- how many entries it posted
abbrev pub entries_in : Option Post → ℕ
entries_in None = 0
entries_in (Some post) = post.posting.entries

-- whether it posted to the lane of an entry
abbrev pub goes_to : EntryPut → Post → Bool
goes_to at post = (post.posting.rank == at.target) && (post.posting.queue == at.queue)

-- the number of the entry of that lane that an event has put
abbrev pub put_in : EntryPut → Event → Option ℕ
put_in at (Put origin queue target number Applied) = if (origin == at.origin) && ((queue == at.queue) && (target == at.target)) then Some number else None
put_in at event = None

-- the put of an event
abbrev pub put_of : Event → Option EntryPut
put_of (Put origin queue target number Applied) = Some (record { origin = origin; queue = queue; target = target; number = number })
put_of event = None

-- the put at a place of a journal
abbrev pub put_at : List Event → ℕ → Option EntryPut
put_at journal place = of_event (slice_get journal place)
  where
    of_event : Option Event → Option EntryPut
    of_event None = None
    of_event (Some event) = put_of event

-- a write with the place of its put, where it has that number
abbrev pub put_here : ℕ → ℕ → LaneWrite → LaneWrite
put_here number place x = if x.number == number then record x { put = Some place } else x

-- the writes of a lane after a put at a place
abbrev pub with_put : Option ℕ → ℕ → List LaneWrite → List LaneWrite
with_put None place writes = writes
with_put (Some number) place writes = map (put_here number place) writes

-- the writes of a post at a place, as many as a count says, numbered on from a number
abbrev pub new_writes : ℕ → ℕ → ℕ → List LaneWrite
new_writes place number zero = []
new_writes place number (suc count) = record { post = place; number = number; put = None } ∷ new_writes place (number + 1) count

-- the writes that an event posts to the lane, where its origin's next entry has that number
abbrev pub writes_to : EntryPut → Option Post → ℕ
writes_to at None = 0
writes_to at (Some post) = if goes_to at post then post.writes else 0

-- whether it posts the entry itself, as a notification
abbrev pub is_notification_of : EntryPut → ℕ → Option Post → Bool
is_notification_of at next None = false
is_notification_of at next (Some post) = goes_to at post && (post.notified && (next + post.posting.entries == at.number + 1))

-- the writes of the lane after an event: none of those before it after a purge
abbrev pub writes_after : EntryPut → ℕ → Event → ℕ → List LaneWrite → List LaneWrite
writes_after at place event next writes =
    (if is_purge_of at.origin at.queue event then [] else with_put (put_in at event) place writes) ++ new_writes place next (writes_to at (post_of at.origin event))

-- a write with the place of its put, where it is put
abbrev pub arrived_with : LaneWrite → Option ℕ → List CoveredWrite
arrived_with x None = []
arrived_with x (Some put) = record { post = x.post; number = x.number; put = put } ∷ []

-- the same, where its number is below another
abbrev pub arrived_one : ℕ → LaneWrite → List CoveredWrite
arrived_one number x = if nat_lt x.number number then arrived_with x x.put else []

-- of the writes with a number below another those that are put
abbrev pub arrived : ℕ → List LaneWrite → List CoveredWrite
arrived number writes = flat_map (arrived_one number) writes
