-- The nonempty lanes, by origin, queue and target, and the enabled transfers of a lane.
use Rattle.std.specs.Prelude.{◌≡◌, ℕ, ◌+◌, ◌<◌, ◌^◌, Bool, true, false, not, ◌&&◌, ◌||◌, ◌==◌, nat_lt, List, [], ◌∷◌, length, Option, None, Some, if◌then◌else◌, slice_get, is_none}
use Rattle.std.specs.List.{flat_map, enumerate_from}
use Rattle.gaspi_types.specs.CallRows.{row_of}
use Rattle.gaspi_types.specs.Lanes.{carried_count, has_earlier_write, has_earlier_read}
use Rattle.gaspi_types.specs.Replies.{is_idle}
use Rattle.gaspi_types.specs.declared.call_rows.Posting.{Posting}
use Rattle.gaspi_types.specs.declared.calls.Call.{Call}
use Rattle.gaspi_types.specs.declared.entries.Entry.{Entry}
use Rattle.gaspi_types.specs.declared.events.Event.{Event}
use Rattle.gaspi_types.specs.declared.events.Event.TheVariants.{Called, Joined, Take, Put}
use Rattle.gaspi_types.specs.declared.events.Transfer.{Transfer}
use Rattle.gaspi_types.specs.declared.shapes.Limits.{Limits}
use Rattle.gaspi_model.specs.Transfers.{lane_transfers}
use Rattle.gaspi_types.specs.declared.entries.Queue.{Queue}
use Rattle.gaspi_model.specs.declared.states.Posts.{Posts}
use Rattle.plain_calls.specs.NumberBounds.{purged_queue}
use Rattle.plain_machine.specs.declared.nonempty_lanes.LaneId.{LaneId}
use Rattle.plain_machine.specs.declared.listing.LaneCounts.{LaneCounts}
use Rattle.plain_machine.specs.declared.listing.TransferSearch.{TransferSearch}
use Rattle.plain_machine.specs.declared.listing.TransferSearch.TheVariants.{Found, Left}

-- the name of a lane
abbrev pub lane_id : ℕ → ℕ → ℕ → LaneId
lane_id origin queue target = record { origin = origin; queue = queue; target = target }

-- the name of a lane where it has an entry
abbrev pub lane_if_nonempty : ℕ → ℕ → ℕ × List Entry → List LaneId
lane_if_nonempty origin queue (target, []) = []
lane_if_nonempty origin queue (target, e ∷ lane) = lane_id origin queue target ∷ []

abbrev pub queue_nonempty_lanes : ℕ → ℕ × Queue → List LaneId
queue_nonempty_lanes origin (queue, q) = flat_map (lane_if_nonempty origin queue) (enumerate_from 0 q.lanes)

abbrev pub rank_nonempty_lanes : ℕ × Posts → List LaneId
rank_nonempty_lanes (origin, posts) = flat_map (queue_nonempty_lanes origin) (enumerate_from 0 posts.queues)

-- the nonempty lanes, in the order of origin, queue and target
abbrev pub nonempty_lanes : List Posts → List LaneId
nonempty_lanes posts = flat_map rank_nonempty_lanes (enumerate_from 0 posts)

-- those of a rank; none where there is no such rank
abbrev pub nonempty_lanes_of : List Posts → ℕ → List LaneId
nonempty_lanes_of posts rank = of_rank (slice_get posts rank)
  where
    of_rank : Option Posts → List LaneId
    of_rank None = []
    of_rank (Some p) = rank_nonempty_lanes (rank, p)

-- a lane comes before another in that order
abbrev pub is_before : LaneId → LaneId → Bool
is_before a b =
    nat_lt a.origin b.origin
    || ((a.origin == b.origin) && (nat_lt a.queue b.queue || ((a.queue == b.queue) && nat_lt a.target b.target)))

-- the queue of a lane; none where there is none
abbrev pub lane_queue : List Posts → LaneId → Option Queue
lane_queue posts id = of_rank (slice_get posts id.origin)
  where
    of_rank : Option Posts → Option Queue
    of_rank None = None
    of_rank (Some p) = slice_get p.queues id.queue

-- the entries of a queue's lane to a target; of one that is not there, none
abbrev pub queue_entries : Queue → ℕ → List Entry
queue_entries q target = of_lane (slice_get q.lanes target)
  where
    of_lane : Option (List Entry) → List Entry
    of_lane None = []
    of_lane (Some lane) = lane

-- the entries of a lane; of one that is not there, none
abbrev pub lane_entries : List Posts → LaneId → List Entry
lane_entries posts id = of_queue (lane_queue posts id)
  where
    of_queue : Option Queue → List Entry
    of_queue None = []
    of_queue (Some q) = queue_entries q id.target

-- the same where the lane's queue is not broken; where it is, none
abbrev pub unbroken_entries : List Posts → LaneId → List Entry
unbroken_entries posts id = of_queue (lane_queue posts id)
  where
    of_queue : Option Queue → List Entry
    of_queue None = []
    of_queue (Some q) = if is_none q.broken then queue_entries q id.target else []

-- the enabled transfers of the entries of a lane whose queue is not broken
abbrev pub entries_transfers : Limits → LaneId → List Entry → List Transfer
entries_transfers limits id entries = lane_transfers id.origin id.queue limits (id.target, entries)

-- the enabled transfers of a lane
abbrev pub unbroken_transfers : Limits → List Posts → LaneId → List Transfer
unbroken_transfers limits posts id = entries_transfers limits id (unbroken_entries posts id)

-- the lane to a target by a queue; none where one is over its range
abbrev pub post_lane : ℕ → ℕ → ℕ → Option LaneId
post_lane rank target queue = if nat_lt target 16 && nat_lt queue 8 then Some (lane_id rank queue target) else None

-- the lane to which a call posts
abbrev pub posting_lane : ℕ → Option Posting → Option LaneId
posting_lane rank None = None
posting_lane rank (Some posting) = post_lane rank posting.rank posting.queue

-- the lane to which a call posts; none where it posts nothing
abbrev pub call_lane : ℕ → Call → Option LaneId
call_lane rank call = posting_lane rank (row_of call).posting

-- The lane to which an event may add entries, or from which it may take one: that of a post which is done, and of a put. A
-- purge has none: it takes all entries of its queue's lanes.
abbrev pub event_lane : Event → Option LaneId
event_lane (Called c call reply) = if is_idle reply then None else call_lane c.rank call
event_lane (Joined c id args) = None
event_lane (Take origin queue target number outcome) = None
event_lane (Put origin queue target number outcome) = Some (lane_id origin queue target)

-- the queue whose lanes lose all entries by an event: that of a purge which is done
abbrev pub event_purge : Event → Option ℕ
event_purge (Called c call reply) = if is_idle reply then None else purged_queue call
event_purge transfer = None

-- a lane is of another origin or another queue
abbrev pub is_elsewhere : ℕ → ℕ → LaneId → Bool
is_elsewhere origin queue id = not (id.origin == origin) || not (id.queue == queue)

-- an event is a put
abbrev pub is_put : Event → Bool
is_put (Put origin queue target number outcome) = true
is_put other = false

-- the summary of a lane is right: how many entries are carried, and the least number of a write and of a read
pub record AreLaneCounts (lane : List Entry) (summary : LaneCounts) : Type 0 where
  pub carried : summary.carried ≡ carried_count lane
  pub writes : (n : ℕ) → n < 2 ^ 32 → has_earlier_write lane n ≡ nat_lt summary.first_write n
  pub reads : (n : ℕ) → n < 2 ^ 32 → has_earlier_read lane n ≡ nat_lt summary.first_read n

-- what a search in a list has found at an index (`place`): the item, or how far the index is past the list's end
abbrev pub IsSearchOf : TransferSearch → List Transfer → ℕ → Type 0
IsSearchOf (Found transfer) list place = slice_get list place ≡ Some transfer
IsSearchOf (Left rest) list place = place ≡ length list + rest
