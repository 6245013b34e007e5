-- What a trace keeps of a history: the open entries of each rank, and the notification slots that a put has set and no reset
-- has read since. An entry is open from its post to its put, its failure, or the purge of its queue. (GASPI: one-sided
-- communication, notifications)
use Rattle.std.specs.Prelude.{ℕ, ◌+◌, ◌==◌, Bool, not, ◌&&◌, List, [], ◌∷◌, ◌++◌, Option, None, Some, filter, find, slice_get, nat_lt, if◌then◌else◌}
use Rattle.gaspi_types.specs.CallRows.{row_of, entries_of}
use Rattle.gaspi_types.specs.Tables.{changed_at}
use Rattle.gaspi_types.specs.declared.call_rows.Posting.{Posting}
use Rattle.gaspi_types.specs.declared.calls.Call.{Call}
use Rattle.gaspi_types.specs.declared.calls.Call.TheVariants.{Purge, Reset}
use Rattle.gaspi_types.specs.declared.events.Event.{Event}
use Rattle.gaspi_types.specs.declared.events.Event.TheVariants.{Called, Take, Put}
use Rattle.gaspi_types.specs.declared.events.Outcome.TheVariants.{Applied, Failed}
use Rattle.gaspi_types.specs.declared.replies.Reply.TheVariants as replies
use Rattle.gaspi_model.specs.Step.{owner_of}
use Rattle.journal_pictures.specs.Deliveries.{deliveries_of}
use Rattle.journal_pictures.specs.Diagram.{receiver}
use Rattle.journal_pictures.specs.declared.deliveries.Delivery.{Delivery}
use Rattle.journal_pictures.specs.declared.deliveries.Delivery.TheVariants.{Notification}
use Rattle.journal_pictures.specs.declared.open_entries.OpenEntry.{OpenEntry}
use Rattle.journal_pictures.specs.declared.open_entries.RankEntries.{RankEntries}
use Rattle.journal_pictures.specs.declared.set_slots.SetSlot.{SetSlot}

-- The entries of a rank.

-- entries of a queue and a target with these deliveries, with numbers one after another
abbrev pub numbered : ℕ → ℕ → ℕ → List Delivery → List OpenEntry
numbered queue target n [] = []
numbered queue target n (d ∷ ds) = record { queue = queue; target = target; number = n; delivery = d } ∷ numbered queue target (n + 1) ds

-- the entries of a post with these deliveries; none where the queue is over 7
abbrev pub entries_to : Option Posting → ℕ → List Delivery → List OpenEntry
entries_to None next ds = []
entries_to (Some to) next ds = if nat_lt to.queue 8 then numbered to.queue to.rank next ds else []

-- the entries that a call posts, from the rank's next number on
abbrev pub new_entries : ℕ → Call → List OpenEntry
new_entries next call = entries_to (row_of call).posting next (deliveries_of call)

-- whether an entry is of that queue
abbrev pub is_in_queue : ℕ → OpenEntry → Bool
is_in_queue queue x = x.queue == queue

-- whether an entry has that number
abbrev pub is_numbered : ℕ → OpenEntry → Bool
is_numbered number x = x.number == number

-- those of a queue, which its purge ends
abbrev pub in_queue : ℕ → List OpenEntry → List OpenEntry
in_queue queue entries = filter (is_in_queue queue) entries

-- those of all other queues
abbrev pub not_in_queue : ℕ → List OpenEntry → List OpenEntry
not_in_queue queue entries = filter (λ x. not (is_in_queue queue x)) entries

-- those without the entry of that number
abbrev pub without_number : ℕ → List OpenEntry → List OpenEntry
without_number number entries = filter (λ x. not (is_numbered number x)) entries

-- after a call that is done
abbrev pub after_call : Call → RankEntries → RankEntries
after_call (Purge call) r = record r { entries = not_in_queue call.queue r.entries }
after_call call r = record { next = r.next + entries_of call; entries = r.entries ++ new_entries r.next call }

-- after an event of the rank: a put ends its entry, also where it fails, and so does a take that fails
abbrev pub rank_after : Event → RankEntries → RankEntries
rank_after (Called c call replies.Done) r = after_call call r
rank_after (Take origin queue target number Failed) r = record r { entries = without_number number r.entries }
rank_after (Put origin queue target number outcome) r = record r { entries = without_number number r.entries }
rank_after e r = r

-- and of all ranks
abbrev pub entries_after : Event → List RankEntries → List RankEntries
entries_after e ranks = changed_at ranks (owner_of e) (rank_after e)

-- the entry of a rank with that number
abbrev pub entry_of : Option RankEntries → ℕ → Option OpenEntry
entry_of None number = None
entry_of (Some r) number = find (is_numbered number) r.entries

-- the entry that a put puts
abbrev pub put_entry : List RankEntries → Event → Option OpenEntry
put_entry ranks (Put origin queue target number Applied) = entry_of (slice_get ranks origin) number
put_entry ranks e = None

-- The slots.

-- whether a slot is that of a rank, segment and notification id
abbrev pub is_slot : ℕ → ℕ → ℕ → SetSlot → Bool
is_slot rank segment note s = (s.rank == rank) && ((s.segment == segment) && (s.note == note))

-- the set slots without that one
abbrev pub without_slot : ℕ → ℕ → ℕ → List SetSlot → List SetSlot
without_slot rank segment note slots = filter (λ s. not (is_slot rank segment note s)) slots

-- a slot that is set by a put at a place
abbrev pub with_slot : SetSlot → List SetSlot → List SetSlot
with_slot s slots = without_slot s.rank s.segment s.note slots ++ s ∷ []

-- after a put at a place, of that open entry
abbrev pub slots_put : ℕ → ℕ → ℕ → ℕ → Option OpenEntry → List SetSlot → List SetSlot
slots_put place origin queue target None slots = slots
slots_put place origin queue target (Some x) slots = brings x.delivery
  where
    brings : Delivery → List SetSlot
    brings (Notification direction segment note value) =
        with_slot (record { rank = receiver direction origin target; segment = segment; note = note; origin = origin; queue = queue; place = place }) slots
    brings other = slots

-- after an event, the put of that open entry: a put of a notification sets its slot, and a reset of a slot reads it
abbrev pub slots_after : Option OpenEntry → ℕ → Event → List SetSlot → List SetSlot
slots_after x place (Put origin queue target number Applied) slots = slots_put place origin queue target x slots
slots_after x place (Called c (Reset call) (replies.Value value)) slots = without_slot c.rank call.seg call.note slots
slots_after x place e slots = slots
