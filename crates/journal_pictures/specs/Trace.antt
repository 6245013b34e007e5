-- The trace of a journal, in the JSON of the Chrome trace event format: an array with an object in each line. A rank is a process there; its
-- threads are those of its callers, and a track for each queue. The place of an event is its time. (own choice)
use Rattle.std.specs.Prelude.{ℕ, ◌+◌, ◌-◌, ◌==◌, List, [], ◌∷◌, ◌++◌, map, replicate, Option, None, Some, if◌then◌else◌, codes, find, slice_get}
use Rattle.std.specs.Fmt.{decimal}
use Rattle.std.specs.List.{flat_map, range_with_len}
use Rattle.std.specs.Str.Lossy.{utf8_lossy}
use Rattle.gaspi_types.specs.World.{ShapeValue}
use Rattle.gaspi_types.specs.declared.calls.Call.{Call}
use Rattle.gaspi_types.specs.declared.calls.Call.TheVariants.{Purge, Reset, Waitsome}
use Rattle.gaspi_types.specs.declared.collectives.Coll.{Coll}
use Rattle.gaspi_types.specs.declared.collectives.Coll.TheVariants.{Barrier, Allreduce, Create, Commit}
use Rattle.gaspi_types.specs.declared.events.Event.{Event}
use Rattle.gaspi_types.specs.declared.events.Event.TheVariants.{Called, Joined, Take, Put}
use Rattle.gaspi_types.specs.declared.events.Outcome.{Outcome}
use Rattle.gaspi_types.specs.declared.events.Outcome.TheVariants.{Applied, Failed}
use Rattle.gaspi_types.specs.declared.replies.Reply.{Reply}
use Rattle.gaspi_types.specs.declared.replies.Reply.TheVariants as replies
use Rattle.gaspi_types.specs.declared.shapes.CallerId.{CallerId}
use Rattle.call_texts.specs.CallText.{Spelled, call_text, end_word, spelled, spelling_of}
use Rattle.gaspi_texts.specs.ReplyText.{reply_text}
use Rattle.serde_json.specs.Data.{Data, Members, string, object, no_members, member}
use Rattle.serde_json.specs.Written.{compact_text}
use Rattle.journal_pictures.specs.Diagram.{entry_word, labelled}
use Rattle.journal_pictures.specs.JsonLines.{lines, whole}
use Rattle.journal_pictures.specs.OpenEntries.{entries_after, in_queue, is_slot, new_entries, put_entry, slots_after}
use Rattle.journal_pictures.specs.declared.deliveries.Delivery.{Delivery}
use Rattle.journal_pictures.specs.declared.deliveries.Delivery.TheVariants.{Bytes, Notification}
use Rattle.journal_pictures.specs.declared.open_entries.OpenEntry.{OpenEntry}
use Rattle.journal_pictures.specs.declared.open_entries.RankEntries.{RankEntries}
use Rattle.journal_pictures.specs.declared.set_slots.SetSlot.{SetSlot}

-- The tracks: their names come first.

-- the track of a queue is behind those of the threads
abbrev pub queue_track : ℕ → ℕ
queue_track queue = 16 + queue

-- the name of a rank, a thread or a queue
abbrev pub named : List ℕ → ℕ → Members
named label n = member (codes "name") (string (labelled label n)) no_members

-- a rank has a name
abbrev pub process_name : ℕ → Members → Data
process_name rank name =
    object (member (codes "args") (object name) (member (codes "name") (string (codes "process_name"))
    (member (codes "ph") (string (codes "M")) (member (codes "pid") (whole rank) no_members))))

-- the name of a rank
abbrev pub rank_name : ℕ → Data
rank_name rank = process_name rank (named (codes "rank ") rank)

-- and so has a track
abbrev pub track_name : ℕ → ℕ → Members → Data
track_name rank track name =
    object (member (codes "args") (object name) (member (codes "name") (string (codes "thread_name"))
    (member (codes "ph") (string (codes "M")) (member (codes "pid") (whole rank) (member (codes "tid") (whole track) no_members)))))

-- the name of the track of a caller
abbrev pub caller_name : CallerId → Data
caller_name c = track_name c.rank c.thread (named (codes "thread ") c.thread)

-- the name of the track of a queue
abbrev pub queue_name : ℕ → ℕ → Data
queue_name rank queue = track_name rank (queue_track queue) (named (codes "queue ") queue)

-- the names of the tracks of a rank's queues
abbrev pub queue_names : ℕ → ℕ → List Data
queue_names queues rank = map (queue_name rank) (range_with_len 0 queues)

-- Slices: of calls, joins, and puts of notifications.

-- a slice on a track, one place long
abbrev pub slice : ℕ → ℕ → ℕ → List ℕ → Members → Data
slice place rank track name arguments =
    object (member (codes "args") (object arguments) (member (codes "dur") (whole 1) (member (codes "name") (string name)
    (member (codes "ph") (string (codes "X")) (member (codes "pid") (whole rank) (member (codes "tid") (whole track) (member (codes "ts") (whole place) no_members)))))))

-- the word of what is spelled; the end of a caller has a word of its own
abbrev pub spelled_word : Option Spelled → List ℕ
spelled_word None = end_word
spelled_word (Some s) = spelling_of s.word

-- the word of a call
abbrev pub call_word : Call → List ℕ
call_word call = spelled_word (spelled call)

-- the characters of a text. (That of a call and that of a reply are ASCII; in another text what is no UTF-8 would be replaced.)
abbrev pub readable : List ℕ → List ℕ
readable text = utf8_lossy text

-- the slice of a call
abbrev pub call_slice : ℕ → CallerId → Call → Reply → Data
call_slice place c call reply =
    slice place c.rank c.thread (call_word call) (member (codes "call") (string (readable (call_text call))) (member (codes "reply") (string (readable (reply_text reply))) no_members))

-- the word of a collective
abbrev pub coll_word : Coll → List ℕ
coll_word Barrier = codes "barrier"
coll_word (Allreduce op num_type count) = codes "allreduce"
coll_word (Create seg size) = codes "create"
coll_word (Commit mask) = codes "commit"

-- the slice of a join
abbrev pub join_slice : ℕ → CallerId → ℕ → Coll → Data
join_slice place c group coll =
    slice place c.rank c.thread (codes "join") (member (codes "collective") (string (coll_word coll)) (member (codes "group") (whole group) no_members))

-- what a notification brings
abbrev pub note_members : ℕ → ℕ → ℕ → Members
note_members segment note value = member (codes "notification") (whole note) (member (codes "segment") (whole segment) (member (codes "value") (whole value) no_members))

-- the slice of the put of a notification; bytes have none
abbrev pub put_slice : ℕ → ℕ → ℕ → Delivery → List Data
put_slice place origin queue (Bytes direction size segment offset) = []
put_slice place origin queue (Notification direction segment note value) =
    slice place origin (queue_track queue) (codes "put") (note_members segment note value) ∷ []

-- Spans of entries: each begins with the call that posts it, and goes over its take to its end.

-- the name of an entry in a trace: its origin and its number
abbrev pub entry_id : ℕ → ℕ → List ℕ
entry_id origin number = decimal origin ++ codes "." ++ decimal number

-- a mark of a span, with the letter of what the mark is
abbrev pub mark : List ℕ → ℕ → ℕ → ℕ → List ℕ → List ℕ → Members → Data
mark letter place origin queue id name arguments =
    object (member (codes "args") (object arguments) (member (codes "cat") (string (codes "entry")) (member (codes "id") (string id)
    (member (codes "name") (string name) (member (codes "ph") (string letter) (member (codes "pid") (whole origin)
    (member (codes "tid") (whole (queue_track queue)) (member (codes "ts") (whole place) no_members))))))))

-- a mark of the span of an entry
abbrev pub span_mark : List ℕ → ℕ → ℕ → ℕ → ℕ → Members → Data
span_mark letter place origin queue number arguments = mark letter place origin queue (entry_id origin number) (labelled (codes "queue ") queue) arguments

-- what an entry is, and what it brings to which target
abbrev pub entry_members : OpenEntry → Members
entry_members x = brings x.delivery
  where
    brings : Delivery → Members
    brings (Bytes direction size segment offset) =
        member (codes "entry") (string (entry_word x.delivery)) (member (codes "number") (whole x.number) (member (codes "offset") (whole offset)
        (member (codes "segment") (whole segment) (member (codes "size") (whole size) (member (codes "target") (whole x.target) no_members)))))
    brings (Notification direction segment note value) =
        member (codes "entry") (string (entry_word x.delivery)) (member (codes "notification") (whole note) (member (codes "number") (whole x.number)
        (member (codes "segment") (whole segment) (member (codes "target") (whole x.target) (member (codes "value") (whole value) no_members)))))

-- an entry begins where it is posted
abbrev pub span_begin : ℕ → ℕ → OpenEntry → Data
span_begin place origin x = span_mark (codes "b") place origin x.queue x.number (entry_members x)

-- its take is applied
abbrev pub span_take : ℕ → ℕ → ℕ → ℕ → Data
span_take place origin queue number = span_mark (codes "n") place origin queue number (member (codes "step") (string (codes "take")) no_members)

-- it ends by its put, or by a transfer that fails, or by a purge of its queue
abbrev pub span_end : List ℕ → ℕ → ℕ → ℕ → ℕ → Data
span_end how place origin queue number = span_mark (codes "e") place origin queue number (member (codes "step") (string how) no_members)

-- the word of a put
abbrev pub put_step : Outcome → List ℕ
put_step Applied = codes "put"
put_step Failed = codes "put failed"

-- the mark of a take: within the span, or its end where the take failed
abbrev pub span_taken : Outcome → ℕ → ℕ → ℕ → ℕ → Data
span_taken Applied place origin queue number = span_take place origin queue number
span_taken Failed place origin queue number = span_end (codes "take failed") place origin queue number

-- the end of the span of a purged entry
abbrev pub purge_end : ℕ → ℕ → OpenEntry → Data
purge_end place origin x = span_end (codes "purge") place origin x.queue x.number

-- the open entries of a rank
abbrev pub open_of : Option RankEntries → List OpenEntry
open_of None = []
open_of (Some r) = r.entries

-- the number of a rank's next entry
abbrev pub next_of : Option RankEntries → ℕ
next_of None = 0
next_of (Some r) = r.next

-- the marks of a call that is done: its entries begin, or those of a purged queue end
abbrev pub call_marks : ℕ → ℕ → Option RankEntries → Call → List Data
call_marks place origin r (Purge call) = map (purge_end place origin) (in_queue call.queue (open_of r))
call_marks place origin r call = map (span_begin place origin) (new_entries (next_of r) call)

-- Arrows: from the put of a notification to the call that gets it.

-- the start of an arrow, at the put that has set a slot
abbrev pub arrow_start : ℕ → SetSlot → Data
arrow_start id s =
    object (member (codes "cat") (string (codes "notification")) (member (codes "id") (whole id) (member (codes "name") (string (codes "notification"))
    (member (codes "ph") (string (codes "s")) (member (codes "pid") (whole s.origin) (member (codes "tid") (whole (queue_track s.queue)) (member (codes "ts") (whole s.place) no_members)))))))

-- the finish of an arrow, at a call
abbrev pub arrow_finish : ℕ → CallerId → Data
arrow_finish id c =
    object (member (codes "bp") (string (codes "e")) (member (codes "cat") (string (codes "notification")) (member (codes "id") (whole id)
    (member (codes "name") (string (codes "notification")) (member (codes "ph") (string (codes "f")) (member (codes "pid") (whole c.rank)
    (member (codes "tid") (whole c.thread) (member (codes "ts") (whole id) no_members))))))))

-- the arrow to the call at a place, which gives the arrow its number
abbrev pub arrow_to : ℕ → CallerId → Option SetSlot → List Data
arrow_to place c None = []
arrow_to place c (Some s) = arrow_start place s ∷ arrow_finish place c ∷ []

-- the slot whose notification a call gets: the one that a waitsome names, and the one that a reset reads, where that was set
abbrev pub got_slot : List SetSlot → CallerId → Call → Reply → Option SetSlot
got_slot slots c (Waitsome call) (replies.Id note) = find (is_slot c.rank call.seg note) slots
got_slot slots c (Reset call) (replies.Value value) = if value == 0 then None else find (is_slot c.rank call.seg call.note) slots
got_slot slots c call reply = None

-- The objects of an event, by what is open before it.

-- the marks of a call with its reply
abbrev pub done_marks : ℕ → ℕ → Option RankEntries → Call → Reply → List Data
done_marks place origin r call replies.Done = call_marks place origin r call
done_marks place origin r call reply = []

-- the slice of a put, where its entry is known
abbrev pub put_marks : ℕ → ℕ → ℕ → Option OpenEntry → List Data
put_marks place origin queue None = []
put_marks place origin queue (Some x) = put_slice place origin queue x.delivery

-- the objects of an event
abbrev pub event_objects : List RankEntries → List SetSlot → ℕ → Event → List Data
event_objects ranks slots place (Called c call reply) =
    call_slice place c call reply ∷ (done_marks place c.rank (slice_get ranks c.rank) call reply ++ arrow_to place c (got_slot slots c call reply))
event_objects ranks slots place (Joined c group args) = join_slice place c group args.coll ∷ []
event_objects ranks slots place (Take origin queue target number outcome) = span_taken outcome place origin queue number ∷ []
event_objects ranks slots place (Put origin queue target number outcome) =
    span_end (put_step outcome) place origin queue number ∷ put_marks place origin queue (put_entry ranks (Put origin queue target number outcome))

-- the objects of all events from a place on
abbrev pub objects_from : List RankEntries → List SetSlot → ℕ → List Event → List Data
objects_from ranks slots place [] = []
objects_from ranks slots place (e ∷ events) =
    event_objects ranks slots place e ++ objects_from (entries_after e ranks) (slots_after (put_entry ranks e) place e slots) (place + 1) events

-- no entry is open at the start
abbrev pub nothing_open : List RankEntries
nothing_open = replicate 16 (record { next = 0; entries = [] })

-- the names of the tracks, and before them of the ranks but the first
abbrev pub names : ShapeValue → List Data
names w =
    map rank_name (range_with_len 1 (w.limits.ranks - 1)) ++ (map caller_name w.callers ++ flat_map (queue_names w.limits.queues) (range_with_len 0 w.limits.ranks))

-- the trace
abbrev pub trace_text : ShapeValue → List Event → List ℕ
trace_text w journal =
    codes "[\n" ++ compact_text (rank_name 0) ++ lines (names w) ++ lines (objects_from nothing_open [] 0 journal) ++ codes "\n]\n"
