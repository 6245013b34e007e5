-- The sequence diagram of a journal, in the text of Mermaid: a participant for each rank, and a line for each event but the takes that
-- are ok. (own choice)
use Rattle.std.specs.Prelude.{ℕ, nat_lt, length, take, List, [], ◌++◌, Option, None, Some, Result, Ok, Err, if◌then◌else◌, slice_get, codes}
use Rattle.std.specs.Fmt.{decimal}
use Rattle.std.specs.List.{flat_map, range_with_len}
use Rattle.std.specs.Option.{option_map}
use Rattle.gaspi_types.specs.World.{ShapeValue}
use Rattle.gaspi_types.specs.declared.calls.Call.{Call}
use Rattle.gaspi_types.specs.declared.entries.Direction.{Direction}
use Rattle.gaspi_types.specs.declared.entries.Direction.TheVariants.{Outward, Inward}
use Rattle.gaspi_types.specs.declared.entries.Entry.{Entry}
use Rattle.gaspi_types.specs.declared.events.Event.{Event}
use Rattle.gaspi_types.specs.declared.events.Event.TheVariants.{Called, Joined, Take, Put}
use Rattle.gaspi_types.specs.declared.events.Outcome.{Outcome}
use Rattle.gaspi_types.specs.declared.events.Outcome.TheVariants.{Applied, Failed}
use Rattle.gaspi_types.specs.declared.replies.Reply.{Reply}
use Rattle.gaspi_types.specs.declared.shapes.CallerId.{CallerId}
use Rattle.call_texts.specs.CallText.{call_text}
use Rattle.gaspi_texts.specs.EventText.{caller_word, event_text}
use Rattle.gaspi_texts.specs.ReplyText.{reply_text}
use Rattle.gaspi_model.specs.Shards.{entry_after}
use Rattle.gaspi_model.specs.Step.{reached}
use Rattle.gaspi_model.specs.declared.states.State.{State}
use Rattle.gaspi_model.specs.declared.states.Why.{Why}
use Rattle.journal_pictures.specs.Deliveries.{delivery_of}
use Rattle.journal_pictures.specs.declared.deliveries.Delivery.{Delivery}
use Rattle.journal_pictures.specs.declared.deliveries.Delivery.TheVariants.{Bytes, Notification}

-- a text, or of one over 60 bytes the first 57 and three dots
abbrev pub shortened : List ℕ → List ℕ
shortened text = if nat_lt 60 (length text) then take 57 text ++ codes "..." else text

-- a number behind a text
abbrev pub labelled : List ℕ → ℕ → List ℕ
labelled label n = label ++ decimal n

-- the line of a rank
abbrev pub participant_line : ℕ → List ℕ
participant_line rank = labelled (codes "    participant R") rank ++ labelled (codes " as rank ") rank ++ codes "\n"

-- the first bytes of a note: over which rank, and the place of its event
abbrev pub note_head : ℕ → ℕ → List ℕ
note_head place rank = labelled (codes "    Note over R") rank ++ labelled (codes ": ") place

-- a note over a rank, of the event at a place
abbrev pub note_line : ℕ → ℕ → List ℕ → List ℕ
note_line place rank text = note_head place rank ++ codes " " ++ text ++ codes "\n"

-- a call with its reply
abbrev pub called_text : CallerId → Call → Reply → List ℕ
called_text c call reply = codes "called " ++ caller_word c ++ codes " " ++ shortened (call_text call) ++ codes " -> " ++ shortened (reply_text reply)

-- what an entry is called
abbrev pub entry_word : Delivery → List ℕ
entry_word (Bytes Outward size segment offset) = codes "write"
entry_word (Bytes Inward size segment offset) = codes "read"
entry_word (Notification Outward segment note value) = codes "notify"
entry_word (Notification Inward segment note value) = codes "read_notify"

-- whether the transfer failed
abbrev pub failed_word : Outcome → List ℕ
failed_word Applied = codes ": "
failed_word Failed = codes " failed: "

-- bytes, by their number, segment and offset
abbrev pub bytes_text : ℕ → ℕ → ℕ → List ℕ
bytes_text size segment offset = labelled (codes "size ") size ++ labelled (codes ", segment ") segment ++ labelled (codes ", offset ") offset

-- a notification, by its id, value and segment
abbrev pub notification_text : ℕ → ℕ → ℕ → List ℕ
notification_text segment note value = labelled (codes "id ") note ++ labelled (codes ", value ") value ++ labelled (codes ", segment ") segment

-- what an entry brings
abbrev pub delivery_text : Delivery → List ℕ
delivery_text (Bytes direction size segment offset) = bytes_text size segment offset
delivery_text (Notification direction segment note value) = notification_text segment note value

-- whether a delivery is outward or inward
abbrev pub way_of : Delivery → Direction
way_of (Bytes direction size segment offset) = direction
way_of (Notification direction segment note value) = direction

-- the rank from which a delivery comes
abbrev pub sender : Direction → ℕ → ℕ → ℕ
sender Outward origin target = origin
sender Inward origin target = target

-- the rank to which a delivery comes
abbrev pub receiver : Direction → ℕ → ℕ → ℕ
receiver Outward origin target = target
receiver Inward origin target = origin

-- an arrow, and one with a cross where the transfer failed
abbrev pub arrow : Outcome → List ℕ
arrow Applied = codes "->>R"
arrow Failed = codes "--xR"

-- the first bytes of an arrow: from which rank to which
abbrev pub arrow_head : ℕ → ℕ → Outcome → List ℕ
arrow_head from to outcome = labelled (codes "    R") from ++ labelled (arrow outcome) to ++ codes ": "

-- what an entry is called, and whether its transfer failed
abbrev pub entry_text : Outcome → Delivery → List ℕ
entry_text outcome d = entry_word d ++ failed_word outcome

-- the arrow of a transfer, with the queue of its entry
abbrev pub arrow_line : ℕ → ℕ → ℕ → ℕ → Outcome → Delivery → List ℕ
arrow_line place origin queue target outcome d =
    arrow_head (sender (way_of d) origin target) (receiver (way_of d) origin target) outcome
    ++ decimal place ++ codes " " ++ entry_text outcome d ++ delivery_text d ++ labelled (codes ", queue ") queue ++ codes "\n"

-- the arrow of a transfer, where it is known what its entry brings
abbrev pub transfer_line : ℕ → ℕ → ℕ → ℕ → Outcome → Option Delivery → List ℕ
transfer_line place origin queue target outcome None = []
transfer_line place origin queue target outcome (Some d) = arrow_line place origin queue target outcome d

-- the line of the event at a place, where its entry brings that: none of a take that is ok
abbrev pub event_line : ℕ → Event → Option Delivery → List ℕ
event_line place (Called c call reply) d = note_line place c.rank (called_text c call reply)
event_line place (Joined c id args) d = note_line place c.rank (shortened (event_text (Joined c id args)))
event_line place (Take origin queue target number Applied) d = []
event_line place (Take origin queue target number Failed) d = transfer_line place origin queue target Failed d
event_line place (Put origin queue target number outcome) d = transfer_line place origin queue target outcome d

-- what an entry brings, where there is one
abbrev pub entry_brings : Option Entry → Option Delivery
entry_brings e = option_map (λ x. delivery_of x.kind) e

-- what the entry of a transfer brings, by the state
abbrev pub brought : State → Event → Option Delivery
brought s (Take origin queue target number outcome) = entry_brings (entry_after s origin queue target number)
brought s (Put origin queue target number outcome) = entry_brings (entry_after s origin queue target number)
brought s e = None

-- the line of an event, by the state before it
abbrev pub line_before : ℕ → Option Event → Result State Why → List ℕ
line_before place None r = []
line_before place (Some e) (Err why) = []
line_before place (Some e) (Ok s) = event_line place e (brought s e)

-- the line of the event at a place
abbrev pub line_at : ShapeValue → List Event → ℕ → List ℕ
line_at w journal place = line_before place (slice_get journal place) (reached w (take place journal))

-- the diagram
abbrev pub sequence_text : ShapeValue → List Event → List ℕ
sequence_text w journal =
    codes "sequenceDiagram\n" ++ flat_map participant_line (range_with_len 0 w.limits.ranks) ++ flat_map (line_at w journal) (range_with_len 0 (length journal))
