-- What a post asks for: the kinds of its entries, or its first refusal up to that of the notification value. A single post is
-- checked as a list post of one item. (GASPI: one-sided communication)
use Rattle.std.specs.Prelude.{ℕ, Bool, true, false, not, ◌==◌, ◌&&◌, nat_lt, nat_le, List, [], ◌∷◌, ◌++◌, length, Result, Ok}
use Rattle.gaspi_types.specs.Checks.{◌>>=◌, check, ok_or, check_each}
use Rattle.gaspi_types.specs.SegmentBytes.{is_transfer_size, is_within}
use Rattle.gaspi_types.specs.SegmentTables.{extent_in, known_extent}
use Rattle.gaspi_types.specs.declared.calls.posts.Item.{Item}
use Rattle.gaspi_types.specs.declared.calls.posts.Write as write
use Rattle.gaspi_types.specs.declared.calls.posts.Read as read
use Rattle.gaspi_types.specs.declared.calls.posts.Notify as notify
use Rattle.gaspi_types.specs.declared.calls.posts.WriteNotify as write_notify
use Rattle.gaspi_types.specs.declared.calls.posts.ReadNotify as read_notify
use Rattle.gaspi_types.specs.declared.calls.posts.WriteList as write_list
use Rattle.gaspi_types.specs.declared.calls.posts.WriteListNotify as write_list_notify
use Rattle.gaspi_types.specs.declared.calls.posts.ReadList as read_list
use Rattle.gaspi_types.specs.declared.calls.posts.ReadListNotify as read_list_notify
use Rattle.gaspi_types.specs.declared.calls.Call.{Call}
use Rattle.gaspi_types.specs.declared.calls.Call.TheVariants as calls
use Rattle.gaspi_types.specs.declared.segments.Extent.{Extent}
use Rattle.gaspi_types.specs.declared.segments.SegmentTable.{SegmentTable}
use Rattle.gaspi_types.specs.declared.entries.ByteRange.{ByteRange}
use Rattle.gaspi_types.specs.declared.entries.Endpoints.{Endpoints}
use Rattle.gaspi_types.specs.declared.entries.NoteSlot.{NoteSlot}
use Rattle.gaspi_types.specs.declared.entries.Direction.{Direction}
use Rattle.gaspi_types.specs.declared.entries.Direction.TheVariants.{Outward, Inward}
use Rattle.gaspi_types.specs.declared.entries.Kind.{Kind}
use Rattle.gaspi_types.specs.declared.entries.Kind.TheVariants.{Write, Read, Notify, ReadNote}
use Rattle.gaspi_types.specs.declared.replies.Refusal.{Refusal}
use Rattle.gaspi_types.specs.declared.replies.Refusal.TheVariants.{NoSegment, Unregistered, BadRange, BadSize, BadNote, ZeroValue, BadCount}

-- a range of a segment of this extent
abbrev pub range_in : Extent → ℕ → ℕ → ℕ → ByteRange
range_in extent segment offset size = record { segment = segment; generation = extent.generation; offset = offset; size = size }

-- a slot of a segment of this extent
abbrev pub slot_in : Extent → ℕ → ℕ → NoteSlot
slot_in extent segment note = record { segment = segment; generation = extent.generation; note = note }

-- own choice: how many items a list may have
abbrev pub is_list_length : ℕ → Bool
is_list_length items = nat_le 1 items && nat_le items 256

-- the ranges of a `write`
abbrev pub write_item : write.Write → Item
write_item call = record { seg = call.seg; offset = call.offset; rseg = call.rseg; roffset = call.roffset; size = call.size }

-- the ranges of a `read`
abbrev pub read_item : read.Read → Item
read_item call = record { seg = call.seg; offset = call.offset; rseg = call.rseg; roffset = call.roffset; size = call.size }

-- the ranges of a `write_notify`
abbrev pub write_notify_item : write_notify.WriteNotify → Item
write_notify_item call = record { seg = call.seg; offset = call.offset; rseg = call.rseg; roffset = call.roffset; size = call.size }

-- the ranges of a `read_notify`
abbrev pub read_notify_item : read_notify.ReadNotify → Item
read_notify_item call = record { seg = call.seg; offset = call.offset; rseg = call.rseg; roffset = call.roffset; size = call.size }

-- the segments of an item: the own one is there, and that of the rank is known
abbrev pub has_segments : ℕ → SegmentTable → ℕ → Item → Result (Unit {0}) Refusal
has_segments me table rank item = do
  mine ← ok_or (extent_in table.own item.seg) NoSegment
  theirs ← ok_or (known_extent me table rank item.rseg) Unregistered
  Ok tt

-- the size of an item
abbrev pub has_size : Item → Result (Unit {0}) Refusal
has_size item = check (is_transfer_size item.size) BadSize

-- What a post finds for one write or read with a rank, or its first refusal. The refusals come in the order of all calls:
-- segments, sizes, ranges.
abbrev pub endpoints_of : ℕ → SegmentTable → ℕ → Item → Result Endpoints Refusal
endpoints_of me table rank item = do
  mine ← ok_or (extent_in table.own item.seg) NoSegment
  theirs ← ok_or (known_extent me table rank item.rseg) Unregistered
  sized ← check (is_transfer_size item.size) BadSize
  from ← check (is_within item.offset item.size mine.size) (BadRange mine.size)
  to ← check (is_within item.roffset item.size theirs.size) (BadRange theirs.size)
  Ok (record {
    mine = mine;
    theirs = theirs;
    own = range_in mine item.seg item.offset item.size;
    target = range_in theirs item.rseg item.roffset item.size;
  })

-- the kind of an entry with these ranges
abbrev pub transfer_kind : Direction → Endpoints → Kind
transfer_kind Outward ends = Write ends.own ends.target
transfer_kind Inward ends = Read ends.own ends.target

-- the kinds of the writes or reads of all items, in order
abbrev pub transfers_of : Direction → ℕ → SegmentTable → ℕ → List Item → Result (List Kind) Refusal
transfers_of direction me table rank [] = Ok []
transfers_of direction me table rank (item ∷ items) = do
  ends ← endpoints_of me table rank item
  kinds ← transfers_of direction me table rank items
  Ok (transfer_kind direction ends ∷ kinds)

-- The writes or reads of a post, with what `beside` finds, which is checked behind the segments of the items. Own choice: each
-- kind of check goes through all items before the next one.
abbrev pub checked_transfers : {A : Type 0} → Direction → ℕ → SegmentTable → ℕ → List Item → Result A Refusal → Result (A × List Kind) Refusal
checked_transfers direction me table rank items beside = do
  there ← check_each (has_segments me table rank) items
  known ← beside
  sized ← check_each has_size items
  kinds ← transfers_of direction me table rank items
  Ok (known, kinds)

-- nothing else is checked
abbrev pub no_further_check : Result (Unit {0}) Refusal
no_further_check = Ok tt

-- writes or reads, without a notification
abbrev pub transfers_alone : Direction → ℕ → SegmentTable → ℕ → List Item → Result (List Kind) Refusal
transfers_alone direction me table rank items = do
  checked ← checked_transfers direction me table rank items no_further_check
  Ok checked.1

-- writes, and behind them a notification, whose segment is known: what the writes are refused for comes before its slot and
-- its value
abbrev pub writes_with_notification : ℕ → ℕ → SegmentTable → ℕ → List Item → ℕ → ℕ → ℕ → Result (List Kind) Refusal
writes_with_notification notes me table rank items segment note value = do
  checked ← checked_transfers Outward me table rank items (ok_or (known_extent me table rank segment) Unregistered)
  noted ← check (nat_lt note notes) BadNote
  valued ← check (not (value == 0)) ZeroValue
  Ok (checked.1 ++ Notify (slot_in checked.0 segment note) value ∷ [])

-- reads, and behind them a notification of a slot of an own segment
abbrev pub reads_with_notification : ℕ → ℕ → SegmentTable → ℕ → List Item → ℕ → ℕ → Result (List Kind) Refusal
reads_with_notification notes me table rank items segment note = do
  checked ← checked_transfers Inward me table rank items (ok_or (extent_in table.own segment) NoSegment)
  noted ← check (nat_lt note notes) BadNote
  Ok (checked.1 ++ ReadNote (slot_in checked.0 segment note) ∷ [])

-- what a list post asks for: its length is checked first
abbrev pub listed : List Item → Result (List Kind) Refusal → Result (List Kind) Refusal
listed items asked = do
  counted ← check (is_list_length (length items)) BadCount
  asked

-- (write)
abbrev pub write_kinds : ℕ → SegmentTable → write.Write → Result (List Kind) Refusal
write_kinds me table call = transfers_alone Outward me table call.rank (write_item call ∷ [])

-- (read)
abbrev pub read_kinds : ℕ → SegmentTable → read.Read → Result (List Kind) Refusal
read_kinds me table call = transfers_alone Inward me table call.rank (read_item call ∷ [])

-- (notify)
abbrev pub notify_kinds : ℕ → ℕ → SegmentTable → notify.Notify → Result (List Kind) Refusal
notify_kinds notes me table call = writes_with_notification notes me table call.rank [] call.rseg call.note call.value

-- (write_notify)
abbrev pub write_notify_kinds : ℕ → ℕ → SegmentTable → write_notify.WriteNotify → Result (List Kind) Refusal
write_notify_kinds notes me table call = writes_with_notification notes me table call.rank (write_notify_item call ∷ []) call.rseg call.note call.value

-- (read_notify)
abbrev pub read_notify_kinds : ℕ → ℕ → SegmentTable → read_notify.ReadNotify → Result (List Kind) Refusal
read_notify_kinds notes me table call = reads_with_notification notes me table call.rank (read_notify_item call ∷ []) call.seg call.note

-- (write_list)
abbrev pub write_list_kinds : ℕ → SegmentTable → write_list.WriteList → Result (List Kind) Refusal
write_list_kinds me table call = listed call.items (transfers_alone Outward me table call.rank call.items)

-- (read_list)
abbrev pub read_list_kinds : ℕ → SegmentTable → read_list.ReadList → Result (List Kind) Refusal
read_list_kinds me table call = listed call.items (transfers_alone Inward me table call.rank call.items)

-- (write_list_notify)
abbrev pub write_list_notify_kinds : ℕ → ℕ → SegmentTable → write_list_notify.WriteListNotify → Result (List Kind) Refusal
write_list_notify_kinds notes me table call = listed call.items (writes_with_notification notes me table call.rank call.items call.nseg call.note call.value)

-- (read_list_notify)
abbrev pub read_list_notify_kinds : ℕ → ℕ → SegmentTable → read_list_notify.ReadListNotify → Result (List Kind) Refusal
read_list_notify_kinds notes me table call = listed call.items (reads_with_notification notes me table call.rank call.items call.nseg call.note)

-- whether a call is a list post
abbrev pub is_list_post : Call → Bool
is_list_post (calls.WriteList call) = true
is_list_post (calls.WriteListNotify call) = true
is_list_post (calls.ReadList call) = true
is_list_post (calls.ReadListNotify call) = true
is_list_post call = false

-- the kinds of the entries of a call, where a segment has `notes` notification slots; a call that is no post has none
abbrev pub call_kinds : ℕ → ℕ → SegmentTable → Call → Result (List Kind) Refusal
call_kinds notes me table (calls.Write call) = write_kinds me table call
call_kinds notes me table (calls.Read call) = read_kinds me table call
call_kinds notes me table (calls.Notify call) = notify_kinds notes me table call
call_kinds notes me table (calls.WriteNotify call) = write_notify_kinds notes me table call
call_kinds notes me table (calls.ReadNotify call) = read_notify_kinds notes me table call
call_kinds notes me table (calls.WriteList call) = write_list_kinds me table call
call_kinds notes me table (calls.WriteListNotify call) = write_list_notify_kinds notes me table call
call_kinds notes me table (calls.ReadList call) = read_list_kinds me table call
call_kinds notes me table (calls.ReadListNotify call) = read_list_notify_kinds notes me table call
call_kinds notes me table call = Ok []
