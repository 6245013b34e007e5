-- The row of each call: what every call has. What is said of every call is said of its row.
use Rattle.std.specs.Prelude.{ℕ, ◌+◌, ◌*◌, Bool, true, false, not, ◌&&◌, length, Option, None, Some, is_some, if◌then◌else◌}
use Rattle.gaspi_types.specs.Posts.{is_list_length}
use Rattle.gaspi_types.specs.declared.calls.Call.{Call}
use Rattle.gaspi_types.specs.declared.calls.Call.TheVariants.{Alloc, Register, Delete, Store, Load, Write, Read, Notify, WriteNotify, ReadNotify, WriteList, WriteListNotify, ReadList, ReadListNotify, Wait, Purge, Qsize, Waitsome, Reset, PassiveSend, PassiveReceive, FetchAdd, CompareSwap, GroupCreate, GroupAdd, GroupDelete, Commit, Barrier, Allreduce, Create, State, End}
use Rattle.gaspi_types.specs.declared.call_rows.Posting.{Posting}
use Rattle.gaspi_types.specs.declared.call_rows.CallRow.{CallRow}
use Rattle.gaspi_types.specs.declared.footprints.DeclaredFootprint.{DeclaredFootprint}
use Rattle.gaspi_types.specs.declared.footprints.DeclaredFootprint.TheVariants.{Nothing, OwnMemory, MemoryOf, BothMemories, PostsOf, GroupOf, GroupAndMemory}

-- the row of a call with this footprint that is no post, no collective and no end, and takes neither a timeout nor memory
abbrev pub row_with_footprint : DeclaredFootprint → CallRow
row_with_footprint declaration = record { footprint = declaration; posting = None; group = None; times_out = false; takes_memory = false; ends = false }

-- the row of a post of `entries` entries to the lane of a rank and a queue, which takes no memory
abbrev pub row_posting : ℕ → ℕ → ℕ → CallRow
row_posting entries rank queue = record (row_with_footprint Nothing) { posting = Some (record { entries = entries; rank = rank; queue = queue }) }

-- the same row, of a call that may take memory
abbrev pub with_memory : CallRow → CallRow
with_memory row = record row { takes_memory = true }

-- the same row, of a call that takes a timeout
abbrev pub with_timeout : CallRow → CallRow
with_timeout row = record row { times_out = true }

-- the row of a collective of a group, with this footprint; a collective takes a timeout
abbrev pub row_joining : ℕ → DeclaredFootprint → CallRow
row_joining group declaration = record (with_timeout (row_with_footprint declaration)) { group = Some group }

-- How many entries a list post asks for: one for each of its items, and `more` for a notification. Own choice: one whose length
-- is outside its limits asks for none.
abbrev pub list_entries : ℕ → ℕ → ℕ
list_entries items more = if is_list_length items then items + more else 0

-- the row of each call
abbrev pub row_of : Call → CallRow
row_of (Alloc call) = with_memory (row_with_footprint OwnMemory)
row_of (Register call) = row_with_footprint (PostsOf call.rank)
row_of (Delete call) = row_with_footprint OwnMemory
row_of (Store call) = with_memory (row_with_footprint OwnMemory)
row_of (Load call) = with_memory (row_with_footprint OwnMemory)
row_of (Write call) = with_memory (row_posting 1 call.rank call.queue)
row_of (Read call) = with_memory (row_posting 1 call.rank call.queue)
row_of (Notify call) = row_posting 1 call.rank call.queue
row_of (WriteNotify call) = with_memory (row_posting 2 call.rank call.queue)
row_of (ReadNotify call) = with_memory (row_posting 2 call.rank call.queue)
row_of (WriteList call) = with_memory (row_posting (list_entries (length call.items) 0) call.rank call.queue)
row_of (WriteListNotify call) = with_memory (row_posting (list_entries (length call.items) 1) call.rank call.queue)
row_of (ReadList call) = with_memory (row_posting (list_entries (length call.items) 0) call.rank call.queue)
row_of (ReadListNotify call) = with_memory (row_posting (list_entries (length call.items) 1) call.rank call.queue)
row_of (Wait call) = with_timeout (row_with_footprint Nothing)
row_of (Purge call) = row_with_footprint Nothing
row_of (Qsize call) = row_with_footprint Nothing
row_of (Waitsome call) = with_timeout (row_with_footprint OwnMemory)
row_of (Reset call) = row_with_footprint OwnMemory
row_of (PassiveSend call) = with_timeout (with_memory (row_with_footprint (BothMemories call.rank)))
row_of (PassiveReceive call) = with_timeout (row_with_footprint OwnMemory)
row_of (FetchAdd call) = row_with_footprint (MemoryOf call.rank)
row_of (CompareSwap call) = row_with_footprint (MemoryOf call.rank)
row_of GroupCreate = row_with_footprint Nothing
row_of (GroupAdd call) = row_with_footprint Nothing
row_of (GroupDelete call) = row_with_footprint Nothing
row_of (Commit call) = row_joining call.group (GroupOf call.group)
row_of (Barrier call) = row_joining call.group (GroupOf call.group)
row_of (Allreduce call) = with_memory (row_joining call.group (GroupOf call.group))
row_of (Create call) = with_memory (row_joining call.group (GroupAndMemory call.group))
row_of State = row_with_footprint Nothing
row_of End = record (row_with_footprint Nothing) { ends = true }

-- how many entries a row has a call append
abbrev pub entries_in : Option Posting → ℕ
entries_in None = 0
entries_in (Some posting) = posting.entries

-- how many entries a call appends
abbrev pub entries_of : Call → ℕ
entries_of call = entries_in (row_of call).posting

-- whether a call appends entries
abbrev pub is_post : Call → Bool
is_post call = is_some (row_of call).posting

-- whether a call is the end of its caller
abbrev pub is_end : Call → Bool
is_end call = (row_of call).ends

-- whether a call is a collective
abbrev pub is_collective : Call → Bool
is_collective call = is_some (row_of call).group

-- Own choice: the need of a call of that row, the events for which its rank must have room: itself, the two transfers of each
-- of its entries, and its join, where it is a collective and none is pending for its caller on that group. The end of an active
-- caller needs none, since its room was kept from the start.
abbrev pub need_in : CallRow → Bool → Bool → ℕ
need_in row pending ended =
    if row.ends && not ended then 0 else (if is_some row.group && not pending then 2 else 1 + 2 * entries_in row.posting)

-- the need of a call: `pending` is whether it is a collective that is pending for its caller, `ended` whether its caller has
-- ended
abbrev pub need_of : Call → Bool → Bool → ℕ
need_of call pending ended = need_in (row_of call) pending ended
