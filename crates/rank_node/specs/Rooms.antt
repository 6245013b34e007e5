-- The memory that is reserved for a call before its record. *Fits* is said of a room that a reply needs.
use Rattle.std.specs.Prelude.{◌≡◌, ℕ, ◌≤◌, List, [], length, Option, None, Some, Result, Ok}
use Rattle.gaspi_types.specs.CallRows.{row_of}
use Rattle.gaspi_types.specs.SegmentTables.{alloc_checks, own_range_checks}
use Rattle.gaspi_types.specs.declared.call_rows.CallRow.{CallRow}
use Rattle.gaspi_types.specs.declared.call_rows.Posting.{Posting}
use Rattle.gaspi_types.specs.declared.calls.Call.{Call}
use Rattle.gaspi_types.specs.declared.calls.Call.TheVariants.{Alloc, Create, Load}
use Rattle.gaspi_types.specs.declared.entries.Kind.{Kind}
use Rattle.gaspi_types.specs.declared.replies.Ready.{Ready}
use Rattle.gaspi_types.specs.declared.replies.Ready.TheVariants as ready
use Rattle.gaspi_types.specs.declared.replies.Refusal.{Refusal}
use Rattle.gaspi_types.specs.declared.replies.Reply.{Reply}
use Rattle.gaspi_types.specs.declared.replies.Reply.TheVariants as replies
use Rattle.gaspi_model.specs.Calls.{requested_kinds}
use Rattle.gaspi_model.specs.PassiveCalls.{sent_message}
use Rattle.rank_node.specs.Numbers.{capacities_for, ReplyFits}
use Rattle.rank_node.specs.Making.{made_segment}
use Rattle.rank_node.specs.Values.{PostsValue, MemoryValue}
use Rattle.rank_node.specs.declared.making.MadeSegment.{MadeSegment}
use Rattle.rank_node.specs.declared.rooms.Room.{Room}

-- the room of a call with this row, in which nothing is reserved yet
abbrev pub empty_room : CallRow → Room
empty_room row = record { row = row; entries = None; made = None; message = None; bytes = []; numbers = record { values = 0; event = 0; caller = 0 } }

-- of a call that posts, the entries that it asks for
abbrev pub HasEntries : Option Posting → Result (List Kind) Refusal → Option (List Kind) → Type 0
HasEntries None asked entries = Unit {0}
HasEntries (Some to) asked entries = (kinds : List Kind) → asked ≡ Ok kinds → entries ≡ Some kinds

-- of an alloc or a create that is not refused for its segment, the made segment
abbrev pub HasMade : PostsValue → Call → Option MadeSegment → Type 0
HasMade p (Alloc call) made = alloc_checks p.posts.segments.own call.seg call.size ≡ Ok tt → made ≡ Some (made_segment p.limits p.posts call.seg call.size)
HasMade p (Create call) made = alloc_checks p.posts.segments.own call.seg call.size ≡ Ok tt → made ≡ Some (made_segment p.limits p.posts call.seg call.size)
HasMade p call made = Unit {0}

-- of a load that is not refused, as many bytes as it reads
abbrev pub HasBytes : PostsValue → Call → List ℕ → Type 0
HasBytes p (Load call) bytes = own_range_checks p.posts.segments.own call.seg call.offset call.size ≡ Ok tt → length bytes ≡ call.size
HasBytes p call bytes = Unit {0}

-- the room has the row of the call, and all that its record may need
pub record IsReservedForRecord (p : PostsValue) (own : MemoryValue) (call : Call) (room : Room) : Type 0 where
  pub row : room.row ≡ row_of call
  pub entries : HasEntries (row_of call).posting (requested_kinds p.limits p.me p.posts call) room.entries
  pub made : HasMade p call room.made
  pub message : room.message ≡ sent_message p.me own.memory call

-- the room also has all that a second reply may need
pub record IsReservedFor (p : PostsValue) (own : MemoryValue) (call : Call) (room : Room) : Type 0 where
  pub recording : IsReservedForRecord p own call room
  pub bytes : HasBytes p call room.bytes
  pub numbers : room.numbers ≡ capacities_for call

-- the lists of the room are all the memory that an equal reply takes
abbrev pub ReplyFitsReserved : Reply → Room → Type 0
ReplyFitsReserved (replies.Bytes bytes) room = length bytes ≤ length room.bytes
ReplyFitsReserved reply room = ReplyFits reply room.numbers.caller

-- an answer fits the room: a reply may be copied once, and the values of a join have a list
abbrev pub FitsReserved : Ready → Room → Type 0
FitsReserved (ready.Reply reply) room = ReplyFitsReserved reply room
FitsReserved (ready.Join args) room = length args.values.items ≤ room.numbers.values
FitsReserved ready.NotReady room = Unit {0}
