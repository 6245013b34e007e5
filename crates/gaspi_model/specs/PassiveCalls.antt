-- The calls of passive communication: the result and the effect of each. A send changes the memory of the rank that it names,
-- and reads its own. (GASPI: passive communication)
use Rattle.std.specs.Prelude.{ℕ, nat_lt, List, [], ◌∷◌, Option, None, Some, Result, Ok, if◌then◌else◌}
use Rattle.std.specs.Option.{option_map}
use Rattle.gaspi_types.specs.Checks.{◌>>=◌, check}
use Rattle.gaspi_types.specs.Inboxes.{passive_checks, has_room, deposited, first_within}
use Rattle.gaspi_types.specs.SegmentBytes.{range_of, with_range}
use Rattle.gaspi_types.specs.declared.calls.Call.{Call}
use Rattle.gaspi_types.specs.declared.calls.Call.TheVariants.{PassiveSend}
use Rattle.gaspi_types.specs.declared.calls.passive.PassiveSend as send
use Rattle.gaspi_types.specs.declared.calls.passive.PassiveReceive as receive
use Rattle.gaspi_types.specs.declared.inboxes.Message.{Message}
use Rattle.gaspi_types.specs.declared.shapes.Limits.{Limits}
use Rattle.gaspi_types.specs.declared.replies.Refusal.{Refusal}
use Rattle.gaspi_types.specs.declared.replies.Refusal.TheVariants.{BadRank}
use Rattle.gaspi_types.specs.declared.replies.Reply.{Reply}
use Rattle.gaspi_types.specs.declared.replies.Reply.TheVariants as replies
use Rattle.gaspi_model.specs.Memories.{bytes_of, with_bytes}
use Rattle.gaspi_model.specs.declared.states.Posts.{Posts}
use Rattle.gaspi_model.specs.declared.states.Memory.{Memory}

-- ready where the inbox of the rank that it names has room for one more message (passive_send)
abbrev pub send_result : Limits → Posts → Memory → send.PassiveSend → Result (Option Reply) Refusal
send_result limits posts memory call = do
  ranked ← check (nat_lt call.rank limits.ranks) BadRank
  fits ← passive_checks posts.segments.own call.seg call.offset call.size
  Ok (if has_room limits.inbox memory.inbox then Some replies.Done else None)

-- the message of a send by a rank: the bytes that its range has now in the own memory
abbrev pub message_of : ℕ → Memory → send.PassiveSend → Message
message_of me own call = record { sender = me; bytes = range_of (bytes_of own call.seg) call.offset call.size }

-- the message of a call: only a send has one
abbrev pub sent_message : ℕ → Memory → Call → Option Message
sent_message me own (PassiveSend call) = Some (message_of me own call)
sent_message me own call = None

-- the message is the last in the inbox
abbrev pub send_effect : Option Message → Memory → Memory
send_effect None memory = memory
send_effect (Some message) memory = record memory { inbox = deposited memory.inbox message }

-- ready where a message is there, which has to be short enough: it answers the sender (passive_receive)
abbrev pub receive_result : Posts → Memory → receive.PassiveReceive → Result (Option Reply) Refusal
receive_result posts memory call = do
  fits ← passive_checks posts.segments.own call.seg call.offset call.size
  message ← first_within call.size memory.inbox
  Ok (option_map (λ (m : Message). replies.Id m.sender) message)

-- the first message goes, and its bytes, and no more, are in the segment from the offset on
abbrev pub receive_effect : Memory → receive.PassiveReceive → Memory
receive_effect memory call = received memory.inbox
  where
    received : List Message → Memory
    received [] = memory
    received (message ∷ rest) = record (with_bytes memory call.seg (with_range (bytes_of memory call.seg) call.offset message.bytes)) { inbox = rest }
