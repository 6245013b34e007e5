-- Values whose copies take no memory.
use Rattle.std.specs.Prelude.{Bool, true, ◌&&◌, length, ◌==◌}
use Rattle.gaspi_types.specs.declared.calls.Call.{Call}
use Rattle.gaspi_types.specs.declared.calls.Call.TheVariants.{Store, WriteList, WriteListNotify, ReadList, ReadListNotify, Allreduce}
use Rattle.gaspi_types.specs.declared.replies.Reply.{Reply}
use Rattle.gaspi_types.specs.declared.replies.Reply.TheVariants as replies
use Rattle.gaspi_types.specs.declared.events.Event.{Event}
use Rattle.gaspi_types.specs.declared.events.Event.TheVariants.{Called, Joined, Take, Put}

-- no list in a call has an item
abbrev pub is_listless_call : Call → Bool
is_listless_call (Store call) = length call.bytes == 0
is_listless_call (WriteList call) = length call.items == 0
is_listless_call (WriteListNotify call) = length call.items == 0
is_listless_call (ReadList call) = length call.items == 0
is_listless_call (ReadListNotify call) = length call.items == 0
is_listless_call (Allreduce call) = length call.values.items == 0
is_listless_call call = true

-- no list in a reply has an item
abbrev pub is_listless_reply : Reply → Bool
is_listless_reply replies.Done = true
is_listless_reply (replies.Value n) = true
is_listless_reply (replies.Id n) = true
is_listless_reply (replies.Bytes bytes) = length bytes == 0
is_listless_reply (replies.Mask mask) = true
is_listless_reply (replies.List numbers) = length numbers.items == 0
is_listless_reply replies.Timeout = true
is_listless_reply (replies.Refused refusal) = true

-- no list in an event has an item
abbrev pub is_listless_event : Event → Bool
is_listless_event (Called caller call reply) = is_listless_call call && is_listless_reply reply
is_listless_event (Joined caller group args) = length args.values.items == 0
is_listless_event (Take origin queue target number outcome) = true
is_listless_event (Put origin queue target number outcome) = true
