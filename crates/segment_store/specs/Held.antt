-- What contracts see of an inbox, and its messages after a call. (GASPI: passive communication)
use Rattle.std.specs.Prelude.{◌≡◌, ℕ, ◌≤◌, true, List, [], ◌∷◌, length, Option, None, Some, Result, Ok, Err, if◌then◌else◌}
use Rattle.std.specs.List.{All}
use Rattle.circular_buffer.specs.Buffer.{Buffer}
use Rattle.gaspi_types.specs.Inboxes.{is_passive_size, has_room, deposited}
use Rattle.gaspi_types.specs.declared.inboxes.Message.{Message}
use Rattle.gaspi_types.specs.declared.replies.Refusal.{Refusal}

-- the most messages that an inbox may have, and its messages, the earliest first
pub record InboxValue : Type 0 where
  pub most : ℕ
  pub messages : List Message

-- the inbox of a ring
abbrev pub inbox_value : Buffer Message → InboxValue
inbox_value ring = record { most = ring.capacity; messages = ring.items }

-- a ring with capacity for 1 to 64 messages, each of 1 to 4,096 bytes
pub record IsInbox (ring : Buffer Message) : Type 0 where
  pub least : 1 ≤ ring.capacity
  pub greatest : ring.capacity ≤ 64
  pub fits : length ring.items ≤ ring.capacity
  pub sized : All (λ (message : Message). is_passive_size (length message.bytes) ≡ true) ring.items

-- a message of a sender
abbrev pub message_of : ℕ → List ℕ → Message
message_of sender bytes = record { sender = sender; bytes = bytes }

-- a message is given back where the inbox has no room for it (passive_send)
abbrev pub deposit_answer : InboxValue → Message → Result (Unit {0}) Message
deposit_answer inbox message = if has_room inbox.most inbox.messages then Ok tt else Err message

-- the inbox after that: the message is the last one, or nothing has changed
abbrev pub with_deposit : InboxValue → Message → InboxValue
with_deposit inbox message = if has_room inbox.most inbox.messages then record inbox { messages = deposited inbox.messages message } else inbox

-- the sender and the size of the first message
abbrev pub front_of : List Message → Option (ℕ × ℕ)
front_of [] = None
front_of (message ∷ messages) = Some (message.sender, length message.bytes)

-- An inbox before and after a receive, with its result: a message that is given was the first, and just the others remain, in their
-- order; where none is given, or the receive is refused, all remain (passive_receive).
abbrev pub Receives : InboxValue → InboxValue → Result (Option Message) Refusal → Type 0
Receives old new (Ok (Some message)) = (old.messages ≡ message ∷ new.messages) × (new.most ≡ old.most)
Receives old new (Ok None) = new ≡ old
Receives old new (Err refusal) = new ≡ old
