-- Which messages events send to a rank, and which a rank receives. (GASPI: passive communication)
use Rattle.std.specs.Prelude.{◌≡◌, ℕ, ◌==◌, List, [], ◌∷◌, ◌++◌, length, take, Some, Result, Ok, Err, if◌then◌else◌, slice_get}
use Rattle.gaspi_types.specs.World.{ShapeValue}
use Rattle.gaspi_types.specs.declared.calls.Call.TheVariants.{PassiveSend, PassiveReceive}
use Rattle.gaspi_types.specs.declared.replies.Reply.TheVariants as replies
use Rattle.gaspi_types.specs.declared.inboxes.Message.{Message}
use Rattle.gaspi_types.specs.declared.events.Event.{Event}
use Rattle.gaspi_types.specs.declared.events.Event.TheVariants.{Called}
use Rattle.gaspi_model.specs.Parts.{memory_or_none}
use Rattle.gaspi_model.specs.PassiveCalls.{message_of}
use Rattle.gaspi_model.specs.State.{opening}
use Rattle.gaspi_model.specs.Step.{step}
use Rattle.gaspi_model.specs.declared.states.State.{State}
use Rattle.gaspi_model.specs.declared.states.Why.{Why}

-- the messages in the inbox of a rank, the earliest first; of one that is not there, none
abbrev pub inbox_of : State → ℕ → List Message
inbox_of s rank = (memory_or_none (slice_get s.memories rank)).inbox

-- what an event that comes in a state sends to a rank: a send to it that is done one message, which has the rank of its
-- caller and the bytes of its range in that state; any other event nothing
abbrev pub sent_by : State → Event → ℕ → List Message
sent_by s (Called c (PassiveSend call) replies.Done) rank =
    if call.rank == rank then message_of c.rank (memory_or_none (slice_get s.memories c.rank)) call ∷ [] else []
sent_by s event rank = []

-- what a rank receives by an event that comes in a state: by a receive of its own that is done the first message of its
-- inbox in that state; by any other event nothing
abbrev pub received_by : State → Event → ℕ → List Message
received_by s (Called c (PassiveReceive call) (replies.Id sender)) rank = if c.rank == rank then take 1 (inbox_of s rank) else []
received_by s event rank = []

-- what events bring, one after another from a state on, each of them in the state in which it comes
abbrev pub collected_from : (State → Event → List Message) → State → List Event → List Message
collected_from brings s [] = []
collected_from brings s (e ∷ events) = brings s e ++ in_next (step s e) (λ t. collected_from brings t events)
  where
    in_next : Result State Why → (State → List Message) → List Message
    in_next (Err why) rest = []
    in_next (Ok t) rest = rest t

-- what a history sends to a rank, in the order of the events
abbrev pub sent_in : State → List Event → ℕ → List Message
sent_in s events rank = collected_from (λ at e. sent_by at e rank) s events

-- what a rank receives in a history, in the order of the events
abbrev pub received_in : State → List Event → ℕ → List Message
received_in s events rank = collected_from (λ at e. received_by at e rank) s events

-- A receive of a rank that comes after a history and answers that sender: the inbox has a first message; it is the earliest of
-- those that the history has sent to the rank and that the rank has not received in it; and that rank sent it.
pub record IsEarliest (w : ShapeValue) (history : List Event) (s : State) (rank sender : ℕ) : Type 0 where
  pub message : Message
  pub rest : List Message
  pub first : inbox_of s rank ≡ message ∷ rest
  pub earliest : slice_get (sent_in (opening w) history rank) (length (received_in (opening w) history rank)) ≡ Some message
  pub answers : sender ≡ message.sender
