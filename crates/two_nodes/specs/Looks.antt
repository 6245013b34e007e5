-- What one look at a call does in the machine, and the events of ranks with their places.
use Rattle.std.specs.Prelude.{◌≡◌, ◌⊎◌, ℕ, ◌+◌, ◌==◌, true, false, List, [], ◌∷◌, ◌++◌, Option, None, Some, Result, Ok, Err, if◌then◌else◌}
use Rattle.gaspi_types.specs.declared.calls.Call.{Call}
use Rattle.gaspi_types.specs.declared.events.Event.{Event}
use Rattle.gaspi_types.specs.declared.events.Event.TheVariants.{Called}
use Rattle.gaspi_types.specs.declared.events.PlacedEvent.{PlacedEvent}
use Rattle.gaspi_types.specs.declared.groups.Args.{Args}
use Rattle.gaspi_types.specs.declared.replies.Ready.TheVariants as ready
use Rattle.gaspi_types.specs.declared.replies.Reply.{Reply}
use Rattle.gaspi_types.specs.declared.shapes.CallerId.{CallerId}
use Rattle.gaspi_model.specs.CollectiveCalls.{join_event}
use Rattle.gaspi_model.specs.Step.{step, answer_in, is_declared, lacks_room_in, owner_of}
use Rattle.gaspi_model.specs.declared.states.State.{State}
use Rattle.two_nodes.specs.declared.stops.CallStop.{CallStop}
use Rattle.two_nodes.specs.declared.stops.CallStop.TheVariants.{NoMemory, EventLimit}

-- No collective has joined, or the one that a look found may join has joined: these events lead from one state to the other.
abbrev pub MayHaveJoined : State → CallerId → Call → List Event → State → Type 0
MayHaveJoined s c call joins t =
    ((joins ≡ []) × (t ≡ s))
    ⊎ ((args : Args) × (joins ≡ join_event c call args ∷ []) × (answer_in s c.rank c.thread call ≡ Some (ready.Join args)) × (step s (join_event c call args) ≡ Ok t))

-- a call has a reply and is recorded with it, or it is not ready
abbrev pub IsTold : State → CallerId → Call → Option Reply → List Event → State → Type 0
IsTold s c call (Some reply) calls t = (calls ≡ Called c call reply ∷ []) × (answer_in s c.rank c.thread call ≡ Some (ready.Reply reply)) × (step s (Called c call reply) ≡ Ok t)
IsTold s c call None calls t = (calls ≡ []) × (answer_in s c.rank c.thread call ≡ Some ready.NotReady) × (t ≡ s)

-- A call had room; it joined, where a look found that it may join; then it had a reply and was recorded, or was not ready.
pub record IsLooked (s : State) (c : CallerId) (call : Call) (told : Option Reply) (events : List Event) (t : State) : Type 0 where
  pub room : lacks_room_in s c call ≡ false
  pub joins : List Event
  pub calls : List Event
  pub events_are : events ≡ joins ++ calls
  pub between : State
  pub joined : MayHaveJoined s c call joins between
  pub told_as : IsTold between c call told calls t

-- what one look at a call does in a state: these events, which lead to another state
abbrev pub Looks : State → CallerId → Call → Result (Option Reply) CallStop → List Event → State → Type 0
Looks s c call (Ok told) events t = IsLooked s c call told events t
Looks s c call (Err EventLimit) events t = (lacks_room_in s c call ≡ true) × (events ≡ []) × (t ≡ s)
Looks s c call (Err NoMemory) events t = (lacks_room_in s c call ≡ false) × (events ≡ []) × (t ≡ s)

-- the events of a list that a rank owns, each with its place; the first of the list has the place `place`
abbrev pub placed_of : ℕ → ℕ → List Event → List PlacedEvent
placed_of rank place [] = []
placed_of rank place (e ∷ events) =
    if owner_of e == rank then record { place = place; event = e } ∷ placed_of rank (place + 1) events else placed_of rank (place + 1) events

-- each caller that has a section has it still
abbrev pub KeepsCallers : State → State → Type 0
KeepsCallers s t = (rank thread : ℕ) → is_declared s rank thread ≡ true → is_declared t rank thread ≡ true
