-- The machine: a sound state, the used room of each rank, and the nonempty lanes.
use Rattle.std.specs.Prelude.{◌≡◌, ℕ, ◌+◌, ◌≤◌, Bool, ◌&&◌, List, map, length, slice_get, Option, None, Some, Result, is_none, true, false}
use Rattle.gaspi_types.specs.CallRows.{row_of}
use Rattle.gaspi_types.specs.declared.calls.Call.{Call}
use Rattle.gaspi_types.specs.declared.shapes.Limits.{Limits}
use Rattle.gaspi_types.specs.declared.events.Event.{Event}
use Rattle.gaspi_types.specs.declared.events.Event.TheVariants.{Take, Put}
use Rattle.gaspi_types.specs.declared.events.Outcome.{Outcome}
use Rattle.gaspi_model.specs.State.{owed}
use Rattle.gaspi_model.specs.Sound.{IsSound}
use Rattle.gaspi_model.specs.Step.{Steps, step, transfer_event}
use Rattle.gaspi_types.specs.declared.groups.Group.{Group}
use Rattle.gaspi_model.specs.declared.states.Posts.{Posts}
use Rattle.gaspi_model.specs.declared.states.Memory.{Memory}
use Rattle.gaspi_model.specs.declared.states.State.{State}
use Rattle.gaspi_model.specs.declared.states.StepFault.{StepFault}
use Rattle.plain_calls.specs.NumberBounds.{purged_queue}
use Rattle.plain_machine.specs.NonemptyLanes.{nonempty_lanes}
use Rattle.plain_machine.specs.declared.ranks.RankTables.{RankTables}
use Rattle.plain_machine.specs.declared.nonempty_lanes.LaneId.{LaneId}

-- the state with these parts
abbrev pub state_of : Limits → List Posts → List Memory → List Group → State
state_of limits posts memories groups = record { limits = limits; posts = posts; memories = memories; groups = groups }

-- the state of the ranks and their memories
abbrev pub state_in : RankTables → List Memory → State
state_in ranks memories = state_of ranks.limits ranks.posts memories ranks.groups

-- the used room of a rank: the events that it has recorded and those that it owes
abbrev pub used_room_of : Posts → ℕ
used_room_of posts = posts.events + owed posts

-- ranks and queues have numbers in their ranges, and each rank has a memory
pub record HasBoundedNumbers (s : State) : Type 0 where
  pub ranks : length s.posts ≤ 16
  pub memories : length s.memories ≡ length s.posts
  pub queues : (rank : ℕ) (posts : Posts) → slice_get s.posts rank ≡ Some posts → length posts.queues ≤ 8

-- ranks and memories are a sound state, with the used room of each rank
pub record IsStateOf (ranks : RankTables) (memories : List Memory) : Type 0 where
  pub sound : IsSound (state_in ranks memories)
  pub fitting : HasBoundedNumbers (state_in ranks memories)
  pub used : ranks.used ≡ map used_room_of ranks.posts

-- the invariant of the machine: the same, and `standing` has the nonempty lanes
pub record IsMachine (s : State) (rooms : List ℕ) (standing : List LaneId) : Type 0 where
  pub sound : IsSound s
  pub fitting : HasBoundedNumbers s
  pub used : rooms ≡ map used_room_of s.posts
  pub named : standing ≡ nonempty_lanes s.posts

-- the result of a function that makes the step by an event is the machine's
abbrev pub StepsBy : Result (Unit {0}) StepFault → State → State → Event → Type 0
StepsBy result s t e = Steps result s t (step s e)

-- the event of an entry's take, and of its put: with the given outcome, or else the machine's
abbrev pub take_event : State → LaneId → ℕ → Option Outcome → Event
take_event s id number (Some outcome) = Take id.origin id.queue id.target number outcome
take_event s id number None = transfer_event s (record { origin = id.origin; queue = id.queue; target = id.target; number = number; put = false })

abbrev pub put_event : State → LaneId → ℕ → Option Outcome → Event
put_event s id number (Some outcome) = Put id.origin id.queue id.target number outcome
put_event s id number None = transfer_event s (record { origin = id.origin; queue = id.queue; target = id.target; number = number; put = true })

-- a call is still where it posts nothing and purges nothing: its record changes no enabled transfer
abbrev pub is_still : Call → Bool
is_still call = is_none (row_of call).posting && is_none (purged_queue call)
