-- What the threads of a world need of their passes, and what they make of them. (own choice)
use Rattle.std.specs.Prelude.{◌≡◌, ℕ, ◌<◌, ◌≤◌, List, [], ◌∷◌, length, slice_get, None, Some}
use Rattle.std.specs.List.{flat_map}
use Rattle.gaspi_types.specs.declared.events.Event.{Event}
use Rattle.gaspi_types.specs.declared.shapes.CallerId.{CallerId}
use Rattle.commit_table.specs.Calls.{TableValue, PassValue, IsOf, HoldsNone}
use Rattle.commit_table.specs.Views.{new_pass}
use Rattle.gaspi_world.specs.Callers.{IsPassOf, IsWorkers}
use Rattle.gaspi_world.specs.Calling.{MayCall}
use Rattle.gaspi_world.specs.declared.launching.Task.{Task}
use Rattle.gaspi_world.specs.declared.starts.Start.{Start}
use Rattle.transfer_worker.specs.Turns.{IsExtended, IsDrained}
use Rattle.rank_programs.specs.declared.thread_bodies.ThreadBody.{ThreadBody}
use Rattle.rank_programs.specs.declared.thread_bodies.ThreadBody.TheVariants.{Caller, Worker}

-- a fact of each item of a list and its index
abbrev pub EachAt : {A : Type 0} → (ℕ → A → Type 0) → List A → Type 0
EachAt {A} P xs = (place : ℕ) (x : A) → slice_get xs place ≡ Some x → P place x

-- the pass of a number as it was made
abbrev pub made_pass : TableValue Start → ℕ → PassValue Start Event
made_pass world place = record { table = world.table; known = new_pass world.start (Some place) [] }

-- the first passes are those of callers, one for each
abbrev pub AreCallersThere : TableValue Start → Type 0
AreCallersThere world = (place : ℕ) → place < length world.start.shape.callers → (c : CallerId) × IsPassOf world.start.shape c (made_pass world place).known

-- A worker has made transfers until none was left.
pub record HasWorked (p q : PassValue Start Event) : Type 0 where
  pub table : q.table ≡ p.table
  pub free : HoldsNone q.known
  pub goes_on : IsExtended p.known q.known
  pub none_left : (start : Start) → p.known.start ≡ Some start → IsDrained start.shape q.known.seen

module _ {P T : Type 0} where
  -- what a body needs of its pass: it is that of a caller, or of a worker
  abbrev pub BodyNeeds : ThreadBody P T → TableValue Start → PassValue Start Event → Type 0
  BodyNeeds (Caller program outcome) world pass = MayCall world pass
  BodyNeeds (Worker first_turn) world pass = IsOf world pass × HoldsNone pass.known × IsWorkers world.start.shape pass.known

  -- the outcome of the caller of a body that has run the program
  abbrev pub outcome_of : ThreadBody P T → List T
  outcome_of (Caller program None) = []
  outcome_of (Caller program (Some outcome)) = outcome ∷ []
  outcome_of (Worker first_turn) = []

  -- what the callers came to, in the order of the tasks
  abbrev pub outcomes_in : List (Task (ThreadBody P T)) → List T
  outcomes_in tasks = flat_map (λ (task : Task (ThreadBody P T)). outcome_of task.body) tasks

  -- how a body leaves itself and its pass: a caller's has an outcome, and the caller may still make calls; a worker's has
  -- made all transfers
  abbrev pub BodyDid : ThreadBody P T → PassValue Start Event → ThreadBody P T → PassValue Start Event → Type 0
  BodyDid (Caller program outcome) p next q = (length (outcome_of next) ≡ 1) × ((world : TableValue Start) → MayCall world p → MayCall world q)
  BodyDid (Worker first_turn) p next q = (length (outcome_of next) ≡ 0) × HasWorked p q

  -- each body has run with its pass: it is as a body at its place leaves itself and its pass
  abbrev pub HaveAllRun : List (Task (ThreadBody P T)) → List (Task (ThreadBody P T)) → Type 0
  HaveAllRun old new = EachAt (λ place task. (before : Task (ThreadBody P T)) × (slice_get old place ≡ Some before) × BodyDid before.body before.pass task.body task.pass) new

module _ {P T : Type 0} (world : TableValue Start) where
  -- the bodies of callers come first
  abbrev pub IsBodyOf : ℕ → ThreadBody P T → Type 0
  IsBodyOf place (Caller program outcome) = place < length world.start.shape.callers
  IsBodyOf place (Worker first_turn) = length world.start.shape.callers ≤ place

  -- a body and its pass, before it runs
  abbrev pub IsReady : ℕ → Task (ThreadBody P T) → Type 0
  IsReady place task = (task.pass ≡ made_pass world place) × IsBodyOf place task.body

module _ (world : TableValue Start) where
  -- A body has run. Its pass is still one of its world and holds no shard, and a worker's has left no transfer.
  pub record HasRunPass (place : ℕ) (p : PassValue Start Event) : Type 0 where
    pub of_table : IsOf world p
    pub free : HoldsNone p.known
    pub none_left : length world.start.shape.callers ≤ place → IsDrained world.start.shape p.known.seen

  -- All bodies of a world have run, a worker's among them.
  pub record HaveRun (passes : List (PassValue Start Event)) : Type 0 where
    pub each : EachAt HasRunPass passes
    pub worker : length world.start.shape.callers < length passes
