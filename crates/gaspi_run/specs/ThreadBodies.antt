-- What the bodies of a world's threads need of their passes, and what they did with them. (own choice)
use Rattle.std.specs.Prelude.{◌≡◌, ℕ, ◌+◌, ◌<◌, Bool, true, false, List, [], ◌∷◌, map, length, slice_get, find, Option, None, Some}
use Rattle.std.specs.List.{All, flat_map}
use Rattle.gaspi_types.specs.declared.shapes.CallerId.{CallerId}
use Rattle.gaspi_types.specs.declared.events.Event.{Event}
use Rattle.commit_table.specs.Calls.{TableValue, PassValue, IsOf, HoldsNone}
use Rattle.commit_table.specs.Views.{new_pass}
use Rattle.commit_table.specs.declared.views.PassView.{PassView}
use Rattle.gaspi_world.specs.Callers.{IsPassOf, IsWorkers}
use Rattle.gaspi_world.specs.declared.launching.Task.{Task}
use Rattle.gaspi_world.specs.declared.starts.Start.{Start}
use Rattle.rank_script.specs.Runs.{at_first_line}
use Rattle.rank_script.specs.WorldText.{is_script_of}
use Rattle.rank_script.specs.declared.scripts.RunOutcome.{RunOutcome}
use Rattle.rank_script.specs.declared.scripts.RunOutcome.TheVariants as outcomes
use Rattle.rank_script.specs.declared.scripts.Script.{Script}
use Rattle.gaspi_run.specs.Bodies.{IsRunnable, IsFresh, HasRunScript}
use Rattle.gaspi_run.specs.Runs.{HasRun}
use Rattle.gaspi_run.specs.declared.bodies.ScriptBody.{ScriptBody}
use Rattle.transfer_worker.specs.Order.{Drains}
use Rattle.transfer_worker.specs.Turns.{IsExtended, IsDrained}
use Rattle.plain_schedule.specs.declared.schedule_states.EndedCaller.{EndedCaller}
use Rattle.gaspi_run.specs.declared.thread_bodies.ThreadBody.{ThreadBody}
use Rattle.gaspi_run.specs.declared.thread_bodies.ThreadBody.TheVariants.{Caller, Worker}

-- what a body needs of its pass: it is that of its caller, or of a worker, and has done nothing yet
abbrev pub BodyNeeds : ThreadBody → TableValue Start → PassValue Start Event → Type 0
BodyNeeds (Caller body) world pass = IsRunnable body.script.now body.limit × IsFresh body.script.now world pass × (body.cursor ≡ at_first_line body.script.now.lines)
BodyNeeds (Worker turns) world pass = IsOf world pass × HoldsNone pass.known × IsWorkers world.start.shape pass.known

-- A worker has made turns, the first of which had this number, and no transfer was left.
pub record HasWorked (turns : ℕ) (p q : PassValue Start Event) : Type 0 where
  pub table : q.table ≡ p.table
  pub free : HoldsNone q.known
  pub goes_on : IsExtended p.known q.known
  pub none_left : (start : Start) → p.known.start ≡ Some start → IsDrained start.shape q.known.seen
  pub turned : (start : Start) → p.known.start ≡ Some start → (next : ℕ) × Drains start.shape turns p.known next q.known

-- what a caller's body did: it has run its script
abbrev pub RanScript : ScriptBody → PassValue Start Event → ThreadBody → PassValue Start Event → Type 0
RanScript body p (Caller next) q = (next.script ≡ body.script) × (next.limit ≡ body.limit) × HasRunScript body.script.now body.limit next.outcome p q
RanScript body p (Worker turns) q = ⊥

-- what a worker's body did: it has made transfers
abbrev pub MadeTransfers : ℕ → PassValue Start Event → ThreadBody → PassValue Start Event → Type 0
MadeTransfers turns p (Caller next) q = ⊥
MadeTransfers turns p (Worker now) q = HasWorked turns p q

-- what a body did with itself and its pass
abbrev pub BodyDid : ThreadBody → PassValue Start Event → ThreadBody → PassValue Start Event → Type 0
BodyDid (Caller body) p next q = RanScript body p next q
BodyDid (Worker turns) p next q = MadeTransfers turns p next q

-- a fact of each item of a list and its index
abbrev pub EachAt : {A : Type 0} → (ℕ → A → Type 0) → List A → Type 0
EachAt {A} P xs = (place : ℕ) (x : A) → slice_get xs place ≡ Some x → P place x

-- each body has run with its pass: both are as the body with that index left them
abbrev pub HaveAllRun : List (Task ThreadBody) → List (Task ThreadBody) → Type 0
HaveAllRun old new = EachAt (λ place task. (before : Task ThreadBody) × (slice_get old place ≡ Some before) × BodyDid before.body before.pass task.body task.pass) new

-- the pass of a number as it was made
abbrev pub made_pass : TableValue Start → ℕ → PassValue Start Event
made_pass world place = record { table = world.table; known = new_pass world.start (Some place) [] }

-- the first passes are those of callers, one for each
abbrev pub AreCallersThere : TableValue Start → Type 0
AreCallersThere world = (place : ℕ) → place < length world.start.shape.callers → (c : CallerId) × IsPassOf world.start.shape c (made_pass world place).known

module _ (world : TableValue Start) (scripts : List Script) (limit : ℕ) where
  -- A caller's body has the script of the caller with the number of its pass, before its first line. The workers' bodies come after
  -- those, and each begins with the turn of its own number.
  abbrev pub IsBodyOf : ℕ → ThreadBody → Type 0
  IsBodyOf place (Caller body) =
      (body.limit ≡ limit) × (find (is_script_of body.script.now.caller) scripts ≡ Some body.script.now) × IsPassOf world.start.shape body.script.now.caller (made_pass world place).known × (body.cursor ≡ at_first_line body.script.now.lines)
  IsBodyOf place (Worker turns) = place ≡ length world.start.shape.callers + turns

  -- a body and its pass, before it runs
  abbrev pub IsReady : ℕ → Task ThreadBody → Type 0
  IsReady place task = (task.pass ≡ made_pass world place) × IsBodyOf place task.body

  -- What is known of a caller's body once it has run: the script is its caller's, and was run to that outcome.
  pub record HasRunCaller (body : ScriptBody) (v n : PassView Start Event) : Type 0 where
    pub is_script : find (is_script_of body.script.now.caller) scripts ≡ Some body.script.now
    pub caller : IsPassOf world.start.shape body.script.now.caller n
    pub told : RunOutcome
    pub is_told : body.outcome ≡ Some told
    pub run : HasRun world.start.shape body.script.now.caller body.script.now.lines limit told v n

  -- What is known of a worker's body: it made turns from that of its own number on, and left no transfer.
  pub record HasRunWorker (place : ℕ) (n : PassView Start Event) : Type 0 where
    pub worker : ℕ
    pub place_is : place ≡ length world.start.shape.callers + worker
    pub none_left : IsDrained world.start.shape n.seen
    pub mine : n.mine ≡ []
    pub next : ℕ
    pub turned : Drains world.start.shape worker (made_pass world place).known next n

  -- what is known of a body once it has run, by what it is
  abbrev pub HasRunThreadBody : ℕ → ThreadBody → PassView Start Event → Type 0
  HasRunThreadBody place (Caller body) n = HasRunCaller body (made_pass world place).known n
  HasRunThreadBody place (Worker turns) n = HasRunWorker place n

  -- A body has run. Its pass is still one of its world, has its number and holds no shard.
  pub record HasRunTask (place : ℕ) (task : Task ThreadBody) : Type 0 where
    pub table : task.pass.table ≡ world.table
    pub start : task.pass.known.start ≡ Some world.start
    pub party : task.pass.known.party ≡ Some place
    pub free : HoldsNone task.pass.known
    pub part : HasRunThreadBody place task.body task.pass.known

-- a caller that ended with an outcome, where there is one
abbrev pub ended_with : CallerId → Option RunOutcome → List EndedCaller
ended_with caller None = []
ended_with caller (Some outcome) = record { caller = caller; outcome = outcome } ∷ []

-- how the caller of a body ended; none of a worker's
abbrev pub ended_caller : ThreadBody → List EndedCaller
ended_caller (Caller body) = ended_with body.script.now.caller body.outcome
ended_caller (Worker turns) = []

-- how the callers ended, in the order of the tasks
abbrev pub ended_callers : List (Task ThreadBody) → List EndedCaller
ended_callers tasks = flat_map (λ (task : Task ThreadBody). ended_caller task.body) tasks

-- a run did not end out of memory
abbrev pub is_not_out_of_memory : RunOutcome → Bool
is_not_out_of_memory outcomes.Ended = true
is_not_out_of_memory (outcomes.Failed line) = true
is_not_out_of_memory (outcomes.Stuck line) = true
is_not_out_of_memory (outcomes.Limit line) = true
is_not_out_of_memory (outcomes.NoMemory line) = false

-- a body has come to its end: a caller's did not run out of memory
abbrev pub IsDone : ThreadBody → Type 0
IsDone (Caller body) = (told : RunOutcome) × (body.outcome ≡ Some told) × (is_not_out_of_memory told ≡ true)
IsDone (Worker turns) = Unit {0}

-- All bodies of a world have run, each to its end: these are their passes, in order, and so its callers ended.
pub record HaveRun (world : TableValue Start) (scripts : List Script) (limit : ℕ) (passes : List (PassValue Start Event)) (finished : List EndedCaller) : Type 0 where
  pub tasks : List (Task ThreadBody)
  pub ran : EachAt (HasRunTask world scripts limit) tasks
  pub told : All (λ (t : Task ThreadBody). IsDone t.body) tasks
  pub count : length tasks ≡ world.passes
  pub passes_are : passes ≡ map (λ t. t.pass) tasks
  pub finished_are : finished ≡ ended_callers tasks
