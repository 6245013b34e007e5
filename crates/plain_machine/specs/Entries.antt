-- An entry that was found in its lane, its take and its put.
use Rattle.std.specs.Prelude.{◌≡◌, ℕ, ◌-◌, List, [], Option, Result, Ok, Err, IsOk}
use Rattle.std.specs.Option.{unwrap_or}
use Rattle.gaspi_types.specs.Checks.{◌>>=◌}
use Rattle.gaspi_types.specs.Tables.{changed_at}
use Rattle.gaspi_types.specs.declared.events.Outcome.{Outcome}
use Rattle.gaspi_types.specs.declared.events.Outcome.TheVariants.{Applied, Failed}
use Rattle.gaspi_types.specs.declared.footprints.Footprint.{Footprint}
use Rattle.gaspi_model.specs.Transfers.{EntryPosition, put_outcome, memory_after_put, posts_after_take}
use Rattle.gaspi_model.specs.declared.states.Posts.{Posts}
use Rattle.gaspi_model.specs.declared.states.Memory.{Memory}
use Rattle.gaspi_model.specs.declared.states.StepFault.{StepFault}
use Rattle.gaspi_model.specs.declared.states.StepFault.TheVariants as faults
use Rattle.gaspi_model.specs.declared.states.Why.{Why}
use Rattle.plain_machine.specs.Footprints.{memory_at, with_memory_at}
use Rattle.plain_machine.specs.declared.transfers.LaneEntry.{LaneEntry}
use Rattle.plain_machine.specs.declared.transfers.TakeResult.{TakeResult}
use Rattle.plain_machine.specs.declared.transfers.TakeResult.TheVariants.{Bytes}
use Rattle.plain_machine.specs.declared.transfers.TakeResult.TheVariants as taken

-- what contracts see of an entry that was found
abbrev pub found_at : LaneEntry → EntryPosition
found_at at = record { queue = at.queue.now; lane = at.lane.now; position = at.position; entry = at.entry.now }

-- the entry that was found is the one that the machine finds, or the cause is the machine's
abbrev pub Finds : Result LaneEntry Why → Result EntryPosition Why → Type 0
Finds (Ok at) sought = sought ≡ Ok (found_at at)
Finds (Err why) sought = sought ≡ Err why

-- the outcome of a take with this result
abbrev pub take_result_outcome : TakeResult → Outcome
take_result_outcome (Bytes bytes) = Applied
take_result_outcome taken.Failed = Failed

-- the result of a take is the machine's: its bytes, or that it failed, or the cause why it may not come; where memory runs out nothing
-- is said
abbrev pub IsTakeResult : Result TakeResult StepFault → Result (List ℕ) Why → Type 0
IsTakeResult (Ok (Bytes bytes)) given = given ≡ Ok bytes
IsTakeResult (Ok taken.Failed) given = IsOk given
IsTakeResult (Err (faults.Illegal why)) given = given ≡ Err why
IsTakeResult (Err faults.NoMemory) given = Unit {0}

-- the posts of an origin after a take with this result
abbrev pub posts_after_take_result : Posts → ℕ → ℕ → ℕ → TakeResult → Posts
posts_after_take_result posts queue target place (Bytes bytes) = posts_after_take posts queue target place bytes Applied
posts_after_take_result posts queue target place taken.Failed = posts_after_take posts queue target place [] Failed

-- the used rooms after a take: where it failed, its rank's is one event less, for the put will not come
abbrev pub released_by_take : List ℕ → ℕ → Outcome → List ℕ
released_by_take rooms rank Applied = rooms
released_by_take rooms rank Failed = changed_at rooms rank (λ n. n - 1)

-- the outcome of the put of an entry that was found, on the memory that its footprint has: the given one, or else the machine's
abbrev pub outcome_in_memories : Option Outcome → List Memory → ℕ → Footprint → EntryPosition → Outcome
outcome_in_memories given memories me footprint at = unwrap_or given (put_outcome (memory_at memories me footprint) at.entry.kind)

-- all memories after the put of an entry that was found, on the memory that its footprint has
abbrev pub memories_after_put : List Memory → ℕ → Footprint → EntryPosition → Outcome → Result (List Memory) Why
memories_after_put memories me footprint at outcome = do
  memory ← memory_after_put (memory_at memories me footprint) at outcome
  Ok (with_memory_at memories me footprint memory)
