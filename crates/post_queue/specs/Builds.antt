-- The entries of a call that posts, or its first refusal, before a queue is asked. (GASPI: one-sided communication)
use Rattle.std.specs.Prelude.{◌≡◌, ℕ, Bool, true, false, nat_lt, List, Option, None, Some, Result, Ok, Err}
use Rattle.gaspi_types.specs.CallRows.{row_of}
use Rattle.gaspi_types.specs.Checks.{◌>>=◌, check}
use Rattle.gaspi_types.specs.Posts.{call_kinds}
use Rattle.gaspi_types.specs.declared.call_rows.Posting.{Posting}
use Rattle.gaspi_types.specs.declared.calls.Call.{Call}
use Rattle.gaspi_types.specs.declared.entries.Kind.{Kind}
use Rattle.gaspi_types.specs.declared.segments.SegmentTable.{SegmentTable}
use Rattle.gaspi_types.specs.declared.shapes.Limits.{Limits}
use Rattle.gaspi_types.specs.declared.replies.Refusal.{Refusal}
use Rattle.gaspi_types.specs.declared.replies.Refusal.TheVariants.{BadRank, BadQueue}
use Rattle.post_queue.specs.declared.build_stops.BuildStop.{BuildStop}
use Rattle.post_queue.specs.declared.build_stops.BuildStop.TheVariants.{Refused, NoMemory}

-- the rank and the queue to which a call posts are there
abbrev pub lane_checks : Limits → Option Posting → Result (Unit {0}) Refusal
lane_checks limits None = Ok tt
lane_checks limits (Some to) = do
  ranked ← check (nat_lt to.rank limits.ranks) BadRank
  check (nat_lt to.queue limits.queues) BadQueue

-- the entries of a call that posts, or its first refusal: by its rank, by its queue, and by the table of segments of its caller's rank
abbrev pub build_result : Limits → ℕ → SegmentTable → Call → Result (List Kind) Refusal
build_result limits me table call = do
  there ← lane_checks limits (row_of call).posting
  call_kinds limits.notes me table call

-- What is built is what the machine finds: entries of just these kinds, or that refusal. `NoMemory` may come in place of either.
abbrev pub Builds : Result (List Kind) BuildStop → Result (List Kind) Refusal → Type 0
Builds (Ok entries) found = found ≡ Ok entries
Builds (Err (Refused refusal)) found = found ≡ Err refusal
Builds (Err NoMemory) found = Unit {0}

-- whether memory ran out
abbrev pub is_out_of_memory : Result (List Kind) BuildStop → Bool
is_out_of_memory (Ok entries) = false
is_out_of_memory (Err (Refused refusal)) = false
is_out_of_memory (Err NoMemory) = true
