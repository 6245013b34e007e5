-- The calls of a rank on the bytes of its own segments: the result and the effect of each. (own choice)
use Rattle.std.specs.Prelude.{length, Option, Some, Result, Ok}
use Rattle.gaspi_types.specs.Checks.{◌>>=◌}
use Rattle.gaspi_types.specs.SegmentBytes.{range_of, with_range}
use Rattle.gaspi_types.specs.SegmentTables.{own_range_checks}
use Rattle.gaspi_types.specs.declared.calls.memory.Store as store
use Rattle.gaspi_types.specs.declared.calls.memory.Load as load
use Rattle.gaspi_types.specs.declared.replies.Refusal.{Refusal}
use Rattle.gaspi_types.specs.declared.replies.Reply.{Reply}
use Rattle.gaspi_types.specs.declared.replies.Reply.TheVariants as replies
use Rattle.gaspi_model.specs.Memories.{bytes_of, with_bytes}
use Rattle.gaspi_model.specs.declared.states.Posts.{Posts}
use Rattle.gaspi_model.specs.declared.states.Memory.{Memory}

-- the result of a store
abbrev pub store_result : Posts → store.Store → Result (Option Reply) Refusal
store_result posts call = do
  fits ← own_range_checks posts.segments.own call.seg call.offset (length call.bytes)
  Ok (Some replies.Done)

-- the memory after it
abbrev pub store_effect : Memory → store.Store → Memory
store_effect memory call = with_bytes memory call.seg (with_range (bytes_of memory call.seg) call.offset call.bytes)

-- the result of a load: the bytes of its range
abbrev pub load_result : Posts → Memory → load.Load → Result (Option Reply) Refusal
load_result posts memory call = do
  fits ← own_range_checks posts.segments.own call.seg call.offset call.size
  Ok (Some (replies.Bytes (range_of (bytes_of memory call.seg) call.offset call.size)))
