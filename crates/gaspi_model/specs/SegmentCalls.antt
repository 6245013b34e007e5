-- The calls of segments: the result and the effect of each. The lines of a result are in the order of its checks. (GASPI:
-- segments)
use Rattle.std.specs.Prelude.{ℕ, nat_lt, Option, None, Some, Result, Ok, slice_set}
use Rattle.gaspi_types.specs.Checks.{◌>>=◌, check, ok_or, err_if_some}
use Rattle.gaspi_types.specs.Queues.{user_of}
use Rattle.gaspi_types.specs.Segments.{new_segment}
use Rattle.gaspi_types.specs.SegmentTables.{extent_in, alloc_checks, next_generation}
use Rattle.gaspi_types.specs.SegmentTables as tables
use Rattle.gaspi_types.specs.declared.calls.segments.Alloc as alloc
use Rattle.gaspi_types.specs.declared.calls.segments.Register as register
use Rattle.gaspi_types.specs.declared.calls.segments.Delete as delete
use Rattle.gaspi_types.specs.declared.segments.Extent.{Extent}
use Rattle.gaspi_types.specs.declared.shapes.Limits.{Limits}
use Rattle.gaspi_types.specs.declared.replies.Refusal.{Refusal}
use Rattle.gaspi_types.specs.declared.replies.Refusal.TheVariants.{BadRank, NoSegment, SegmentBusy}
use Rattle.gaspi_types.specs.declared.replies.Reply.{Reply}
use Rattle.gaspi_types.specs.declared.replies.Reply.TheVariants as replies
use Rattle.gaspi_model.specs.State.{new_slots}
use Rattle.gaspi_model.specs.declared.states.Posts.{Posts}
use Rattle.gaspi_model.specs.declared.states.Memory.{Memory}

-- the result of an alloc (segment_alloc)
abbrev pub alloc_result : Posts → alloc.Alloc → Result (Option Reply) Refusal
alloc_result posts call = do
  fits ← alloc_checks posts.segments.own call.seg call.size
  Ok (Some replies.Done)

-- the posts with one own segment more, in the next generation of its id
abbrev pub with_own : Posts → ℕ → ℕ → Posts
with_own posts seg size = record posts { segments = tables.with_own posts.segments seg size }

-- the memory after it
abbrev pub alloc_effect : Limits → Posts → Memory → alloc.Alloc → Memory
alloc_effect limits posts memory call = record memory {
  segments = slice_set memory.segments call.seg (Some (new_segment (next_generation posts.segments.next_generations call.seg) call.size));
  slots = slice_set memory.slots call.seg (Some (new_slots limits.notes));
}

-- the result of a register (segment_register)
abbrev pub register_result : Limits → Posts → register.Register → Result (Option Reply) Refusal
register_result limits posts call = do
  ranked ← check (nat_lt call.rank limits.ranks) BadRank
  mine ← ok_or (extent_in posts.segments.own call.seg) NoSegment
  Ok (Some replies.Done)

-- the posts of a rank with which a segment of an owner is registered
abbrev pub with_known : ℕ → ℕ → Option Extent → Posts → Posts
with_known owner seg extent posts = record posts { segments = tables.with_known owner seg extent posts.segments }

-- no entry of the rank's own uses the segment (segment_delete)
abbrev pub delete_result : Posts → delete.Delete → Result (Option Reply) Refusal
delete_result posts call = do
  mine ← ok_or (extent_in posts.segments.own call.seg) NoSegment
  unused ← err_if_some (user_of posts.queues call.seg) SegmentBusy
  Ok (Some replies.Done)

-- the posts without an own segment
abbrev pub without_own : Posts → ℕ → Posts
without_own posts seg = record posts { segments = tables.without_own posts.segments seg }

-- the memory after it
abbrev pub delete_effect : Memory → delete.Delete → Memory
delete_effect memory call = record memory { segments = slice_set memory.segments call.seg None; slots = slice_set memory.slots call.seg None }
