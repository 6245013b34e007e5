-- The calls on a memory word of a segment of a rank: the result and the effect of each. The memory is that of the rank that the
-- call names. (GASPI: atomics)
use Rattle.std.specs.Prelude.{ℕ, nat_lt, Option, Some, Result, Ok}
use Rattle.gaspi_types.specs.Checks.{◌>>=◌, check, ok_or}
use Rattle.gaspi_types.specs.SegmentTables.{known_extent}
use Rattle.gaspi_types.specs.SegmentWords.{word_checks, word_at, with_sum, with_swap}
use Rattle.gaspi_types.specs.declared.calls.atomics.FetchAdd as fetch_add
use Rattle.gaspi_types.specs.declared.calls.atomics.CompareSwap as compare_swap
use Rattle.gaspi_types.specs.declared.shapes.Limits.{Limits}
use Rattle.gaspi_types.specs.declared.replies.Refusal.{Refusal}
use Rattle.gaspi_types.specs.declared.replies.Refusal.TheVariants.{BadRank, Unregistered}
use Rattle.gaspi_types.specs.declared.replies.Reply.{Reply}
use Rattle.gaspi_types.specs.declared.replies.Reply.TheVariants as replies
use Rattle.gaspi_model.specs.State.{segment_at}
use Rattle.gaspi_types.specs.Segments.{is_generation}
use Rattle.gaspi_model.specs.Memories.{bytes_of, with_bytes}
use Rattle.gaspi_model.specs.declared.states.Posts.{Posts}
use Rattle.gaspi_model.specs.declared.states.Memory.{Memory}

-- An atomic on the memory word at an offset of a segment of a rank. The caller's rank knows the segment, and it is there in the
-- generation that is known: the answer is the old memory word. (atomic_fetch_add, atomic_compare_swap)
abbrev pub word_result : Limits → ℕ → Posts → Memory → ℕ → ℕ → ℕ → Result (Option Reply) Refusal
word_result limits me posts memory seg offset rank = do
  ranked ← check (nat_lt rank limits.ranks) BadRank
  theirs ← ok_or (known_extent me posts.segments rank seg) Unregistered
  there ← check (is_generation theirs.generation (segment_at memory seg)) Unregistered
  fits ← word_checks theirs.size offset
  Ok (Some (replies.Value (word_at (bytes_of memory seg) offset)))

-- (atomic_fetch_add)
abbrev pub fetch_add_effect : Memory → fetch_add.FetchAdd → Memory
fetch_add_effect memory call = with_bytes memory call.seg (with_sum (bytes_of memory call.seg) call.offset call.value)

-- (atomic_compare_swap)
abbrev pub compare_swap_effect : Memory → compare_swap.CompareSwap → Memory
compare_swap_effect memory call = with_bytes memory call.seg (with_swap (bytes_of memory call.seg) call.offset call.comparator call.new)
