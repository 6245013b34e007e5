-- Made segments. (GASPI: segments)
use Rattle.std.specs.Prelude.{ℕ, Some, slice_set}
use Rattle.gaspi_types.specs.Segments.{new_segment}
use Rattle.gaspi_types.specs.SegmentTables.{next_generation}
use Rattle.gaspi_types.specs.declared.shapes.Limits.{Limits}
use Rattle.gaspi_model.specs.State.{new_slots}
use Rattle.gaspi_model.specs.declared.states.Posts.{Posts}
use Rattle.rank_node.specs.Values.{MemoryValue}
use Rattle.rank_node.specs.declared.making.MadeSegment.{MadeSegment}

-- it has the next generation of its id, all bytes and slots zero
abbrev pub made_segment : Limits → Posts → ℕ → ℕ → MadeSegment
made_segment limits posts seg size = record { segment = new_segment (next_generation posts.segments.next_generations seg) size; slots = new_slots limits.notes }

-- the memory with a made segment under an id
abbrev pub with_made : MemoryValue → ℕ → MadeSegment → MemoryValue
with_made m seg made = record m {
  memory = record m.memory { segments = slice_set m.memory.segments seg (Some made.segment); slots = slice_set m.memory.slots seg (Some made.slots) };
}
