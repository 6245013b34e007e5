-- A made segment, which is in no table yet.
use Rattle.gaspi_types.specs.Segments.{new_segment}
use Rattle.gaspi_types.specs.SegmentTables.{next_generation}
use Rattle.gaspi_types.specs.declared.calls.segments.Alloc.{Alloc}
use Rattle.gaspi_types.specs.declared.shapes.Limits.{Limits}
use Rattle.gaspi_model.specs.State.{new_slots}
use Rattle.gaspi_model.specs.declared.states.Posts.{Posts}
use Rattle.plain_calls.specs.declared.segment_calls.MadeSegment.{MadeSegment}

-- it has the next generation of its id, all bytes and slots zero
abbrev pub made_segment : Limits → Posts → Alloc → MadeSegment
made_segment limits posts call = record { segment = new_segment (next_generation posts.segments.next_generations call.seg) call.size; slots = new_slots limits.notes }
