-- The calls on notification slots: the result and the effect of each. (GASPI: notifications)
use Rattle.std.specs.Prelude.{nat_lt, Option, Some, Result, Ok, slice_set, slice_index}
use Rattle.std.specs.Option.{option_map}
use Rattle.gaspi_types.specs.Checks.{◌>>=◌, check, ok_or}
use Rattle.gaspi_types.specs.SegmentTables.{extent_in}
use Rattle.gaspi_types.specs.Slots.{is_slot_range, first_set}
use Rattle.gaspi_types.specs.declared.calls.notifications.Waitsome as waitsome
use Rattle.gaspi_types.specs.declared.calls.notifications.Reset as reset
use Rattle.gaspi_types.specs.declared.shapes.Limits.{Limits}
use Rattle.gaspi_types.specs.declared.replies.Refusal.{Refusal}
use Rattle.gaspi_types.specs.declared.replies.Refusal.TheVariants.{NoSegment, BadNote}
use Rattle.gaspi_types.specs.declared.replies.Reply.{Reply}
use Rattle.gaspi_types.specs.declared.replies.Reply.TheVariants as replies
use Rattle.gaspi_model.specs.Memories.{slots_of, with_slots}
use Rattle.gaspi_model.specs.declared.states.Posts.{Posts}
use Rattle.gaspi_model.specs.declared.states.Memory.{Memory}

-- ready where a slot of the range is set: the least such (notify_waitsome)
abbrev pub waitsome_result : Limits → Posts → Memory → waitsome.Waitsome → Result (Option Reply) Refusal
waitsome_result limits posts memory call = do
  mine ← ok_or (extent_in posts.segments.own call.seg) NoSegment
  noted ← check (is_slot_range call.begin call.num limits.notes) BadNote
  Ok (option_map replies.Id (first_set (slots_of memory call.seg) call.begin call.num))

-- the value of a slot (notify_reset)
abbrev pub reset_result : Limits → Posts → Memory → reset.Reset → Result (Option Reply) Refusal
reset_result limits posts memory call = do
  mine ← ok_or (extent_in posts.segments.own call.seg) NoSegment
  noted ← check (nat_lt call.note limits.notes) BadNote
  Ok (Some (replies.Value (slice_index (slots_of memory call.seg) call.note)))

-- the memory after it: the slot is 0
abbrev pub reset_effect : Memory → reset.Reset → Memory
reset_effect memory call = with_slots memory call.seg (slice_set (slots_of memory call.seg) call.note 0)
