-- Where a rank does not lack room, what a call needs fits.
use Rattle.std.proofs.Common.{◌≡◌, ◌+◌, ◌≤◌, false, not}
use Rattle.std.proofs.lemmas.Bool.{ltb-false}
use Rattle.gaspi_types.specs.CallRows.{need_of}
use Rattle.gaspi_types.specs.declared.calls.Call.{Call}
use Rattle.gaspi_types.specs.declared.shapes.CallerId.{CallerId}
use Rattle.gaspi_model.specs.Step.{lacks_room_in, used_room, is_pending, is_active}
use Rattle.gaspi_model.specs.declared.states.State.{State}

pub has-room : (s : State) (c : CallerId) (call : Call) → lacks_room_in s c call ≡ false → used_room s c.rank + need_of call (is_pending s c.rank c.thread call) (not (is_active s c.rank c.thread)) ≤ s.limits.events
has-room s c call room = ltb-false s.limits.events _ room
