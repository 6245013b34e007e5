use Rattle.std.proofs.Common.{◌≡◌, [], Option, IfOk, subst, arith}
use Rattle.gaspi_types.specs.declared.events.Event.{Event}
use Rattle.gaspi_texts.proofs.Places.{called_of-slices}
use Rattle.gaspi_texts.proofs.event_reading.read_called.Goals as goal

pub returns : goal.returns
returns c =
    subst (λ (found : Option Event). IfOk c.read_call_and_reply.result (λ event. event ≡ found))
    (called_of-slices c.args.arguments.now (record { ref_ptr = (0, 0); now = [] }) c.in-Some.caller c.in-Some-place_of_arrow.place (omega arith) c.in-Some.ensures c.in-Some-place_of_arrow.ensures.value)
    c.read_call_and_reply.ensures
