use Rattle.gaspi_types.specs.declared.events.Event.TheVariants.{Called}
use Rattle.gaspi_model.specs.Calls.{recorded_reply}
use Rattle.plain_calls.specs.Looks.{recorded_of}
use Rattle.plain_machine.proofs.Counted.{counts_recorded}
use Rattle.plain_machine.proofs.EventRooms.{room_of_step}
use Rattle.plain_machine.proofs.Recorded.{declared_there}
use Rattle.plain_machine.proofs.Running.{stepped}
use Rattle.plain_machine.specs.Machine.{state_in}
use Rattle.plain_machine.proofs.machine.Machine.record.Goals as goal

pub invariant_of-self : goal.invariant_of-self
invariant_of-self c = (
  stepped (state_in c.self.inside.ranks c.self.inside.memories) _ (Called c.args.invocation.now.caller c.args.invocation.now.call.now (recorded_reply c.args.look.now.ready)) _ _ _ _ (recorded_of c.record_with_lanes.result)
      c.soundness.ensures.steps c.self.invariant.0 c.record_with_lanes.ensures.step c.record_with_lanes.ensures.used c.record_with_lanes.ensures.named,
  rw c.forget_moved.ensures
      (counts_recorded c.self.inside.counts (state_in c.self.inside.ranks c.self.inside.memories) (state_in c.record_with_lanes.new.ranks c.record_with_lanes.new.memories) c.args.invocation.now.caller c.args.invocation.now.call.now (recorded_reply c.args.look.now.ready) (recorded_of c.record_with_lanes.result)
      c.soundness.ensures.limits c.self.invariant.1 c.record_with_lanes.ensures.step),
)

pub event_charge-charge-requires : goal.event_charge-charge-requires
event_charge-charge-requires c =
    (declared_there (state_in c.self.inside.ranks c.self.inside.memories) c.args.invocation.now.caller.rank c.args.invocation.now.caller.thread (rw (← c.self.view_is) at c.requires.declared)).within

pub record_with_lanes-requires-clause-found : goal.record_with_lanes-requires-clause-found
record_with_lanes-requires-clause-found c = record {
  declared = rw (← c.self.view_is) at c.requires.declared;
  finds = rw (← c.self.view_is) at c.requires.look;
  charge = c.event_charge-charge.ensures.charge;
  room = room_of_step (state_in c.self.inside.ranks c.self.inside.memories) c.args.invocation.now.caller c.args.invocation.now.call.now c.args.look.now.ready (rw (← c.self.view_is) at c.requires.steps);
}
