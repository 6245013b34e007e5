use Rattle.std.proofs.Common.{◌≡◌, ◌∙◌, Ok, Some, ap, sym}
use Rattle.gaspi_types.specs.CallRows.{row_of}
use Rattle.gaspi_types.specs.declared.call_rows.CallRow.{CallRow}
use Rattle.gaspi_types.specs.declared.events.Event.TheVariants.{Called}
use Rattle.gaspi_model.specs.Calls.{recorded_reply}
use Rattle.plain_machine.specs.Machine.{state_in}
use Rattle.plain_machine.proofs.Dropped.{purging}
use Rattle.plain_machine.proofs.OnGroups.{on_group_quiet}
use Rattle.plain_machine.proofs.Recorded.{declared_there}
use Rattle.plain_machine.proofs.Renamed.{quiet_steps}
use Rattle.plain_machine.proofs.looking.record_with_lanes.Goals as goal

pub returns-clause-named : goal.returns-clause-named
returns-clause-named c =
    c.remove_queue_lanes.ensures
    ∙ (rw c.requires.machine.named
    (sym (purging (state_in c.args.ranks.now c.args.memories.now) (state_in c.record_plain.new.ranks c.record_plain.new.memories) c.args.invocation.now.caller c.args.invocation.now.call.now (recorded_reply c.args.look.now.ready) c.in-Some-look_purge.queue
    (sym c.look_purge.ensures ∙ c.in-Some-look_purge.is) c.in_ok-record_plain.ensures.step)))

pub record_collective-requires-clause-there : goal.record_collective-requires-clause-there
record_collective-requires-clause-there c = (declared_there (state_in c.args.ranks.now c.args.memories.now) c.args.invocation.now.caller.rank c.args.invocation.now.caller.thread c.requires.found.declared).within

pub returns-in-Some-clause-named : goal.returns-in-Some-clause-named
returns-in-Some-clause-named c =
    let named : (row_of c.args.invocation.now.call.now).group ≡ Some c.in-Some.id = sym (ap (λ (r : CallRow). r.group) c.args.invocation.now.rowed) ∙ c.in-Some.is in
    let quiet = on_group_quiet c.args.invocation.now.caller c.args.invocation.now.call.now (recorded_reply c.args.look.now.ready) c.in-Some.id named in
    c.requires.machine.named
    ∙ sym (quiet_steps (state_in c.args.ranks.now c.args.memories.now) (state_in c.record_collective.new.ranks c.args.memories.now) (Called c.args.invocation.now.caller c.args.invocation.now.call.now (recorded_reply c.args.look.now.ready)) (Ok tt)
    c.requires.machine.sound c.requires.machine.fitting quiet.0 quiet.1 (rw c.replace-ready.ensures.value at (c.record_collective.ensures.step c.args.memories.now)))
