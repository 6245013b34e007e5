use Rattle.std.proofs.Common.{None, ◌∙◌, sym, refl}
use Rattle.plain_calls.specs.Looks.{made_of}
use Rattle.plain_machine.specs.Machine.{state_in, take_event}
use Rattle.plain_machine.specs.declared.nonempty_lanes.LaneId.{LaneId}
use Rattle.plain_machine.proofs.Renamed.{quiet_steps}
use Rattle.plain_machine.proofs.steps.make.Goals as goal

pub returns-clause-named : goal.returns-clause-named
returns-clause-named c =
    let id : LaneId = record { origin = c.args.transfer.now.origin; queue = c.args.transfer.now.queue; target = c.args.transfer.now.target } in
    c.requires.named
    ∙ sym (quiet_steps (state_in c.args.ranks.now c.args.memories.now) (state_in c.step_take.new.ranks c.args.memories.now) (take_event (state_in c.args.ranks.now c.args.memories.now) id c.args.transfer.now.number None)
    (made_of c.step_take.result) c.requires.sound c.requires.fitting refl refl c.step_take.ensures.step)
