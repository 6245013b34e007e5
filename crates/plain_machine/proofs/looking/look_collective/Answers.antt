use Rattle.plain_machine.specs.Machine.{state_in}
use Rattle.plain_machine.proofs.Joining.{group_sound, contributions_sound}
use Rattle.plain_machine.proofs.looking.look_collective.Goals as goal

pub collective_look-requires-clause-group : goal.collective_look-requires-clause-group
collective_look-requires-clause-group c = rw c.group_in.ensures (group_sound (state_in c.args.ranks.now c.requires.whole.0) c.args.id c.requires.whole.1.sound)

pub collective_look-requires-clause-part : goal.collective_look-requires-clause-part
collective_look-requires-clause-part c =
    let there = rw c.index.ensures.value at c.at.ensures in
    rw c.group_in.ensures (contributions_sound (state_in c.args.ranks.now c.requires.whole.0) c.args.id c.args.caller.now.rank c.at.result.now c.requires.whole.1.sound there)
