use Rattle.std.proofs.Common.{◌≡◌, ◌∙◌}
use Rattle.plain_machine.specs.Machine.{state_in}
use Rattle.plain_machine.proofs.Joining.{group_sound, contributions_sound}
use Rattle.plain_machine.proofs.looking.may_join_in.Goals as goal

pub may_join-requires-clause-group : goal.may_join-requires-clause-group
may_join-requires-clause-group c = rw c.group_in.ensures (group_sound (state_in c.args.ranks.now c.requires.whole.0) c.from-number.result c.requires.whole.1.sound)

pub may_join-requires-clause-part : goal.may_join-requires-clause-part
may_join-requires-clause-part c =
    let number : c.from-number.result ≡ c.args.joining.now.group = c.from-number.ensures ∙ c.number.ensures.value in
    let there = rw c.index.ensures.value at c.at.ensures in
    rw (c.group_in.ensures, number)
    (contributions_sound (state_in c.args.ranks.now c.requires.whole.0) c.args.joining.now.group c.args.joining.now.caller.rank c.at.result.now c.requires.whole.1.sound there)
