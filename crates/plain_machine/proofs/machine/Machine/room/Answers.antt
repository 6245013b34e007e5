use Rattle.std.proofs.Common.{arith}
use Rattle.plain_machine.specs.Machine.{state_in}
use Rattle.plain_machine.proofs.Running.{IsTaken, used_at}
use Rattle.plain_machine.proofs.machine.Machine.room.Goals as goal

pub overflow_sub-result : goal.overflow_sub-result
overflow_sub-result c = rw (c.from-2.ensures, c.from.ensures) (used_at _ _ _ _ _ c.self.invariant.0 c.at.ensures).within

pub returns : goal.returns
returns c =
    let taken : IsTaken (state_in c.self.inside.ranks c.self.inside.memories) c.index.result c.at.result.now =
    used_at _ _ _ _ _ c.self.invariant.0 c.at.ensures in
    let within = taken.within in
    let value = taken.value in
    rw (← c.self.view_is, c.from.ensures, c.from-2.ensures, ← c.index.ensures.value)
    omega (arith, within, value)
