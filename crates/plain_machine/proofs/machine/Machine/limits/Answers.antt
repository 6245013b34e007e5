use Rattle.plain_machine.proofs.machine.Machine.limits.Goals as goal

pub returns-clause-sound : goal.returns-clause-sound
returns-clause-sound c = rw (← c.self.view_is) c.self.invariant.0.sound
