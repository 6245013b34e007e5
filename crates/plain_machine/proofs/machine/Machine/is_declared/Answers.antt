use Rattle.plain_machine.proofs.machine.Machine.is_declared.Goals as goal

pub returns : goal.returns
returns c = rw (← c.self.view_is) (c.has_section.ensures c.self.inside.memories)
