use Rattle.post_queue.proofs.target_sets.set_member.Goals as goal

pub returns-clause-here : goal.returns-clause-here
returns-clause-here c = rw (← c.number.ensures.value) c.set_number.ensures.here

pub returns-clause-others : goal.returns-clause-others
returns-clause-others c = λ other within apart. c.set_number.ensures.others other within (rw c.number.ensures.value apart)
