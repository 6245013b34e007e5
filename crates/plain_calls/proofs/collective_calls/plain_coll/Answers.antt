use Rattle.plain_calls.proofs.collective_calls.plain_coll.Goals as goal

pub returns-in-Create : goal.returns-in-Create
returns-in-Create c = λ small. rw c.in-Create.is (c.create_coll.ensures c.args.members)
