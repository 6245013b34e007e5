use Rattle.rank_node.proofs.rooms.reserve.Goals as goal

pub returns-in-None-false-clause-room : goal.returns-in-None-false-clause-room
returns-in-None-false-clause-room c = c.needs_its_row_alone.ensures c.args.posts.now c.args.memory.now
