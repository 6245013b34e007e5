use Rattle.std.proofs.Common.{refl}
use Rattle.commit_table.proofs.Slots.{rested}
use Rattle.commit_table.proofs.Looking.{committed_of}
use Rattle.commit_table.proofs.shard_calls.add_event.Goals as goal

pub returns-clause-rest : goal.returns-clause-rest
returns-clause-rest g c = let t = c.add_told.ensures.told in (rested c.add_told.new.seat.me t.1 t.2).0

pub returns-clause-told : goal.returns-clause-told
returns-clause-told g c = committed_of g.M.Sharded.machine c.args.board.now.key.start c.args.seat.now.me.0.known c.args.seat.now.me.0.known c.args.event.now c.add_told.result c.add_told.new.seat.me refl c.requires.begun c.add_told.ensures.told
