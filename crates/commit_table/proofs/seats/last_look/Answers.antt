use Rattle.std.proofs.Common.{rules, arith}
use Rattle.commit_table.proofs.Joining.{last_allowed}
use Rattle.commit_table.proofs.seats.last_look.Goals as goal

pub load-requires : goal.load-requires
load-requires g c = let start = c.args.board.now.key.start in let n = c.args.board.now.key.passes in (
  search rules,
  omega (arith, c.requires.size.0),
  last_allowed g.M.Sharded.machine g.M.Sharded.lawful start n _ _ c.args.seat.now.me c.args.seat.now.me.0.known.seen c.args.seat.now.me.0.joined_passes c.requires.ready c.requires.all,
)
