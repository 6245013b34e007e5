use Rattle.std.proofs.Common.{rules, arith}
use Rattle.commit_table.proofs.History.{look_allowed}
use Rattle.commit_table.proofs.steps.look_counted.Goals as goal

pub load-requires : goal.load-requires
load-requires g c = let start = c.args.board.now.key.start in (
  search rules,
  omega (arith, c.requires.size.0),
  look_allowed g.M.Sharded.machine g.M.Sharded.lawful start c.args.board.now.key.passes _ _ g.N.PassCount.passes c.args.seat.now.me c.requires.ready c.requires.count,
)
