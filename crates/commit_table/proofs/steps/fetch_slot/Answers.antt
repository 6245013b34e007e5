use Rattle.std.proofs.Common.{rules, arith}
use Rattle.commit_table.proofs.Holding.{fetch_allowed}
use Rattle.commit_table.proofs.steps.fetch_slot.Goals as goal

pub load-requires : goal.load-requires
load-requires g c = let start = c.args.board.now.key.start in (
  search rules,
  omega (arith, c.requires.size.0),
  fetch_allowed g.M.Sharded.machine g.M.Sharded.lawful start c.args.board.now.key.passes _ _ c.args.shard c.args.seat.now.me c.requires.ready c.requires.held.0 c.requires.held.1,
)
