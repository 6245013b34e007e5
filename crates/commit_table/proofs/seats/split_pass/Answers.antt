use Rattle.std.proofs.Common.{rules, arith}
use Rattle.commit_table.proofs.Joining.{pass_allowed}
use Rattle.commit_table.proofs.seats.split_pass.Goals as goal

pub split_seat-requires : goal.split_seat-requires
split_seat-requires g c = let start = c.args.board.now.key.start in let n = c.args.board.now.key.passes in (
  search rules,
  omega (arith, c.requires.size.0),
  pass_allowed g.M.Sharded.machine g.M.Sharded.lawful start n _ c.args.party c.args.seat.now.me c.requires.ready c.requires.party,
)
