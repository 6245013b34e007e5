use Rattle.std.proofs.Common.{rules, arith}
use Rattle.commit_table.proofs.Joining.{keep_allowed}
use Rattle.commit_table.proofs.seats.split_tally.Goals as goal

pub split_seat-requires : goal.split_seat-requires
split_seat-requires g c = let start = c.args.board.now.key.start in let n = c.args.board.now.key.passes in (
  search rules,
  omega (arith, c.requires.size.0),
  keep_allowed g.M.Sharded.machine g.M.Sharded.lawful start n _ c.requires.ready.0 c.args.seat.now.me.0.joined_passes c.args.seat.now.me c.requires.ready.1,
)
