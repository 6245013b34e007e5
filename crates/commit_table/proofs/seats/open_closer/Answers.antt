use Rattle.std.proofs.Common.{arith}
use Rattle.commit_table.proofs.Joining.{opens_enters}
use Rattle.commit_table.proofs.seats.open_closer.Goals as goal

pub load_new_seat-requires : goal.load_new_seat-requires
load_new_seat-requires g c = let start = c.args.board.now.key.start in let n = c.args.board.now.key.passes in (
  omega (arith, c.requires.size.0),
  opens_enters g.M.Sharded.machine g.M.Sharded.lawful start n _,
)
