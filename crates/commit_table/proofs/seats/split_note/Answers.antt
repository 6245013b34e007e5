use Rattle.std.proofs.Common.{rules, arith}
use Rattle.commit_table.proofs.Joining.{note_allowed}
use Rattle.commit_table.proofs.seats.split_note.Goals as goal

pub split_seat-requires : goal.split_seat-requires
split_seat-requires g c = let start = c.args.board.now.key.start in let n = c.args.board.now.key.passes in (
  search rules,
  omega (arith, c.requires.size.0),
  note_allowed g.M.Sharded.machine g.M.Sharded.lawful start n _ c.args.seat.now.me c.requires.ready,
)
