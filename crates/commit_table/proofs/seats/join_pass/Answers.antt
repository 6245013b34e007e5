use Rattle.std.proofs.Common.{rules, arith}
use Rattle.commit_table.proofs.Joining.{gather_allowed}
use Rattle.commit_table.proofs.seats.join_pass.Goals as goal

pub join_seat-requires : goal.join_seat-requires
join_seat-requires g c = let start = c.args.board.now.key.start in let n = c.args.board.now.key.passes in (
  search rules,
  search rules,
  search rules,
  omega (arith, c.requires.size.0),
  gather_allowed g.M.Sharded.machine g.M.Sharded.lawful start n _ _ c.args.seat.now.me.0.known.seen c.args.seat.now.me.0.joined_passes c.args.seat.now.me c.args.pass.me c.requires.ready.0 c.requires.ready.1 c.requires.party.0 c.requires.party.1 c.requires.free,
)
