use Rattle.std.proofs.Common.{rules, arith, refl}
use Rattle.commit_table.proofs.Holding.{take_allowed}
use Rattle.commit_table.proofs.steps.take_word.Goals as goal

pub compare_exchange-requires : goal.compare_exchange-requires
compare_exchange-requires g c = let start = c.args.board.now.key.start in (
  search rules,
  omega (arith, c.requires.size.0),
  take_allowed g.M.Sharded.machine g.M.Sharded.lawful start c.args.board.now.key.passes _ _ c.args.shard c.args.seat.now.me c.requires.ready c.requires.party.0 c.requires.shard c.requires.party.1 c.requires.free,
)

pub returns-clause-told : goal.returns-clause-told
returns-clause-told g c = c.compare_exchange.ensures.2 c.args.shard refl
