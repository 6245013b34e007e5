use Rattle.std.proofs.Common.{rules, arith}
use Rattle.commit_table.proofs.History.{add_allowed}
use Rattle.commit_table.proofs.Looking.{commits_seen}
use Rattle.commit_table.proofs.steps.add_told.Goals as goal

pub fetch_add-requires : goal.fetch_add-requires
fetch_add-requires g c = let start = c.args.board.now.key.start in (
  search rules,
  omega (arith, c.requires.size.0),
  add_allowed g.M.Sharded.machine g.M.Sharded.lawful start c.args.board.now.key.passes _ _ c.args.seat.now.me g.J.CommittedEvent.told c.args.event.now c.requires.ready c.requires.told c.requires.party.0 c.requires.party.1 c.requires.may.party c.requires.may.legal c.requires.may.held,
)

pub returns-clause-told : goal.returns-clause-told
returns-clause-told g c =
    let t = c.fetch_add.ensures.2 in
    commits_seen g.M.Sharded.machine g.J.CommittedEvent.told c.args.event.now c.args.seat.now.me.0.known c.fetch_add.result c.fetch_add.new.seat.me c.requires.told t.0 t.1 t.2
