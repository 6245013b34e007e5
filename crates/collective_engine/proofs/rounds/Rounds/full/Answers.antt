use Rattle.std.proofs.Common.{arith}
use Rattle.collective_engine.proofs.Answering.{fulls}
use Rattle.collective_engine.proofs.rounds.Rounds.full.Goals as goal

pub returns-clause-group : goal.returns-clause-group
returns-clause-group c =
    let place = c.index.ensures.value in
    fulls c.self.inside c.args.self.now c.self.view_is c.self.invariant c.args.rank (omega (arith, c.index.ensures.bound)) c.is_full.result _ c.ranks.ensures.ranks
    (rw place at c.is_full.ensures)
