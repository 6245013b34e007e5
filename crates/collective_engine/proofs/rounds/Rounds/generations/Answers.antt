use Rattle.std.proofs.Common.{arith}
use Rattle.collective_engine.proofs.Answering.{makes}
use Rattle.collective_engine.proofs.rounds.Rounds.generations.Goals as goal

pub returns : goal.returns
returns c =
    let place = c.index.ensures.value in
    makes c.self.inside c.args.self.now c.self.view_is c.self.invariant c.args.rank (omega (arith, c.index.ensures.bound)) c.generations.result _ c.requires c.ranks.ensures.ranks
    (rw place at c.generations.ensures)
