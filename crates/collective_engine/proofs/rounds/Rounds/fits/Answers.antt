use Rattle.std.proofs.Common.{arith}
use Rattle.collective_engine.proofs.Answering.{checks}
use Rattle.collective_engine.proofs.rounds.Rounds.fits.Goals as goal

pub returns : goal.returns
returns c =
    let place = c.index.ensures.value in
    checks c.self.inside c.args.self.now c.self.view_is c.self.invariant c.args.rank (omega (arith, c.index.ensures.bound)) c.args.args.now.coll c.check.result _ c.requires c.ranks.ensures.ranks
    (rw place at c.check.ensures.answer)
