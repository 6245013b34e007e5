use Rattle.std.proofs.Common.{arith}
use Rattle.collective_engine.proofs.Answering.{joined-one, leaves, left-stands}
use Rattle.collective_engine.proofs.rounds.Rounds.leave.Goals as goal

pub leave-requires-clause-joined : goal.leave-requires-clause-joined
leave-requires-clause-joined c =
    let place = c.index.ensures.value in
    rw place (joined-one c.self.inside c.args.self.now c.self.view_is c.self.invariant c.args.rank (omega (arith, c.index.ensures.bound)) c.requires.member c.requires.full)

pub invariant_of-self : goal.invariant_of-self
invariant_of-self c =
    let place = c.index.ensures.value in
    leaves c.self.inside c.args.self.now c.self.view_is c.self.invariant c.args.rank (omega (arith, c.index.ensures.bound)) _ c.requires.member c.requires.full (rw place at c.leave.ensures)

pub returns : goal.returns
returns c =
    let place = c.index.ensures.value in
    left-stands c.self.inside c.args.self.now c.self.view_is c.self.invariant c.args.rank (omega (arith, c.index.ensures.bound)) _ c.requires.member c.requires.full (rw place at c.leave.ensures)
