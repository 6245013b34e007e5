use Rattle.std.proofs.Common.{◌≡◌, ◌∙◌, sym, arith, rules}
use Rattle.collective_engine.proofs.Answering.{checks, joins, joined-stands}
use Rattle.collective_engine.proofs.rounds.Rounds.join.Goals as goal

pub returns-in_err-check-clause-answer : goal.returns-in_err-check-clause-answer
returns-in_err-check-clause-answer c =
    let place = c.index-place.ensures.value in
    λ g stands. let is = checks c.self.inside c.args.self.now c.self.view_is c.self.invariant c.args.rank (omega (arith, c.index-place.ensures.bound)) c.args.args.now.coll c.check.result _ c.requires.rank c.ranks.ensures.ranks (rw place at c.check.ensures.answer) g stands in
    let same : c.from_residual.result ≡ c.check.result = search rules in
    same ∙ is

pub invariant_of-self : goal.invariant_of-self
invariant_of-self c =
    let place = c.index-place.ensures.value in
    joins c.self.inside c.args.self.now c.self.view_is c.self.invariant c.args.rank (omega (arith, c.index-place.ensures.bound)) (record { args = c.args.args.now; generation = c.args.generation }) _ _ c.ranks.result.now _ c.requires.rank c.requires.values c.fix.ensures.members c.fix.ensures.ranks c.contribute.ensures c.ranks.ensures.ranks (rw place at c.in_ok-check.ensures.equal)

pub returns-clause-answer : goal.returns-clause-answer
returns-clause-answer c =
    let place = c.index-place.ensures.value in
    λ g stands. let is = checks c.self.inside c.args.self.now c.self.view_is c.self.invariant c.args.rank (omega (arith, c.index-place.ensures.bound)) c.args.args.now.coll c.check.result _ c.requires.rank c.ranks.ensures.ranks (rw place at c.check.ensures.answer) g stands in sym c.in_ok-check.was ∙ is

pub returns-clause-joined : goal.returns-clause-joined
returns-clause-joined c =
    joined-stands c.self.inside c.args.self.now c.self.view_is c.self.invariant c.args.rank (omega (arith, c.index-place.ensures.bound)) (record { args = c.args.args.now; generation = c.args.generation }) _ _ c.fix.ensures.members c.contribute.ensures
