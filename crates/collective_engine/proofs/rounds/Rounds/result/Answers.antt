use Rattle.std.proofs.Common.{◌∙◌, ℕ, Some, sym, ap, subst, arith}
use Rattle.std.specs.List.{AllByRecursion}
use Rattle.gaspi_types.specs.declared.collectives.Coll.{Coll}
use Rattle.collective_engine.specs.KeptContributions.{GivesNumbers}
use Rattle.collective_engine.specs.RoundBuffers.{completed_by, contribution_by}
use Rattle.collective_engine.proofs.Answering.{gives, folds}
use Rattle.collective_engine.proofs.rounds.Rounds.result.Goals as goal

pub reduction_of-requires-clause-given : goal.reduction_of-requires-clause-given
reduction_of-requires-clause-given c =
    let place = c.index.ensures.value in
    subst (λ (k : ℕ). AllByRecursion (λ m. GivesNumbers c.in-Some-Allreduce.num_type c.in-Some-Allreduce.count (contribution_by c.self.inside.buffers (completed_by c.self.inside.buffers k) m)) c.ranks-members.result.now) (sym place)
    (gives c.self.inside c.args.self.now c.self.view_is c.self.invariant c.args.rank (omega (arith, c.index.ensures.bound)) c.ranks-members.result.now c.own_coll.result c.in-Some-Allreduce.op c.in-Some-Allreduce.num_type c.in-Some-Allreduce.count
    c.requires.member c.requires.full c.ranks-members.ensures.ranks c.own_coll.ensures (c.in-Some-Allreduce.is ∙ ap (λ (coll : Coll). Some coll) c.in-Some-Allreduce.field-0-is))

pub returns-clause-numbers : goal.returns-clause-numbers
returns-clause-numbers c =
    let place = c.index.ensures.value in
    folds c.self.inside c.args.self.now c.self.view_is c.self.invariant c.args.rank (omega (arith, c.index.ensures.bound)) c.reduction_of.result c.ranks-members.result.now c.own_coll.result c.in-Some-Allreduce.op c.in-Some-Allreduce.num_type c.in-Some-Allreduce.count
    c.requires.member c.ranks-members.ensures.ranks c.own_coll.ensures (c.in-Some-Allreduce.is ∙ ap (λ (coll : Coll). Some coll) c.in-Some-Allreduce.field-0-is) (rw place at c.reduction_of.ensures.numbers)
