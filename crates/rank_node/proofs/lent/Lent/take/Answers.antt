use Rattle.rank_node.proofs.LentTakes.{take-single, take-grouped}
use Rattle.rank_node.proofs.lent.Lent.take.Goals as goal

pub take_between-requires : goal.take_between-requires
take_between-requires c = take-single _ _ _ c.args.t (rw c.in-Some.is at c.requires)

pub take_alone-requires : goal.take_alone-requires
take_alone-requires c = take-single _ _ _ c.args.t (rw c.in-None.is at c.requires)

pub returns-in-Some-clause-left : goal.returns-in-Some-clause-left
returns-in-Some-clause-left c = λ s after outcome w first.
    rw c.in-Some.is (take-grouped s after outcome _ _ _ _ _ c.args.place c.args.t (rw c.in-Some.is at w) (λ single. c.take_between.ensures.left s after outcome single first))

pub returns-in-None-clause-left : goal.returns-in-None-clause-left
returns-in-None-clause-left c = λ s after outcome w first.
    rw c.in-None.is (take-grouped s after outcome _ _ _ _ _ c.args.place c.args.t (rw c.in-None.is at w) (λ single. c.take_alone.ensures s after outcome single first))
