use Rattle.rank_node.proofs.LentPuts.{put-single, put-grouped}
use Rattle.rank_node.proofs.lent.Lent.put.Goals as goal

pub put_between-requires : goal.put_between-requires
put_between-requires c = put-single _ _ _ c.args.t (rw c.in-Some.is at c.requires)

pub put_alone-requires : goal.put_alone-requires
put_alone-requires c = put-single _ _ _ c.args.t (rw c.in-None.is at c.requires)

pub returns-in-Some-clause-left : goal.returns-in-Some-clause-left
returns-in-Some-clause-left c = λ s after outcome w first.
    rw c.in-Some.is (put-grouped s after outcome _ _ _ _ _ c.args.place c.args.t (rw c.in-Some.is at w) (λ single. c.put_between.ensures s after outcome single first))

pub returns-in-None-clause-left : goal.returns-in-None-clause-left
returns-in-None-clause-left c = λ s after outcome w first.
    rw c.in-None.is (put-grouped s after outcome _ _ _ _ _ c.args.place c.args.t (rw c.in-None.is at w) (λ single. c.put_alone.ensures s after outcome single first))
