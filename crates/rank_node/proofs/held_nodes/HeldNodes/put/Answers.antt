use Rattle.std.proofs.Common.{refl}
use Rattle.rank_node.specs.HeldNodes.{group_of}
use Rattle.rank_node.specs.Transfers.{put_of}
use Rattle.rank_node.proofs.HeldParts.{rank-left, no_rank-left, not-rank, same-kind}
use Rattle.rank_node.proofs.LentPuts.{put-grouped}
use Rattle.rank_node.proofs.held_nodes.HeldNodes.put.Goals as goal

pub returns-in-Rank-clause-left : goal.returns-in-Rank-clause-left
returns-in-Rank-clause-left c = λ s after outcome on first.
    rank-left s after (put_of c.args.t outcome) c.args.place c.args.self.now.own.value c.deref_mut.result.now c.put_between.new.own c.args.self.now.other c.in-Rank.peer c.deref_mut-in-Rank.result.now c.put_between.new.peer c.deref_mut.ensures.value c.deref_mut-in-Rank.ensures.value c.in-Rank.is
    (λ here. c.put_between.ensures s after outcome here (rw c.deref_mut.ensures.value first)) on

pub returns-in_default : goal.returns-in_default
returns-in_default c = record {
  kind = same-kind c.args.self.now.other;
  group_kept = refl;
  left = λ s after outcome on first.
      no_rank-left s after (put_of c.args.t outcome) c.args.place c.args.self.now.own.value c.deref_mut-in_default.result.now c.put_alone.new.own c.args.self.now.other c.deref_mut-in_default.ensures.value (not-rank c.args.self.now.other c.in_default.not-Rank)
      (λ here. put-grouped s after outcome _ _ _ _ (group_of c.args.self.now.other) c.args.place c.args.t here (λ single. c.put_alone.ensures s after outcome single (rw c.deref_mut-in_default.ensures.value first))) on;
}
