use Rattle.std.proofs.Common.{ℕ, sym, subst, arith}
use Rattle.gaspi_model.proofs.Sound.GroupEvents.{ranks-few}
use Rattle.rank_node.specs.Openings.{IsOpeningNode}
use Rattle.rank_node.specs.declared.nodes.Node.{Node}
use Rattle.gaspi_world.proofs.OpeningShards.{opens-posts, opens-memory}
use Rattle.gaspi_world.proofs.shards.rank_shard.Goals as goal

pub of-requires : goal.of-requires
of-requires c = (let few = ranks-few c.args.shape.now.limits c.limits.ensures.world.limits in omega arith)

pub returns : goal.returns
returns c =
    let ranked = subst (λ (k : ℕ). IsOpeningNode c.args.shape.now k c.in_ok-node.node) c.of.ensures c.in_ok-node.ensures in
    let node = subst (λ (n : Node). IsOpeningNode c.args.shape.now c.args.rank n) (sym c.in_ok-new.ensures.ok) ranked in
    record {
      rank = λ lt. (opens-posts c.args.shape.now c.args.rank c.in_ok-new.field-0.value lt node, opens-memory c.args.shape.now c.args.rank c.in_ok-new.field-0.value lt node);
      group = λ id is. absurd (omega arith);
    }
