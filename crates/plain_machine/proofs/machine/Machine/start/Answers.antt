use Rattle.std.proofs.Common.{◌∙◌}
use Rattle.std.specs.List.{range_with_len}
use Rattle.plain_machine.proofs.Counted.{counts_opening}
use Rattle.plain_machine.proofs.Opened.{fitting-opening, used-opening, nonempty-opening}
use Rattle.plain_machine.proofs.machine.Machine.start.Goals as goal

pub invariant_of-result : goal.invariant_of-result
invariant_of-result c = (
  rw (c.in_ok-all_posts.ensures, c.in_ok-all_memories.ensures, c.in_ok-all_used.ensures, c.in_ok-all_groups.ensures, c.limits-limits.ensures.value) (record {
    sound = c.soundness.ensures.opens c.args.shape.now c.limits-limits.ensures.world;
    fitting = fitting-opening c.args.shape.now c.limits-limits.ensures.world.limits;
    used = used-opening c.args.shape.now (range_with_len 0 c.args.shape.now.limits.ranks);
    named = c.new-2.ensures.items ∙ nonempty-opening c.args.shape.now (range_with_len 0 c.args.shape.now.limits.ranks);
  }),
  rw c.in_ok-opening_counts.ensures (counts_opening _ _ _),
)
