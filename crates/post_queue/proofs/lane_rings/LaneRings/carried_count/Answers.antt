use Rattle.std.proofs.Common.{sym, ◌∙◌}
use Rattle.post_queue.proofs.Rings.{count-taken}
use Rattle.post_queue.proofs.lane_rings.LaneRings.carried_count.Goals as goal

pub returns : goal.returns
returns c = c.len.ensures.len ∙ sym (count-taken c.self.invariant c.self.view_is c.requires)
