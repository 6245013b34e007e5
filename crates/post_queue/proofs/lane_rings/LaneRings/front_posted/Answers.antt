use Rattle.std.proofs.Common.{sym, ◌∙◌}
use Rattle.post_queue.proofs.Rings.{first-waits}
use Rattle.post_queue.proofs.lane_rings.LaneRings.front_posted.Goals as goal

pub returns : goal.returns
returns c = c.front.ensures ∙ sym (first-waits c.self.invariant c.self.view_is)
