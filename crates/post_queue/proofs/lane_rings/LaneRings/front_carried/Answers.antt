use Rattle.std.proofs.Common.{sym, ◌∙◌}
use Rattle.post_queue.proofs.Rings.{first-taken, head-lent}
use Rattle.post_queue.proofs.lane_rings.LaneRings.front_carried.Goals as goal

pub returns-clause-first : goal.returns-clause-first
returns-clause-first c = c.front.ensures ∙ sym (first-taken c.self.invariant c.self.view_is c.requires)

pub returns-clause-head : goal.returns-clause-head
returns-clause-head c = head-lent c.self.inside.carried c.self.inside.posted c.front.result c.self.view_is c.front.ensures
