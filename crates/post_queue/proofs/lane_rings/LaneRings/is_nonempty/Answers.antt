use Rattle.std.proofs.Common.{sym, ap, ◌∙◌, not}
use Rattle.post_queue.specs.Nonempty.{is_nonempty}
use Rattle.post_queue.specs.LaneStates.{LaneValue}
use Rattle.post_queue.proofs.Nonempty.{nonempty-front}
use Rattle.post_queue.proofs.lane_rings.LaneRings.is_nonempty.Goals as goal

pub returns-then-not-is_empty : goal.returns-then-not-is_empty
returns-then-not-is_empty c =
    rw c.if-not-is_empty.true (sym (nonempty-front c.self.inside.carried.items c.self.inside.posted.items (ap not (sym c.is_empty.ensures ∙ c.if-not-is_empty.true))) ∙ ap (λ (l : LaneValue). is_nonempty l.entries) c.self.view_is)
