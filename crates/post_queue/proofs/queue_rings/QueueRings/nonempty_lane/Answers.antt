use Rattle.std.proofs.Common.{◌∙◌, ap, arith}
use Rattle.std.proofs.lemmas.List.{length-map}
use Rattle.post_queue.specs.Nonempty.{nonempty_in}
use Rattle.post_queue.specs.QueueStates.{QueueState, entries_of}
use Rattle.post_queue.proofs.Nonempty.{least-nonempty}
use Rattle.post_queue.proofs.queue_rings.QueueRings.nonempty_lane.Goals as goal

pub returns : goal.returns
returns c =
    let few = c.self.invariant.queue.counts.few in
    let same = length-map c.self.inside.lanes entries_of in
    let first = c.first_member.ensures in
    least-nonempty c.self.inside.lanes c.self.inside.nonempty c.first_member.result (omega arith) c.self.invariant.nonempty first.bound first.member first.least first.none
    ∙ ap (λ (s : QueueState). nonempty_in s.queue) c.self.view_is
