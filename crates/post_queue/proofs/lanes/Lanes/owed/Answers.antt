use Rattle.std.proofs.Common.{List, sym, ◌∙◌, ap}
use Rattle.std.specs.List.{sum_by}
use Rattle.std.proofs.lemmas.List.{take_all}
use Rattle.gaspi_types.specs.Queues.{queue_owed}
use Rattle.post_queue.specs.QueueStates.{QueueState}
use Rattle.post_queue.specs.LanesStates.{LanesState}
use Rattle.post_queue.proofs.Queues.{owed-sum}
use Rattle.post_queue.proofs.lanes.Lanes.owed.Goals as goal

pub returns : goal.returns
returns c =
    let all = take_all c.loop-rings.rings-index c.as_slice-rings-items.result.now c.loop-rings-test.false in
    c.loop-rings.invariant.sum
    ∙ (ap (λ (qs : List QueueState). sum_by (λ (q : QueueState). queue_owed q.queue) qs) (all ∙ c.as_slice-rings-items.ensures)
    ∙ (sym (owed-sum c.self.inside.queues)
    ∙ ap (λ (s : LanesState). sum_by queue_owed s.queues) c.self.view_is))
