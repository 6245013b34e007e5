use Rattle.std.proofs.Common.{ℕ, List, map, ◌∙◌, ap}
use Rattle.gaspi_types.specs.declared.entries.Queue.{Queue}
use Rattle.post_queue.specs.QueueStates.{QueueState, state_of}
use Rattle.post_queue.specs.LanesStates.{LanesState, queue_in, empty_queue}
use Rattle.post_queue.proofs.MovableLanes.{new-marks}
use Rattle.post_queue.proofs.Queues.{fresh-queues}
use Rattle.post_queue.proofs.lanes.Lanes.new.Goals as goal

pub invariant_of-result : goal.invariant_of-result
invariant_of-result c = new-marks c.args.depth c.args.ranks c.args.queues _ c.requires.depth c.requires.queues c.in_ok-empty_queues.ensures

pub returns : goal.returns
returns c =
    ap (λ (qs : List Queue). state c.args.depth c.args.ranks qs)
    (ap (λ (qs : List QueueState). map queue_in qs) c.in_ok-empty_queues.ensures ∙ fresh-queues c.args.queues (state_of c.args.depth (empty_queue c.args.ranks)))
  where
    state : ℕ → ℕ → List Queue → LanesState
    state depth ranks qs = record { depth = depth; ranks = ranks; next = 0; queues = qs }
