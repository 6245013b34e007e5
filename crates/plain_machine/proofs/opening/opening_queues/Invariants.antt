use Rattle.std.proofs.Common.{◌≡◌, replicate}
use Rattle.gaspi_model.specs.State.{opening_queue}
use Rattle.plain_machine.proofs.opening.opening_queues.Given as goal

abbrev pub invariant-loop-queue : goal.invariant-loop-queue
invariant-loop-queue l = l.rows ≡ replicate l._queue (opening_queue l.ranks)
