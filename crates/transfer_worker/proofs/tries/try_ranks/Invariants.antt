use Rattle.transfer_worker.proofs.TriedRanks.{IsRound}
use Rattle.transfer_worker.proofs.tries.try_ranks.Given as goal

abbrev pub invariant-loop-step : goal.invariant-loop-step
invariant-loop-step l = IsRound l.world.start.shape l.first l.ranks l.step l.fn.pass l.so_far l.pass
