use Rattle.std.proofs.Common.{◌≡◌}
use Rattle.commit_table.specs.Calls.{HoldsNone}
use Rattle.transfer_worker.specs.Order.{HaveTriedOthers}
use Rattle.transfer_worker.specs.QuietRanks.{TellsStill}
use Rattle.transfer_worker.specs.Turns.{IsExtended}
use Rattle.transfer_worker.proofs.tries.try_others.Given as goal

abbrev pub invariant-loop-next : goal.invariant-loop-next
invariant-loop-next l =
    (l.pass.table ≡ l.fn.pass.table) × HoldsNone l.pass.known × IsExtended l.fn.pass.known l.pass.known
    × TellsStill l.world.start.shape (λ begun. HaveTriedOthers l.world.start.shape begun l.first l.next l.fn.pass.known l.so_far l.pass.known) l.fn.quiet.counts l.fn.pass.known l.quiet.counts l.pass.known
