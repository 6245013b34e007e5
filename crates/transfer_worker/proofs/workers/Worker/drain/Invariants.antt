use Rattle.std.proofs.Common.{◌≡◌}
use Rattle.commit_table.specs.Calls.{HoldsNone}
use Rattle.transfer_worker.specs.QuietRanks.{KnowsStill}
use Rattle.transfer_worker.specs.Turns.{IsExtended}
use Rattle.transfer_worker.proofs.InOrder.{IsTurning}
use Rattle.transfer_worker.proofs.workers.Worker.drain.Given as goal

abbrev pub invariant-loop : goal.invariant-loop
invariant-loop g l =
    ((goal.iterator-loop g).can_next l.iterator' × (goal.iterator-loop g).is_finite l.iterator')
    × (l.self.world.now ≡ l.fn.self.world.now) × (l.self.pass.ghost_name ≡ l.fn.self.pass.ghost_name) × (l.self.pass.now.table ≡ l.fn.self.pass.now.table) × HoldsNone l.self.pass.now.known × IsExtended l.fn.self.pass.now.known l.self.pass.now.known
    × IsTurning l.fn.self.world.now.start.shape l.fn.self.turns l.fn.self.pass.now.known l.self.turns l.self.pass.now.known
    × KnowsStill l.fn.self.world.now.start.shape l.fn.self.pass.now.known l.quiet.counts l.self.pass.now.known
