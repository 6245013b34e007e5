use Rattle.std.proofs.Common.{[], sym, subst, arith}
use Rattle.gaspi_types.specs.World.{ShapeValue}
use Rattle.commit_table.specs.Calls.{AreShards}
use Rattle.gaspi_world.specs.WorldMachine.{world_machine}
use Rattle.gaspi_world.proofs.AllNumbers.{each-pass}
use Rattle.gaspi_world.proofs.FewCallers.{few-callers}
use Rattle.gaspi_world.proofs.worlds.World.start.Goals as goal

pub overflow_cast-count : goal.overflow_cast-count
overflow_cast-count c = (let few = few-callers c.args.shape.now c.limits.ensures.world in let is = c.callers.ensures in rw is (omega arith))

pub overflow_add-count : goal.overflow_add-count
overflow_add-count c = (let few = few-callers c.args.shape.now c.limits.ensures.world in let is = c.callers.ensures in let most = c.requires in rw is (omega arith))

pub returns-clause-callers : goal.returns-clause-callers
returns-clause-callers c = λ k below. each-pass c.args.shape.now c.in_ok-table.table.start c.limits.ensures.world k below

pub new-requires-clause-shards : goal.new-requires-clause-shards
new-requires-clause-shards c = subst (λ (w : ShapeValue). AreShards (world_machine w) c.in_ok-shards.shards.items []) (sym c.in_ok-start.ensures) c.in_ok-shards.ensures
