use Rattle.std.proofs.Common.{◌≡◌, ◌++◌, length, take, drop}
use Rattle.gaspi_types.specs.Collectives.{combined}
use Rattle.gaspi_types.specs.NumberTypes.{AreInType}
use Rattle.gaspi_model.proofs.reductions.reduce.Given as goal

abbrev pub invariant-loop-index : goal.invariant-loop-index
invariant-loop-index l = record {
  reduced : l.total ≡ combined l.op l.num_type (take l.index l.initial.total) (take l.index l.values) ++ drop l.index l.initial.total;
  range : AreInType l.num_type l.total;
  lengths : length l.total ≡ length l.initial.total;
}
