use Rattle.std.proofs.Common.{◌≡◌, length, take}
use Rattle.gaspi_types.specs.Collectives.{made_by}
use Rattle.collective_engine.specs.RoundBuffers.{contribution_by}
use Rattle.collective_engine.proofs.reading.generations.Given as goal

abbrev pub invariant-loop-place : goal.invariant-loop-place
invariant-loop-place l = record {
  made : take l.place l.made ≡ made_by (contribution_by l.buffers l.round) (take l.place l.members);
  capacity : length l.made ≡ 16;
}
