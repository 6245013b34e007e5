use Rattle.std.proofs.Common.{◌≡◌, ◌++◌, take}
use Rattle.std.specs.List.{flat_map}
use Rattle.gaspi_run.specs.Judging.{write_line}
use Rattle.gaspi_run.proofs.judging.append_writes.Given as goal

-- the lines so far
abbrev pub invariant-loop-write : goal.invariant-loop-write
invariant-loop-write l = l.text ≡ l.fn.text ++ flat_map write_line (take l.write-index l.writes)
