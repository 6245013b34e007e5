use Rattle.std.proofs.Common.{◌≡◌}
use Rattle.commit_table.specs.Calls.{spread}
use Rattle.commit_table.proofs.table.fill.Given as goal

abbrev pub invariant-loop-shard : goal.invariant-loop-shard
invariant-loop-shard g l = l.slots.items ≡ spread l.yielded
