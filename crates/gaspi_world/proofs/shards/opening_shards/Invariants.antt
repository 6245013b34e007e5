use Rattle.std.proofs.Common.{◌≡◌, ℕ, ◌+◌, length, Some}
use Rattle.std.specs.List.{slice_get}
use Rattle.gaspi_world.specs.Shards.{IsOpeningShard}
use Rattle.gaspi_world.specs.declared.shards.WorldShard.{WorldShard}
use Rattle.gaspi_world.proofs.shards.opening_shards.Given as goal

abbrev pub invariant-loop-rank : goal.invariant-loop-rank
invariant-loop-rank l = record {
  count : length l.shards.items ≡ l.rank;
  each : (i : ℕ) (x : WorldShard) → slice_get l.shards.items i ≡ Some x → IsOpeningShard l.fn.shape i x;
}

abbrev pub invariant-loop-id : goal.invariant-loop-id
invariant-loop-id l = record {
  count : length l.shards.items ≡ l.ranks + l.id;
  each : (i : ℕ) (x : WorldShard) → slice_get l.shards.items i ≡ Some x → IsOpeningShard l.fn.shape i x;
}
