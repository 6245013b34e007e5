use Rattle.std.proofs.Common.{◌≡◌, ◌++◌}
use Rattle.gaspi_world.specs.Closing.{rank_journals}
use Rattle.gaspi_world.proofs.closing.merged.Given as goal

abbrev pub invariant-loop-shard : goal.invariant-loop-shard
invariant-loop-shard l = record {
  lists : l.room.lists ≡ rank_journals l.yielded;
  ranks : l.room.ranks ≡ l.fn.room.ranks;
  events : l.room.events ≡ l.fn.room.events;
  whole : l.yielded ++ l.shard-iterator.rest.items ≡ l.fn.shards.items;
}
