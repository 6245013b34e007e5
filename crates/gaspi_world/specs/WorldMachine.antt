-- The machine that the threads of a world commit, in shards by ranks: each rank has a shard, and then each group.
use Rattle.gaspi_types.specs.World.{ShapeValue}
use Rattle.gaspi_types.specs.declared.events.Event.{Event}
use Rattle.gaspi_model.specs.Parties.{party_of}
use Rattle.commit_table.specs.Machine.{Machine}
use Rattle.gaspi_world.specs.Numbering.{by_ranks}
use Rattle.gaspi_world.specs.ShardMachine.{shard_machine}
use Rattle.gaspi_world.specs.Shards.{node_meaning}
use Rattle.gaspi_world.specs.declared.shards.WorldShard.{WorldShard}

abbrev pub world_machine : ShapeValue → Machine WorldShard Event
world_machine w = shard_machine (by_ranks w) w (node_meaning w) (party_of w)
