use Rattle.gaspi_world.specs.Grains.{shards-within, ranks-number}
use Rattle.gaspi_world.proofs.shard_laws.shard_numbers.Goals as goal

pub returns-clause-within : goal.returns-clause-within
returns-clause-within c = shards-within

pub returns-clause-ranks : goal.returns-clause-ranks
returns-clause-ranks c = ranks-number
