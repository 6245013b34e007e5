use Rattle.gaspi_world.specs.ShardLaws.{shards-frame, shards-determined, follows-legal, owner-among, same-shards}
use Rattle.gaspi_world.proofs.shard_laws.shard_histories.Goals as goal

pub returns-clause-frame : goal.returns-clause-frame
returns-clause-frame c = shards-frame

pub returns-clause-follows : goal.returns-clause-follows
returns-clause-follows c = follows-legal

pub returns-clause-owned : goal.returns-clause-owned
returns-clause-owned c = λ n w. owner-among n w

pub returns-clause-same : goal.returns-clause-same
returns-clause-same c = same-shards

pub returns-clause-determined : goal.returns-clause-determined
returns-clause-determined c = shards-determined
