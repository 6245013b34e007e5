use Rattle.std.proofs.Common.{◌≡◌, ◌+◌, length, arith}
use Rattle.gaspi_world.proofs.OpeningShards.{opening-shards}
use Rattle.gaspi_world.proofs.shards.opening_shards.Goals as goal

pub returns : goal.returns
returns c =
    let all : length c.loop-id.shards.items ≡ c.args.shape.now.limits.ranks + 8 = omega arith in
    opening-shards c.args.shape.now c.loop-id.shards.items all c.loop-id.invariant.each
