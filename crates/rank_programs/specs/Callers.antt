-- What a program needs of its caller, and keeps. (own choice)
use Rattle.std.specs.Prelude.{◌≡◌}
use Rattle.gaspi_world.specs.Calling.{MayCall}
use Rattle.rank_programs.specs.declared.callers.Caller.{Caller}

module _ {R : Type 0} where
  -- it may make calls: its pass is that of a caller of its world, and holds no shard
  abbrev pub IsCaller : Caller R → Type 0
  IsCaller caller = MayCall caller.rank.world.now caller.rank.pass.now

  -- it is the same caller still, and may make calls
  abbrev pub StaysCaller : Caller R → Caller R → Type 0
  StaysCaller caller next =
      (next.rank.world.now ≡ caller.rank.world.now) × (next.rank.pass.ghost_name ≡ caller.rank.pass.ghost_name) × IsCaller next
