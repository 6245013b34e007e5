-- What contracts see of `Rounds`, and its invariant. (GASPI: collectives)
use Rattle.std.specs.Prelude.{◌≡◌}
use Rattle.collective_engine.specs.RoundBuffers.{RoundBuffers, AreRoundBuffers, ranks_of}
use Rattle.collective_engine.specs.declared.rounds.Rounds.TheInside.{Inside}

-- what contracts see of `Rounds`
abbrev pub round_buffers : Inside → RoundBuffers
round_buffers r = record { members = r.members; buffers = r.buffers }

-- the invariant: the members are stored as a list too, and the buffers are right
pub record IsRounds (r : Inside) : Type 0 where
  pub ranks : r.ranks ≡ ranks_of r.members
  pub rounds : AreRoundBuffers r.members r.buffers
