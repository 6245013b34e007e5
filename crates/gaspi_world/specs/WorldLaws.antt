-- The machine of a world is lawful.
use Rattle.gaspi_types.specs.World.{ShapeValue, IsShape}
use Rattle.gaspi_model.specs.Parties.{party_of}
use Rattle.commit_table.specs.Machine.{Laws}
use Rattle.gaspi_world.specs.Numbering.{by_ranks}
use Rattle.gaspi_world.specs.ShardLaws.{shards-lawful}
use Rattle.gaspi_world.specs.Shards.{node_meaning}
use Rattle.gaspi_world.specs.WorldMachine.{world_machine}

pub world_lawful : (w : ShapeValue) → ∥ IsShape w ∥₁ → Laws (world_machine w)
world_lawful w valid = shards-lawful (by_ranks w) w (node_meaning w) (party_of w) valid
