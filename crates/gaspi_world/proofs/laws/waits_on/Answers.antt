-- A pass that calls keeps the looks of its timeouts.
use Rattle.gaspi_world.proofs.SpentLooks.{waited-fresh, waited-called, waited-stopped}
use Rattle.gaspi_world.proofs.laws.waits_on.Goals as goal

pub returns-clause-fresh : goal.returns-clause-fresh
returns-clause-fresh c = waited-fresh

pub returns-clause-called : goal.returns-clause-called
returns-clause-called c = waited-called

pub returns-clause-stopped : goal.returns-clause-stopped
returns-clause-stopped c = waited-stopped
