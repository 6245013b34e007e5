use Rattle.gaspi_io.proofs.OnItsWay.{written-on_ok}
use Rattle.gaspi_io.proofs.blocks.write_full_block.Goals as goal

pub returns-clause-way : goal.returns-clause-way
returns-clause-way c c' old text way =
    written-on_ok c'.write_block.result old text _ _ _ _ c'.write_block.ensures.all c'.write_block.ensures.emptied way
