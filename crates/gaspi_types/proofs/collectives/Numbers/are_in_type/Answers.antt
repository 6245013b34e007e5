use Rattle.gaspi_types.proofs.InType.{tells}
use Rattle.gaspi_types.proofs.collectives.Numbers.are_in_type.Goals as goal

pub returns : goal.returns
returns c = tells c.args.num_type c.args.numbers.now c.all_pass.result c.all_pass.ensures
