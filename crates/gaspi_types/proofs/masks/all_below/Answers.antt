use Rattle.std.proofs.Common.{arith}
use Rattle.std.proofs.Math.Pow.{pow_mono}
use Rattle.std.proofs.lemmas.Nat.{pow_pos}
use Rattle.gaspi_types.proofs.masks.all_below.Goals as goal

pub overflow_sub-result : goal.overflow_sub-result
overflow_sub-result c = omega (arith, pow_mono {i = c.args.ranks} {j = 16} c.requires, pow_pos c.args.ranks)

pub returns : goal.returns
returns c = omega (arith, pow_mono {i = c.args.ranks} {j = 16} c.requires)
