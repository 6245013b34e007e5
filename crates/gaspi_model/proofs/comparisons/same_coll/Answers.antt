use Rattle.std.proofs.Common.{rules}
use Rattle.gaspi_model.proofs.Equal.{tells}
use Rattle.gaspi_model.proofs.comparisons.same_coll.Goals as goal

pub returns-clause-equal : goal.returns-clause-equal
returns-clause-equal c = tells c.same_fields.result c.args.a c.args.b (search rules)
