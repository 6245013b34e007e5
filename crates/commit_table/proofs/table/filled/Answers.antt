use Rattle.std.proofs.Common.{◌∙◌, ap, length}
use Rattle.commit_table.proofs.Lists.{length_spread}
use Rattle.commit_table.proofs.table.filled.Goals as goal

pub returns-clause-count : goal.returns-clause-count
returns-clause-count g c = ap length c.in_ok-fill.ensures ∙ length_spread c.args.shards.items
