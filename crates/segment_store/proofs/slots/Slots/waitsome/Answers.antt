use Rattle.std.proofs.Common.{rules}
use Rattle.segment_store.proofs.Found.{slot-found}
use Rattle.segment_store.proofs.slots.Slots.waitsome.Goals as goal

pub returns-clause-least : goal.returns-clause-least
returns-clause-least c = slot-found c.args.self.now c.args.begin c.args.num c.first_set.result (search rules) (search rules)
