use Rattle.segment_store.proofs.Written.{stored, written, outside, added, swapped, unequal}
use Rattle.segment_store.proofs.laws.writes.Goals as goal

pub returns-clause-store : goal.returns-clause-store
returns-clause-store c = stored

pub returns-clause-put : goal.returns-clause-put
returns-clause-put c = written

pub returns-clause-outside : goal.returns-clause-outside
returns-clause-outside c = outside

pub returns-clause-added : goal.returns-clause-added
returns-clause-added c = added

pub returns-clause-swapped : goal.returns-clause-swapped
returns-clause-swapped c = swapped

pub returns-clause-unequal : goal.returns-clause-unequal
returns-clause-unequal c = unequal
