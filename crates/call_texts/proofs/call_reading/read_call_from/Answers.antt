use Rattle.std.proofs.Common.{refl}
use Rattle.call_texts.specs.CallText.{call_taken}
use Rattle.call_texts.proofs.call_reading.read_call_from.Goals as goal

pub returns-in-GroupCreate-clause-ok : goal.returns-in-GroupCreate-clause-ok
unfolding call_taken
returns-in-GroupCreate-clause-ok c = rw c.in-GroupCreate.is refl

pub returns-in-State-clause-ok : goal.returns-in-State-clause-ok
unfolding call_taken
returns-in-State-clause-ok c = rw c.in-State.is refl
