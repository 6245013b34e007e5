use Rattle.gaspi_model.proofs.Listed.Steps.{take-listed, put-listed}
use Rattle.gaspi_model.proofs.Listed.Order.{listed-ordered}
use Rattle.gaspi_model.proofs.laws.listing.Goals as goal

pub returns-clause-take : goal.returns-clause-take
returns-clause-take c = take-listed

pub returns-clause-put : goal.returns-clause-put
returns-clause-put c = put-listed

pub returns-clause-order : goal.returns-clause-order
returns-clause-order c = λ s j k a b sound. listed-ordered s sound j k a b
