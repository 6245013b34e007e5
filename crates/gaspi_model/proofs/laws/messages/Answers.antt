use Rattle.gaspi_model.proofs.Ordered.Messages.{messages-flow, few-messages, earliest-received}
use Rattle.gaspi_model.proofs.laws.messages.Goals as goal

pub returns-clause-order : goal.returns-clause-order
returns-clause-order c = messages-flow

pub returns-clause-few : goal.returns-clause-few
returns-clause-few c = few-messages

pub returns-clause-received : goal.returns-clause-received
returns-clause-received c = earliest-received
