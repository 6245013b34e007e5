use Rattle.command_line.proofs.Ranges.{accepted_is_read}
use Rattle.command_line.proofs.laws.words_without_a_fault_are_accepted.Goals as goal

pub returns : goal.returns
returns c = accepted_is_read
