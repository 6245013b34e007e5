use Rattle.plain_machine.proofs.Walked.{few_transfers}
use Rattle.plain_machine.proofs.machine.Machine.transfer_count.Goals as goal

pub transfer_count-requires-clause-few : goal.transfer_count-requires-clause-few
transfer_count-requires-clause-few c = few_transfers c.self.inside.ranks.limits c.self.inside.ranks.posts c.self.invariant.0.sound.limits c.self.invariant.0.sound.posts
