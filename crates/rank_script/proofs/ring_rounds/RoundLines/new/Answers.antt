use Rattle.rank_script.proofs.RingRounds.{all-rounds}
use Rattle.rank_script.proofs.ring_rounds.RoundLines.new.Goals as goal

pub returns : goal.returns
returns c = all-rounds c.args.ring.seed c.args.ring.ranks c.args.ring.rounds c.args.ring.rank c.args.ring.rounds c.args.ring.some
