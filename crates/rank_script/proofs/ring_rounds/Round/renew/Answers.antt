use Rattle.std.proofs.Common.{◌+◌, ap}
use Rattle.rank_script.specs.declared.ring_rounds.Round.{Round}
use Rattle.rank_script.proofs.ring_rounds.Round.renew.Goals as goal

pub renew_load-requires : goal.renew_load-requires
renew_load-requires c =
    let was = c.requires.round in
    (was.0 + 5, was.3, ap (λ (round : Round). round.load) was.4, was.6)
