use Rattle.gaspi_world.proofs.holding.both_held.Goals as goal

pub returns-clause-fits : goal.returns-clause-fits
returns-clause-fits c = c.into_other.ensures.fits c.args.other
