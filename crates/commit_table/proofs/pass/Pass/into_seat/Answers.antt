use Rattle.std.proofs.Common.{sym, ap, ◌∙◌}
use Rattle.commit_table.proofs.pass.Pass.into_seat.Goals as goal

pub returns-clause-party : goal.returns-clause-party
returns-clause-party g c = (c.self.inside.party, ap (λ p. p.known.party) (sym c.self.view_is) ∙ c.self.invariant.1)
