use Rattle.std.proofs.Common.{Option, ℕ, subst}
use Rattle.gaspi_world.specs.HeldShards.{Holds}
use Rattle.gaspi_world.proofs.holding.give_back.Goals as goal

pub leave_both-requires-clause-held : goal.leave_both-requires-clause-held
leave_both-requires-clause-held c =
    subst (λ (o : Option ℕ). Holds c.args.table.now.start.shape (record { own = c.args.held.own; other = o; nodes = c.args.held.nodes }) c.args.pass.now.known) c.in-Some.is c.requires.held

pub leave_own-requires-clause-held : goal.leave_own-requires-clause-held
leave_own-requires-clause-held c =
    subst (λ (o : Option ℕ). Holds c.args.table.now.start.shape (record { own = c.args.held.own; other = o; nodes = c.args.held.nodes }) c.args.pass.now.known) c.in-None.is c.requires.held
