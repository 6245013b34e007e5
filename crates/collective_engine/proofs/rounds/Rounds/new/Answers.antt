use Rattle.collective_engine.proofs.Opening.{opens}
use Rattle.collective_engine.proofs.rounds.Rounds.new.Goals as goal

pub invariant_of-result : goal.invariant_of-result
invariant_of-result c =
    let opened = c.in_ok-opening.ensures in
    opens c.args.members c.ranks_of.result c.in_ok-opening.field-0 c.ranks_of.ensures opened.capacity opened.joined opened.completed
