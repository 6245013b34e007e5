use Rattle.std.proofs.Common.{ℕ, ap, subst}
use Rattle.gaspi_world.specs.Transfers.{IsMovedBehind}
use Rattle.gaspi_world.proofs.TransferCommits.{moved-left}
use Rattle.gaspi_world.proofs.transfers.transfer_once.Goals as goal

pub returns-in-Ready-clause-moves : goal.returns-in-Ready-clause-moves
returns-in-Ready-clause-moves c =
    let w = c.args.table.now.start.shape in
    let tries = c.in-Ready.ensures.tries in
    let v = c.args.pass.now.known in
    let u = c.try_front.new.pass.known in
    let z = c.commit_front.new.pass.known in
    let held = c.commit_front.new.held in
    moved-left w held v u z c.give_back.new.pass.known c.args.origin held.own held.other tries.1 (subst (λ (n : ℕ). IsMovedBehind w n u z) tries.3 c.commit_front.ensures.moved) c.commit_front.ensures.held
    (ap (λ p. p.known) c.give_back.ensures.left)
