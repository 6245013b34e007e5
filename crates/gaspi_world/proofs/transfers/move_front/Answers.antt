use Rattle.std.proofs.Common.{ℕ, sym, subst}
use Rattle.gaspi_world.specs.Transfers.{HasMoved, IsMovedBehind}
use Rattle.gaspi_world.proofs.Movings.{moved-by, one-then}
use Rattle.gaspi_world.proofs.transfers.move_front.Goals as goal

pub returns-clause-moved : goal.returns-clause-moved
returns-clause-moved c =
    let w = c.args.table.now.start.shape in
    let v = c.args.pass.now.known in
    let u = c.commit_front.new.pass.known in
    let n = c.leave_other.new.pass.known in
    let own = c.args.held.now.own in
    let by = subst (λ (k : ℕ). IsMovedBehind w k v u) (sym c.requires.front.own) c.commit_front.ensures.moved in
    let then = subst (λ (k : ℕ). HasMoved w k u n) c.commit_front.ensures.shards.0 c.leave_other.ensures.moved in
    one-then w own v u n (moved-by w own v u by) then
