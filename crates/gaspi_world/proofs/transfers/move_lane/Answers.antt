use Rattle.std.proofs.Common.{ℕ, ◌∙◌, ap, subst}
use Rattle.gaspi_world.specs.Transfers.{HasMoved, HasMovedOne}
use Rattle.gaspi_world.proofs.Lanes.{lane-moved}
use Rattle.gaspi_world.proofs.transfers.move_lane.Goals as goal

pub returns-in-Ready-clause-moves : goal.returns-in-Ready-clause-moves
returns-in-Ready-clause-moves c =
    let w = c.args.table.now.start.shape in
    let origin = c.args.origin in
    let tries = c.in-Ready.ensures.tries in
    let held = c.go_on.new.held in
    let u = c.try_front.new.pass.known in
    let x = c.move_front.new.pass.known in
    let z = c.go_on.new.pass.known in
    let own = tries.2.own ∙ tries.3 in
    let first = subst (λ (k : ℕ). HasMovedOne w k u x) own c.move_front.ensures.moved in
    let then = subst (λ (k : ℕ). HasMoved w k x z) (c.move_front.ensures.own ∙ own) c.go_on.ensures.moved in
    lane-moved w origin held c.args.pass.now.known u x z c.give_back.new.pass.known held.own held.other tries.1 first then c.go_on.ensures.held (ap (λ p. p.known) c.give_back.ensures.left)
