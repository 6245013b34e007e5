use Rattle.std.proofs.Common.{ℕ, ◌∙◌, ap, subst}
use Rattle.gaspi_world.specs.Transfers.{HasMoved}
use Rattle.gaspi_world.proofs.Following.{follows-other, follows-front}
use Rattle.gaspi_world.proofs.Movings.{moved-then}
use Rattle.gaspi_world.proofs.transfers.follow.Goals as goal

pub open_other-requires-clause-other : goal.open_other-requires-clause-other
open_other-requires-clause-other c =
    let w = c.args.table.now.start.shape in
    follows-other w c.requires.world c.args.held.now c.args.pass.now.known c.requires.held c.in-Some.t c.deref.result.now c.deref-2.result.now c.ranks-ranks.result c.front_shard-other.result c.deref.ensures c.deref-2.ensures
    (c.ranks-ranks.ensures ∙ ap (λ s. s.shape.limits.ranks) c.start.ensures.start) c.in-Some.ensures.front c.front_shard-other.ensures

pub move_front-requires-clause-front : goal.move_front-requires-clause-front
move_front-requires-clause-front c =
    let w = c.args.table.now.start.shape in
    follows-front w c.requires.world c.args.held.now c.args.pass.now.known c.requires.held c.in-Some.t c.deref.result.now c.deref-2.result.now c.ranks-ranks.result c.front_shard-other.result c.deref.ensures c.deref-2.ensures
    (c.ranks-ranks.ensures ∙ ap (λ s. s.shape.limits.ranks) c.start.ensures.start) c.in-Some.ensures.front c.front_shard-other.ensures
    c.open_other.new.held c.open_other.ensures.own (c.open_other.ensures.opened c.if-not-open_other.false)

pub returns-clause-moved : goal.returns-clause-moved
returns-clause-moved c =
    let w = c.args.table.now.start.shape in
    let own = c.args.held.now.own in
    let n = c.move_front.new.pass.known in
    let then = subst (λ (k : ℕ). HasMoved w k c.open_other.new.pass.known n) c.open_other.ensures.own.0 c.move_front.ensures.moved.0 in
    moved-then w own c.args.pass.now.known c.open_other.new.pass.known n c.open_other.ensures.moved then
