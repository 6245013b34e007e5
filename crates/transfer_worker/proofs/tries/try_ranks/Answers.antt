use Rattle.std.proofs.Common.{◌≡◌, ◌≢◌, ◌<◌, sym, ap, ◌∙◌, subst, rules, arith}
use denote.Enum.Bare.{same_true}
use Rattle.gaspi_types.specs.World.{ShapeValue, IsShape}
use Rattle.gaspi_world.specs.Transfers.{Transfers}
use Rattle.gaspi_world.specs.contracts.moving.Moving.{the_type}
use Rattle.gaspi_world.specs.declared.moving.Moving.{Moving}
use Rattle.gaspi_world.specs.declared.moving.Moving.TheVariants.{Moved}
use Rattle.transfer_worker.proofs.InOrder.{turn-stops}
use Rattle.transfer_worker.proofs.TriedRanks.{moves-on, goes-then, moved-turned, round-ends, round-goes, round-in-order}
use Rattle.transfer_worker.proofs.tries.try_ranks.Goals as goal

pub returns-then-eq-clause-goes_on : goal.returns-then-eq-clause-goes_on
returns-then-eq-clause-goes_on c = goes-then c.args.pass.now.known c.loop-step.pass.known c.transfer-moving.new.pass.known c.loop-step.invariant.goes_on (moves-on c.args.world.now.start.shape _ c.loop-step.pass.known c.transfer-moving.new.pass.known c.transfer-moving.result c.transfer-moving.ensures.moves).0

pub returns-then-eq-clause-legal : goal.returns-then-eq-clause-legal
returns-then-eq-clause-legal c = (c.world_histories.ensures c.args.world.now.start.shape c.transfer-moving.new.pass.known.seen).0 (moves-on c.args.world.now.start.shape _ c.loop-step.pass.known c.transfer-moving.new.pass.known c.transfer-moving.result c.transfer-moving.ensures.moves).1

pub returns-then-eq-clause-turned : goal.returns-then-eq-clause-turned
returns-then-eq-clause-turned c =
    let w = c.args.world.now.start.shape in
    let round = c.loop-step.invariant in
    let ranks : c.limits-ranks.result.ranks ≡ w.limits.ranks = ap (λ l. l.ranks) c.limits-ranks.ensures.value ∙ ap (λ (s : ShapeValue). s.limits.ranks) c.shape.ensures in
    let moved : c.transfer-moving.result ≡ Moved = same_true the_type (search rules) _ _ (sym c.eq.ensures ∙ c.if-eq.true) in
    let moves = subst (λ (m : Moving). Transfers w c.of-origin.result c.loop-step.pass.known m c.transfer-moving.new.pass.known) moved c.transfer-moving.ensures.moves in
    moved-turned w _ c.loop-step.step c.of-origin.result c.args.pass.now.known c.loop-step.pass.known c.transfer-moving.new.pass.known c.loop-step.so_far (let place = c.of-origin.ensures in let first = c.requires.first in omega arith) round.tried round.goes_on moves

pub returns-then-eq-clause-order : goal.returns-then-eq-clause-order
returns-then-eq-clause-order c =
    let w = c.args.world.now.start.shape in
    let ranks : c.limits-ranks.result.ranks ≡ w.limits.ranks = ap (λ l. l.ranks) c.limits-ranks.ensures.value ∙ ap (λ (s : ShapeValue). s.limits.ranks) c.shape.ensures in
    let moved : c.transfer-moving.result ≡ Moved = same_true the_type (search rules) _ _ (sym c.eq.ensures ∙ c.if-eq.true) in
    let moves = subst (λ (m : Moving). Transfers w c.of-origin.result c.loop-step.pass.known m c.transfer-moving.new.pass.known) moved c.transfer-moving.ensures.moves in
    turn-stops w c.args.first c.limits-ranks.result.ranks c.loop-step.step c.of-origin.result c.args.pass.now.known c.loop-step.pass.known c.transfer-moving.new.pass.known c.loop-step.so_far ranks c.of-origin.ensures c.loop-step-test.true c.loop-step.invariant.order moves

pub loop-step-preserved : goal.loop-step-preserved
loop-step-preserved c =
    let w = c.args.world.now.start.shape in
    let stays : c.transfer-moving.result ≢ Moved = λ e. absurd (let no = rw e at (sym c.eq.ensures ∙ c.if-eq.false) in let never : ⊥ = cc in never) in
    let ranks : c.limits-ranks.result.ranks ≡ w.limits.ranks = ap (λ l. l.ranks) c.limits-ranks.ensures.value ∙ ap (λ (s : ShapeValue). s.limits.ranks) c.shape.ensures in
    let below : c.of-origin.result < w.limits.ranks = (let place = c.of-origin.ensures in let first = c.requires.first in omega arith) in
    let goes = round-goes w (c.world_histories.ensures w) c.args.first c.limits-ranks.result.ranks c.loop-step.step c.of-origin.result c.args.pass.now c.loop-step.pass c.transfer-moving.new.pass c.loop-step.so_far c.transfer-moving.result ranks c.of-origin.ensures below
    c.loop-step.invariant c.transfer-moving.ensures.table c.transfer-moving.ensures.free c.transfer-moving.ensures.moves stays in
    rw c.with_try-so_far.ensures goes

pub returns-clause-turned : goal.returns-clause-turned
returns-clause-turned c =
    let w = c.args.world.now.start.shape in
    let ranks : c.limits-ranks.result.ranks ≡ w.limits.ranks = ap (λ l. l.ranks) c.limits-ranks.ensures.value ∙ ap (λ (s : ShapeValue). s.limits.ranks) c.shape.ensures in
    round-ends w c.args.first c.limits-ranks.result.ranks c.loop-step.step c.args.pass.now c.loop-step.pass c.loop-step.so_far ranks (let end = c.loop-step-test.false in let most = c.loop-step.auto.step-end in omega arith)
    (subst IsShape c.shape.ensures c.limits-ranks.ensures.world) c.requires.first c.loop-step.invariant

pub returns-clause-order : goal.returns-clause-order
returns-clause-order c =
    let w = c.args.world.now.start.shape in
    let ranks : c.limits-ranks.result.ranks ≡ w.limits.ranks = ap (λ l. l.ranks) c.limits-ranks.ensures.value ∙ ap (λ (s : ShapeValue). s.limits.ranks) c.shape.ensures in
    round-in-order w c.args.first c.limits-ranks.result.ranks c.loop-step.step c.args.pass.now c.loop-step.pass c.loop-step.so_far ranks (let end = c.loop-step-test.false in let most = c.loop-step.auto.step-end in omega arith) c.loop-step.invariant
