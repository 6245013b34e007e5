use Rattle.std.proofs.Common.{true, false, refl, ap, ◌∙◌, subst}
use Rattle.gaspi_types.specs.World.{ShapeValue}
use Rattle.transfer_worker.specs.Order.{GoesPast, Rests}
use Rattle.transfer_worker.proofs.InOrder.{turning-begins, turning-past, turning-rests, turning-ends}
use Rattle.transfer_worker.proofs.TriedRanks.{goes-then, goes-same, knows-none, knows-then}
use Rattle.transfer_worker.proofs.workers.Worker.drain.Goals as goal

pub loop-init : goal.loop-init
loop-init g c = ((tt, tt), refl, refl, refl, c.requires.free, goes-same c.args.self.now.pass.now.known, turning-begins c.args.self.now.world.now.start.shape c.args.self.now.turns c.args.self.now.pass.now.known, knows-none c.args.self.now.world.now.start.shape c.args.self.now.pass.now.known c.none-quiet.result.counts c.none-quiet.ensures)

pub loop-preserved-in-Moved : goal.loop-preserved-in-Moved
loop-preserved-in-Moved g c =
    let had = c.loop.invariant in
    let w = c.args.self.now.world.now.start.shape in
    let lent = ap (λ t. t.start.shape) had.1 in
    let past = subst (λ (x : ShapeValue). GoesPast x c.loop.self.turns c.loop.quiet.counts c.loop.self.pass.now.known c.go_past.result c.go_past.new.self.turns c.go_past.new.quiet.counts c.go_past.new.self.pass.now.known) lent c.go_past.ensures.past in
    let told = past.0 c.args.self.now.pass.now.known had.7 in
    let so_far = turning-past w c.args.self.now.turns c.loop.self.turns c.go_past.new.self.turns c.args.self.now.pass.now.known c.loop.self.pass.now.known c.go_past.new.self.pass.now.known c.go_past.result had.6 told.0 past.1 in (
      (tt, tt),
      c.go_past.ensures.same.0 ∙ had.1,
      c.go_past.ensures.same.1 ∙ had.2,
      c.go_past.ensures.table ∙ had.3,
      c.go_past.ensures.free,
      goes-then _ _ _ had.5 c.go_past.ensures.goes_on,
      so_far,
      told.1,
    )

pub loop-preserved-in-Busy : goal.loop-preserved-in-Busy
loop-preserved-in-Busy g c =
    let had = c.loop.invariant in
    let w = c.args.self.now.world.now.start.shape in
    let lent = ap (λ t. t.start.shape) had.1 in
    let past = subst (λ (x : ShapeValue). GoesPast x c.loop.self.turns c.loop.quiet.counts c.loop.self.pass.now.known c.go_past.result c.go_past.new.self.turns c.go_past.new.quiet.counts c.go_past.new.self.pass.now.known) lent c.go_past.ensures.past in
    let told = past.0 c.args.self.now.pass.now.known had.7 in
    let so_far = turning-past w c.args.self.now.turns c.loop.self.turns c.go_past.new.self.turns c.args.self.now.pass.now.known c.loop.self.pass.now.known c.go_past.new.self.pass.now.known c.go_past.result had.6 told.0 past.1 in (
      (tt, tt),
      c.go_past.ensures.same.0 ∙ had.1,
      c.go_past.ensures.same.1 ∙ had.2,
      c.go_past.ensures.table ∙ had.3,
      c.go_past.ensures.free,
      goes-then _ _ _ had.5 c.go_past.ensures.goes_on,
      so_far,
      told.1,
    )

pub returns-then-rest-clause-turns : goal.returns-then-rest-clause-turns
returns-then-rest-clause-turns g c =
    let had = c.loop.invariant in
    let w = c.args.self.now.world.now.start.shape in
    let lent = ap (λ t. t.start.shape) had.1 in
    let past = subst (λ (x : ShapeValue). GoesPast x c.loop.self.turns c.loop.quiet.counts c.loop.self.pass.now.known c.go_past.result c.go_past.new.self.turns c.go_past.new.quiet.counts c.go_past.new.self.pass.now.known) lent c.go_past.ensures.past in
    let told = past.0 c.args.self.now.pass.now.known had.7 in
    let so_far = turning-past w c.args.self.now.turns c.loop.self.turns c.go_past.new.self.turns c.args.self.now.pass.now.known c.loop.self.pass.now.known c.go_past.new.self.pass.now.known c.go_past.result had.6 told.0 past.1 in
    let rested = subst (λ (x : ShapeValue). Rests x c.go_past.new.self.turns c.go_past.new.self.pass.now.known true c.rest.new.self.turns c.rest.new.self.pass.now.known) (ap (λ t. t.start.shape) (c.go_past.ensures.same.0 ∙ had.1)) c.if-rest.ensures.rests in
    turning-ends w c.args.self.now.turns c.go_past.new.self.turns c.rest.new.self.turns c.args.self.now.pass.now.known c.go_past.new.self.pass.now.known c.rest.new.self.pass.now.known so_far rested

pub loop-preserved : goal.loop-preserved
loop-preserved g c =
    let had = c.loop.invariant in
    let w = c.args.self.now.world.now.start.shape in
    let lent = ap (λ t. t.start.shape) had.1 in
    let past = subst (λ (x : ShapeValue). GoesPast x c.loop.self.turns c.loop.quiet.counts c.loop.self.pass.now.known c.go_past.result c.go_past.new.self.turns c.go_past.new.quiet.counts c.go_past.new.self.pass.now.known) lent c.go_past.ensures.past in
    let told = past.0 c.args.self.now.pass.now.known had.7 in
    let so_far = turning-past w c.args.self.now.turns c.loop.self.turns c.go_past.new.self.turns c.args.self.now.pass.now.known c.loop.self.pass.now.known c.go_past.new.self.pass.now.known c.go_past.result had.6 told.0 past.1 in
    let rested = subst (λ (x : ShapeValue). Rests x c.go_past.new.self.turns c.go_past.new.self.pass.now.known false c.rest.new.self.turns c.rest.new.self.pass.now.known) (ap (λ t. t.start.shape) (c.go_past.ensures.same.0 ∙ had.1)) c.if-rest.ensures.rests in (
      (tt, tt),
      c.rest.ensures.same.0 ∙ (c.go_past.ensures.same.0 ∙ had.1),
      c.rest.ensures.same.1 ∙ (c.go_past.ensures.same.1 ∙ had.2),
      c.rest.ensures.table ∙ (c.go_past.ensures.table ∙ had.3),
      c.rest.ensures.free,
      goes-then _ _ _ had.5 (goes-then _ _ _ c.go_past.ensures.goes_on c.rest.ensures.goes_on),
      turning-rests w c.args.self.now.turns c.go_past.new.self.turns c.rest.new.self.turns c.args.self.now.pass.now.known c.go_past.new.self.pass.now.known c.rest.new.self.pass.now.known so_far rested,
      knows-then w c.args.self.now.pass.now.known c.go_past.new.self.pass.now.known c.rest.new.self.pass.now.known c.go_past.new.quiet.counts told.1 c.rest.ensures.goes_on.seen,
    )
