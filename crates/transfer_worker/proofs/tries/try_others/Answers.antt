use Rattle.std.proofs.Common.{◌≡◌, ◌≢◌, ap, ◌∙◌, subst, sym, refl, rules, arith}
use denote.Enum.Bare.{same_true}
use Rattle.gaspi_types.specs.World.{ShapeValue}
use Rattle.transfer_worker.specs.Order.{TriesOther}
use Rattle.transfer_worker.specs.contracts.tries.Others.{the_type}
use Rattle.transfer_worker.specs.declared.tries.Others.{Others}
use Rattle.transfer_worker.specs.declared.tries.Others.TheVariants.{Moved}
use Rattle.transfer_worker.proofs.InOrder.{others-stop, others-end, tried-other-next}
use Rattle.transfer_worker.proofs.TriedRanks.{goes-then}
use Rattle.transfer_worker.proofs.tries.try_others.Goals as goal

pub loop-next-init : goal.loop-next-init
loop-next-init c = (refl, c.requires.free, search rules, λ begun knows. ((refl, refl), knows))

pub returns-then-eq-clause-order : goal.returns-then-eq-clause-order
returns-then-eq-clause-order c = λ begun knows.
    let w = c.args.world.now.start.shape in
    let ranks : c.limits-ranks.result.ranks ≡ w.limits.ranks = ap (λ l. l.ranks) c.limits-ranks.ensures.value ∙ ap (λ (s : ShapeValue). s.limits.ranks) c.shape.ensures in
    let moved : c.try_other-other.result ≡ Moved = same_true the_type (search rules) _ _ (sym c.eq.ensures ∙ c.if-eq.true) in
    let so_far = c.loop-next.invariant.3 begun knows in
    let here = c.try_other-other.ensures.tried begun so_far.1 in
    let tried = subst (λ (o : Others). TriesOther w begun c.of.result c.loop-next.pass.known o c.try_other-other.new.pass.known) moved here.0 in
    (others-stop w begun c.args.first c.limits-ranks.result.ranks c.loop-next.next c.of.result c.args.pass.now.known c.loop-next.pass.known c.try_other-other.new.pass.known c.loop-next.so_far ranks c.of.ensures c.loop-next-test.true so_far.0 tried, here.1)

pub loop-next-preserved : goal.loop-next-preserved
loop-next-preserved c =
    let w = c.args.world.now.start.shape in
    let ranks : c.limits-ranks.result.ranks ≡ w.limits.ranks = ap (λ l. l.ranks) c.limits-ranks.ensures.value ∙ ap (λ (s : ShapeValue). s.limits.ranks) c.shape.ensures in
    let stays : c.try_other-other.result ≢ Moved = λ e. absurd (let no = rw e at (sym c.eq.ensures ∙ c.if-eq.false) in let never : ⊥ = cc in never) in (
      c.try_other-other.ensures.table ∙ c.loop-next.invariant.0,
      c.try_other-other.ensures.free,
      goes-then c.args.pass.now.known c.loop-next.pass.known c.try_other-other.new.pass.known c.loop-next.invariant.2 c.try_other-other.ensures.goes_on,
      λ begun knows.
          let so_far = c.loop-next.invariant.3 begun knows in
          let here = c.try_other-other.ensures.tried begun so_far.1 in (
            rw c.with_other-so_far.ensures
                (tried-other-next w begun c.args.first c.limits-ranks.result.ranks c.loop-next.next c.of.result c.args.pass.now.known c.loop-next.pass.known c.try_other-other.new.pass.known c.loop-next.so_far c.try_other-other.result ranks c.of.ensures so_far.0 here.0 stays),
            here.1,
          ),
    )

pub returns-clause-order : goal.returns-clause-order
returns-clause-order c = λ begun knows.
    let w = c.args.world.now.start.shape in
    let ranks : c.limits-ranks.result.ranks ≡ w.limits.ranks = ap (λ l. l.ranks) c.limits-ranks.ensures.value ∙ ap (λ (s : ShapeValue). s.limits.ranks) c.shape.ensures in
    let so_far = c.loop-next.invariant.3 begun knows in
    (others-end w begun c.args.first c.limits-ranks.result.ranks c.loop-next.next c.args.pass.now.known c.loop-next.pass.known c.loop-next.so_far ranks (let end = c.loop-next-test.false in let most = c.loop-next.auto.next-end in omega arith) so_far.0, so_far.1)
