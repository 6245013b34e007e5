use Rattle.std.proofs.Common.{◌≡◌, ℕ, inl, inr, refl, subst, ◌⊎◌}
use Rattle.transfer_worker.specs.QuietRanks.{IsKnown, KnowsStill}
use Rattle.gaspi_types.specs.World.{ShapeValue}
use Rattle.gaspi_world.specs.Transfers.{MovesOn, HasNoEnabledTransfer}
use Rattle.gaspi_world.specs.declared.moving.Moving.{Moving}
use Rattle.gaspi_world.specs.declared.moving.Moving.TheVariants as moves
use Rattle.transfer_worker.proofs.TriedRanks.{knows-then, knows-more, lane-moves-on}
use Rattle.transfer_worker.proofs.tries.try_other.Goals as goal

pub returns-then-is_quiet-clause-tried : goal.returns-then-is_quiet-clause-tried
returns-then-is_quiet-clause-tried c = λ begun knows. ((refl, knows.still c.args.origin (subst (IsKnown c.args.quiet.now.counts) c.number-2.ensures.value (c.is_quiet.ensures c.if-is_quiet.true))), knows)

pub returns-in-Moved-clause-tried : goal.returns-in-Moved-clause-tried
returns-in-Moved-clause-tried c = λ begun knows.
    let w = c.args.world.now.start.shape in
    let on = lane-moves-on w c.args.origin c.args.pass.now.known c.transfer_lane.new.pass.known moves.Moved c.in-Moved.ensures.moves in
    (c.in-Moved.ensures.moves, knows-then w begun c.args.pass.now.known c.transfer_lane.new.pass.known c.args.quiet.now.counts knows on.seen)

pub returns-in-Busy-clause-tried : goal.returns-in-Busy-clause-tried
returns-in-Busy-clause-tried c = λ begun knows.
    let w = c.args.world.now.start.shape in
    let on = lane-moves-on w c.args.origin c.args.pass.now.known c.transfer_lane.new.pass.known moves.Busy c.in-Busy.ensures.moves in
    (c.in-Busy.ensures.moves, knows-then w begun c.args.pass.now.known c.transfer_lane.new.pass.known c.args.quiet.now.counts knows on.seen)

pub returns-in-Empty-clause-tried : goal.returns-in-Empty-clause-tried
returns-in-Empty-clause-tried c = λ begun knows. by-kind begun knows c.in-Empty.is
  where
    w : ShapeValue
    w = c.args.world.now.start.shape

    still : (begun : _) → KnowsStill w begun c.args.quiet.now.counts c.args.pass.now.known → (kind : Moving) → MovesOn w c.args.origin c.args.pass.now.known kind c.transfer_lane.new.pass.known → HasNoEnabledTransfer w c.transfer_lane.new.pass.known.seen c.args.origin
        → KnowsStill w begun c.add.new.self.counts c.transfer_lane.new.pass.known
    still begun knows kind told none =
        let on = lane-moves-on w c.args.origin c.args.pass.now.known c.transfer_lane.new.pass.known kind told in
        knows-more w begun c.args.pass.now.known c.transfer_lane.new.pass.known c.args.quiet.now.counts c.add.new.self.counts c.args.origin knows on.seen none (λ other known. subst (λ (o : ℕ). (other ≡ o) ⊎ IsKnown c.args.quiet.now.counts other) c.number-in-Empty.ensures.value (c.add.ensures other known))

    by-kind : (begun : _) → KnowsStill w begun c.args.quiet.now.counts c.args.pass.now.known → (c.transfer_lane.result ≡ moves.Empty) ⊎ (c.transfer_lane.result ≡ moves.Ended)
        → (MovesOn w c.args.origin c.args.pass.now.known moves.Empty c.transfer_lane.new.pass.known ⊎ MovesOn w c.args.origin c.args.pass.now.known moves.Ended c.transfer_lane.new.pass.known)
        × KnowsStill w begun c.add.new.self.counts c.transfer_lane.new.pass.known
    by-kind begun knows (inl is) =
        let told = subst (λ (m : Moving). MovesOn w c.args.origin c.args.pass.now.known m c.transfer_lane.new.pass.known) is c.transfer_lane.ensures.moves in
        (inl told, still begun knows moves.Empty told told.1)
    by-kind begun knows (inr is) =
        let told = subst (λ (m : Moving). MovesOn w c.args.origin c.args.pass.now.known m c.transfer_lane.new.pass.known) is c.transfer_lane.ensures.moves in
        (inr told, still begun knows moves.Ended told told.1)
