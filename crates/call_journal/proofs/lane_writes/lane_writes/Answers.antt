use Rattle.std.proofs.Common.{◌≡◌, ℕ, ◌+◌, arith, false, List, length, take, sym, subst}
use Rattle.std.proofs.lemmas.List.{length-take-le}
use Rattle.call_journal.specs.Tracked.{IsTracked, Rise}
use Rattle.call_journal.specs.declared.lane_writes.LaneWrite.{LaneWrite}
use Rattle.call_journal.proofs.Rising.{rise-after}
use Rattle.call_journal.proofs.Standing.{entries-few}
use Rattle.call_journal.proofs.Tracks.{event-at, tracked-as, tracked-first, tracked-more}
use Rattle.call_journal.proofs.lane_writes.lane_writes.Goals as goal

pub loop-before-init : goal.loop-before-init
loop-before-init c =
    let none = sym c.new.ensures.items in
    record {
      few = omega arith;
      rise = subst (λ (writes : List LaneWrite). Rise 0 writes 0) none (omega arith);
      tracked = λ w world legal. subst (λ (writes : List LaneWrite). IsTracked w c.args.journal.now 0 c.args.at.now 0 false writes) none (tracked-first w world c.args.journal.now c.args.at.now);
    }

pub loop-before-preserved : goal.loop-before-preserved
loop-before-preserved c =
    let known = c.loop-before.invariant in
    let old = c.loop-before.found in
    let new = c.track.new.self in
    let at = c.args.at.now in
    let before = c.loop-before.before in
    let event = c.index-earlier-before.result in
    let told = c.in_ok-track.ensures in
    let few = entries-few at.origin event in
    record {
      few = omega (arith, few, known.few, told.next);
      rise = rw (told.next, told.writes) (rise-after at before event old.next old.writes.items known.rise);
      tracked = λ w world legal.
          let there = event-at c.args.journal.now c.args.place before event (rw (← c.as_slice.ensures) c.loop-before-test.true) (rw (← c.as_slice.ensures) c.index-earlier-before.is) in
          tracked-as w c.args.journal.now (before + 1) at _ new.next _ new.notified _ new.writes.items told.next told.notified told.writes
          (tracked-more w world c.args.journal.now legal before event there at old.next old.notified old.writes.items (known.tracked w world legal));
    }

pub returns-clause-tracked : goal.returns-clause-tracked
returns-clause-tracked c =
    let known = c.loop-before.invariant in
    let end = c.loop-before.auto.before-end in
    let test = c.loop-before-test.false in
    let many = length-take-le c.args.place c.args.journal.now c.requires.there in
    let all : length (take c.args.place c.as_slice.result.now) ≡ c.args.place = rw c.as_slice.ensures many in
    let same : c.loop-before.before ≡ c.args.place = omega arith in
    λ w world legal. subst (λ (n : ℕ). IsTracked w c.args.journal.now n c.args.at.now c.loop-before.found.next c.loop-before.found.notified c.loop-before.found.writes.items) same (known.tracked w world legal)
