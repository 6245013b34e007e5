use Rattle.std.proofs.Common.{ℕ, ◌+◌, ◌<◌, List, length, refl, sym, subst, ◌∙◌, arith}
use Rattle.gaspi_io.specs.Faults.{HasCause}
use Rattle.journal_pictures.specs.declared.open_entries.RankEntries.{RankEntries}
use Rattle.journal_pictures.proofs.OpenTables.{IsShort, short-first, short-more}
use Rattle.journal_pictures.proofs.TracedSoFar.{last-fault, on-err, trace-arrived, trace-unwritten, traced-cut, traced-end, traced-fault, traced-first, traced-more}
use Rattle.journal_pictures.proofs.tracing.write_legal.Goals as goal

pub add_event-requires-clause-small : goal.add_event-requires-clause-small
add_event-requires-clause-small g c = λ rank r there.
    let small = c.loop-place.invariant.short.small rank r there in
    let within : c.loop-place.place < length c.args.journal.now = rw (sym c.as_slice-event-items.ensures) c.loop-place-test.true in
    let short = c.history_lengths.ensures.most c.args.shape.now c.args.journal.now c.limits.ensures.world c.requires in
    omega arith

pub returns-in_err-ranks-clause-front : goal.returns-in_err-ranks-clause-front
returns-in_err-ranks-clause-front g c = on-err c.from_residual.result (trace-unwritten c.args.shape.now c.args.journal.now _)

pub returns-in_err-block-clause-front : goal.returns-in_err-block-clause-front
returns-in_err-block-clause-front g c = on-err c.from_residual-in_err-block.result (trace-unwritten c.args.shape.now c.args.journal.now _)

pub loop-place-init : goal.loop-place-init
loop-place-init g c = record {
  traced = rw (c.in_ok-ranks.ensures, c.new-slots.ensures) (traced-first c.args.shape.now c.args.journal.now _ c.in_ok-block.block c.in_ok-block.ensures);
  short = rw c.in_ok-ranks.ensures short-first;
  still = refl;
}

pub returns-in_err-add_event-clause-front : goal.returns-in_err-add_event-clause-front
returns-in_err-add_event-clause-front g c =
    on-err c.from_residual-in_err-add_event.result
    (traced-cut c.args.shape.now c.args.journal.now _ _ c.loop-place.block c.loop-place.ranks c.loop-place.slots c.loop-place.place c.loop-place.invariant.traced)

pub returns-in_err-add_event-clause-lacks : goal.returns-in_err-add_event-clause-lacks
returns-in_err-add_event-clause-lacks g c = λ is. c.loop-place.invariant.still

pub returns-in_err-write_full_block-clause-front : goal.returns-in_err-write_full_block-clause-front
returns-in_err-write_full_block-clause-front g c =
    on-err c.from_residual-in_err-write_full_block.result
    (traced-fault c.args.shape.now c.args.journal.now _ _ c.add_event.new.text c.add_event.new.ranks c.add_event.new.slots (c.loop-place.place + 1)
    (traced-more c.args.shape.now c.args.journal.now _ _ c.loop-place.block c.loop-place.ranks c.loop-place.slots c.loop-place.place c.loop-place.invariant.traced
    c.event-item.result c.add_event.new.text c.add_event.new.ranks c.add_event.new.slots (rw (sym c.as_slice-event-items.ensures) c.loop-place-test.true) (rw (sym c.as_slice-event-items.ensures) c.event-item.is)
    c.in_ok-add_event.ensures.text c.in_ok-add_event.ensures.ranks c.in_ok-add_event.ensures.slots) _ c.in_err-write_full_block.ensures.front)

pub returns-in_err-write_full_block-clause-cause : goal.returns-in_err-write_full_block-clause-cause
returns-in_err-write_full_block-clause-cause g c = λ is.
    subst (λ (n : ℕ). HasCause n (g.K.Sink.faults c.write_full_block.new.sink)) c.loop-place.invariant.still c.in_err-write_full_block.ensures.cause

pub loop-place-preserved : goal.loop-place-preserved
loop-place-preserved g c =
    let more =
    traced-more c.args.shape.now c.args.journal.now _ _ c.loop-place.block c.loop-place.ranks c.loop-place.slots c.loop-place.place c.loop-place.invariant.traced
    c.event-item.result c.add_event.new.text c.add_event.new.ranks c.add_event.new.slots (rw (sym c.as_slice-event-items.ensures) c.loop-place-test.true) (rw (sym c.as_slice-event-items.ensures) c.event-item.is)
    c.in_ok-add_event.ensures.text c.in_ok-add_event.ensures.ranks c.in_ok-add_event.ensures.slots in
    record {
      traced = record { text = more.text; way = c.in_ok-write_full_block.ensures.way _ more.text more.way; left = more.left };
      short = subst (λ (rs : List RankEntries). IsShort rs (c.loop-place.place + 1)) (sym c.in_ok-add_event.ensures.ranks) (short-more c.loop-place.ranks c.loop-place.place c.event-item.result c.loop-place.invariant.short);
      still = c.in_ok-write_full_block.ensures.still ∙ c.loop-place.invariant.still;
    }

pub returns-in_err-append-clause-front : goal.returns-in_err-append-clause-front
returns-in_err-append-clause-front g c =
    on-err c.from_residual-in_err-append.result
    (traced-cut c.args.shape.now c.args.journal.now _ _ c.loop-place.block c.loop-place.ranks c.loop-place.slots c.loop-place.place c.loop-place.invariant.traced)

pub returns-in_err-append-clause-lacks : goal.returns-in_err-append-clause-lacks
returns-in_err-append-clause-lacks g c = λ is. c.loop-place.invariant.still

pub returns-in_err-write_block-clause-front : goal.returns-in_err-write_block-clause-front
returns-in_err-write_block-clause-front g c =
    on-err c.from_residual-in_err-write_block.result
    (last-fault _ _ _ _ c.append.new.self
    (traced-end c.args.shape.now c.args.journal.now _ _ c.loop-place.block c.loop-place.ranks c.loop-place.slots c.loop-place.place c.loop-place.invariant.traced
    c.append.new.self (rw (sym c.as_slice-event-items.ensures) c.loop-place-test.false) c.in_ok-append.ensures.ok) c.in_err-write_block.ensures.front)

pub returns-in_err-write_block-clause-cause : goal.returns-in_err-write_block-clause-cause
returns-in_err-write_block-clause-cause g c = λ is.
    subst (λ (n : ℕ). HasCause n (g.K.Sink.faults c.write_block.new.sink)) c.loop-place.invariant.still c.in_err-write_block.ensures.cause

pub returns-clause-all : goal.returns-clause-all
returns-clause-all g c =
    trace-arrived _ _ _ _ c.append.new.self
    (traced-end c.args.shape.now c.args.journal.now _ _ c.loop-place.block c.loop-place.ranks c.loop-place.slots c.loop-place.place c.loop-place.invariant.traced
    c.append.new.self (rw (sym c.as_slice-event-items.ensures) c.loop-place-test.false) c.in_ok-append.ensures.ok) c.in_ok-write_block.ensures.all

pub returns-clause-still : goal.returns-clause-still
returns-clause-still g c = c.in_ok-write_block.ensures.still ∙ c.loop-place.invariant.still
