use Rattle.std.proofs.Common.{ℕ, ◌+◌, refl, sym, ◌∙◌, subst}
use Rattle.gaspi_io.specs.Faults.{HasCause}
use Rattle.gaspi_run.proofs.WrittenJournals.{begins, stops-before, with-line, fails-in, with-end, fails-in-last, ends-whole, on-err}
use Rattle.gaspi_run.proofs.journal_output.write_journal.Goals as goal

pub loop-place-init : goal.loop-place-init
loop-place-init g c = (begins _ c.args.journal.now c.in_ok-block.block c.append.new.self c.in_ok-block.ensures c.in_ok-append.ensures.ok, refl)

pub returns-in_err-write_event_line-clause-front : goal.returns-in_err-write_event_line-clause-front
returns-in_err-write_event_line-clause-front g c =
    on-err c.from_residual-in_err-write_event_line.result (stops-before _ c.args.journal.now c.loop-place.place _ c.loop-place.block c.loop-place.invariant.0)

pub returns-in_err-write_event_line-clause-lacks : goal.returns-in_err-write_event_line-clause-lacks
returns-in_err-write_event_line-clause-lacks g c = λ is. c.loop-place.invariant.1

pub returns-in_err-write_full_block-clause-front : goal.returns-in_err-write_full_block-clause-front
returns-in_err-write_full_block-clause-front g c =
    on-err c.from_residual-in_err-write_full_block.result
    (fails-in _ c.args.journal.now (c.loop-place.place + 1) _ _ c.write_event_line.new.text
    (with-line _ c.args.journal.now c.loop-place.place c.event-item.result _ c.loop-place.block c.write_event_line.new.text
    (rw (sym c.as_slice-event-items.ensures) c.loop-place-test.true) (rw (sym c.as_slice-event-items.ensures) c.event-item.is) c.loop-place.invariant.0 c.in_ok-write_event_line.ensures.ok)
    c.in_err-write_full_block.ensures.front)

pub returns-in_err-write_full_block-clause-cause : goal.returns-in_err-write_full_block-clause-cause
returns-in_err-write_full_block-clause-cause g c = λ is.
    subst (λ (n : ℕ). HasCause n (g.K.Sink.faults c.write_full_block.new.sink)) c.loop-place.invariant.1 c.in_err-write_full_block.ensures.cause

pub loop-place-preserved : goal.loop-place-preserved
loop-place-preserved g c = (
  c.in_ok-write_full_block.ensures.way _ _
      (with-line _ c.args.journal.now c.loop-place.place c.event-item.result _ c.loop-place.block c.write_event_line.new.text
      (rw (sym c.as_slice-event-items.ensures) c.loop-place-test.true) (rw (sym c.as_slice-event-items.ensures) c.event-item.is) c.loop-place.invariant.0 c.in_ok-write_event_line.ensures.ok),
  c.in_ok-write_full_block.ensures.still ∙ c.loop-place.invariant.1,
)

pub returns-in_err-write_end_line-clause-front : goal.returns-in_err-write_end_line-clause-front
returns-in_err-write_end_line-clause-front g c =
    on-err c.from_residual-in_err-write_end_line.result (stops-before _ c.args.journal.now c.loop-place.place _ c.loop-place.block c.loop-place.invariant.0)

pub returns-in_err-write_end_line-clause-lacks : goal.returns-in_err-write_end_line-clause-lacks
returns-in_err-write_end_line-clause-lacks g c = λ is. c.loop-place.invariant.1

pub returns-in_err-write_block-clause-front : goal.returns-in_err-write_block-clause-front
returns-in_err-write_block-clause-front g c =
    on-err c.from_residual-in_err-write_block.result
    (fails-in-last _ c.args.journal.now _ _ c.write_end_line.new.text
    (with-end _ c.args.journal.now c.loop-place.place _ c.loop-place.block c.write_end_line.new.text (rw (sym c.as_slice-event-items.ensures) c.loop-place-test.false) c.loop-place.invariant.0
    (rw (sym c.len.ensures) c.in_ok-write_end_line.ensures.ok))
    c.in_err-write_block.ensures.front)

pub returns-in_err-write_block-clause-cause : goal.returns-in_err-write_block-clause-cause
returns-in_err-write_block-clause-cause g c = λ is.
    subst (λ (n : ℕ). HasCause n (g.K.Sink.faults c.write_block.new.sink)) c.loop-place.invariant.1 c.in_err-write_block.ensures.cause

pub returns-clause-all : goal.returns-clause-all
returns-clause-all g c =
    ends-whole _ c.args.journal.now _ _ c.write_end_line.new.text
    (with-end _ c.args.journal.now c.loop-place.place _ c.loop-place.block c.write_end_line.new.text (rw (sym c.as_slice-event-items.ensures) c.loop-place-test.false) c.loop-place.invariant.0
    (rw (sym c.len.ensures) c.in_ok-write_end_line.ensures.ok))
    c.in_ok-write_block.ensures.all

pub returns-clause-still : goal.returns-clause-still
returns-clause-still g c = c.in_ok-write_block.ensures.still ∙ c.loop-place.invariant.1
