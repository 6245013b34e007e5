use Rattle.std.proofs.Common.{◌≡◌, ◌∙◌, ◌<◌, ◌%◌, ◌^◌, ℕ, sym, ap, arith, List, get_or, length, take, Err, rules}
use Rattle.std.specs.Prelude.{count_by}
use Rattle.std.proofs.lemmas.List.{take_all}
use Rattle.gaspi_types.specs.declared.events.Event.{Event}
use Rattle.gaspi_types.specs.declared.shapes.Limits.{Limits}
use Rattle.gaspi_model.specs.Step.{reached}
use Rattle.call_journal.specs.Numbers.{IsIllegal, is_call, is_found_reset, is_transfer, words_until}
use Rattle.call_journal.proofs.Counted.{counted-more, counted-most, few_ranks, illegal_at, reached-more}
use Rattle.call_journal.proofs.journal_numbers.bench_numbers.Goals as goal

pub count-requires-clause-calls : goal.count-requires-clause-calls
count-requires-clause-calls c =
    let less : c.loop-event.event-index < length c.args.journal.now = rw (sym c.as_slice-event-items.ensures) c.loop-event-test.true in
    let most = counted-most is_call c.args.journal.now c.loop-event.event-index (omega (arith, less)) in
    let so_far = c.loop-event.invariant.calls in
    omega (arith, most, so_far)

pub count-requires-clause-transfers : goal.count-requires-clause-transfers
count-requires-clause-transfers c =
    let less : c.loop-event.event-index < length c.args.journal.now = rw (sym c.as_slice-event-items.ensures) c.loop-event-test.true in
    let most = counted-most is_transfer c.args.journal.now c.loop-event.event-index (omega (arith, less)) in
    let so_far = c.loop-event.invariant.transfers in
    omega (arith, most, so_far)

pub count-requires-clause-notifications : goal.count-requires-clause-notifications
count-requires-clause-notifications c =
    let less : c.loop-event.event-index < length c.args.journal.now = rw (sym c.as_slice-event-items.ensures) c.loop-event-test.true in
    let most = counted-most is_found_reset c.args.journal.now c.loop-event.event-index (omega (arith, less)) in
    let so_far = c.loop-event.invariant.notifications in
    omega (arith, most, so_far)

pub loop-event-preserved : goal.loop-event-preserved
loop-event-preserved c =
    let place = c.loop-event.event-index in
    let event = c.event-item.result in
    let less : c.loop-event.event-index < length c.args.journal.now = rw (sym c.as_slice-event-items.ensures) c.loop-event-test.true in
    let at : c.event-item.result ≡ get_or c.args.journal.now c.loop-event.event-index c.event-item.result = rw (sym c.as_slice-event-items.ensures) c.event-item.is in
    record {
      leads = reached-more c.args.shape.now c.args.journal.now place event c.loop-event.machine less at c.loop-event.invariant.leads c.step.new.self c.in_ok-step.ensures.step;
      calls = counted-more is_call c.args.journal.now place event less at _ _ c.loop-event.invariant.calls c.count.ensures.calls;
      transfers = counted-more is_transfer c.args.journal.now place event less at _ _ c.loop-event.invariant.transfers c.count.ensures.transfers;
      notifications = counted-more is_found_reset c.args.journal.now place event less at _ _ c.loop-event.invariant.notifications c.count.ensures.notifications;
    }

pub returns-in_err-step-clause-illegal : goal.returns-in_err-step-clause-illegal
returns-in_err-step-clause-illegal c =
    let less : c.loop-event.event-index < length c.args.journal.now = rw (sym c.as_slice-event-items.ensures) c.loop-event-test.true in
    let at : c.event-item.result ≡ get_or c.args.journal.now c.loop-event.event-index c.event-item.result = rw (sym c.as_slice-event-items.ensures) c.event-item.is in
    let illegal : IsIllegal c.args.shape.now c.args.journal.now c.in_err-step.field-0.0
    = illegal_at c.args.shape.now c.args.journal.now c.loop-event.event-index c.event-item.result c.loop-event.machine less at c.loop-event.invariant.leads c.step.new.self
    c.in_err-step.field-0.0 c.in_err-step.ensures.step in
    let same : c.from_residual.result ≡ Err c.in_err-step.field-0.0 = search rules in
    rw same illegal

pub sum_of_words-requires : goal.sum_of_words-requires
sum_of_words-requires c = few_ranks c.limits.result c.limits.ensures.within

pub returns-clause-numbers : goal.returns-clause-numbers
returns-clause-numbers c =
    let past = rw c.as_slice-event-items.ensures at c.loop-event-test.false in
    let whole : take c.loop-event.event-index c.args.journal.now ≡ c.args.journal.now = take_all c.loop-event.event-index c.args.journal.now past in
    record {
      calls = c.loop-event.invariant.calls ∙ ap (count_by is_call) whole;
      transfers = c.loop-event.invariant.transfers ∙ ap (count_by is_transfer) whole;
      notifications = c.loop-event.invariant.notifications ∙ ap (count_by is_found_reset) whole;
      state = c.loop-event.machine;
      leads = ap (λ (events : List Event). reached c.args.shape.now events) (sym whole) ∙ c.loop-event.invariant.leads;
      sum = c.sum_of_words.ensures ∙ ap (λ (ranks : ℕ). words_until c.loop-event.machine ranks % 2 ^ 64) (ap (λ (limits : Limits). limits.ranks) c.limits.ensures.value);
    }
