use Rattle.std.proofs.Common.{◌≡◌, take, Ok}
use Rattle.std.specs.Prelude.{count_by}
use Rattle.gaspi_model.specs.Step.{reached}
use Rattle.call_journal.specs.Numbers.{is_call, is_found_reset, is_transfer}
use Rattle.call_journal.proofs.journal_numbers.bench_numbers.Given as goal

-- the events so far lead to the machine's state, and are counted
abbrev pub invariant-loop-event : goal.invariant-loop-event
invariant-loop-event l = record {
  leads : reached l.shape (take l.event-index l.journal) ≡ Ok l.machine;
  calls : l.numbers.calls ≡ count_by is_call (take l.event-index l.journal);
  transfers : l.numbers.transfers ≡ count_by is_transfer (take l.event-index l.journal);
  notifications : l.numbers.notifications ≡ count_by is_found_reset (take l.event-index l.journal);
}
