use Rattle.std.proofs.Common.{◌≡◌}
use Rattle.gaspi_run.proofs.WrittenJournals.{IsBefore}
use Rattle.gaspi_run.proofs.journal_output.write_journal.Given as goal

-- the lines of the events so far are on their way, and the sink has not failed
abbrev pub invariant-loop-place : goal.invariant-loop-place
invariant-loop-place g l =
    IsBefore (g.K.Sink.held l.initial.sink) l.journal l.place (g.K.Sink.held l.sink) l.block × (g.K.Sink.faults l.sink ≡ g.K.Sink.faults l.initial.sink)
