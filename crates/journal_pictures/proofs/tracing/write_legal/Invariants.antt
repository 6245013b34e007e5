use Rattle.std.proofs.Common.{◌≡◌}
use Rattle.journal_pictures.proofs.OpenTables.{IsShort}
use Rattle.journal_pictures.proofs.TracedSoFar.{IsTraced}
use Rattle.journal_pictures.proofs.tracing.write_legal.Given as goal

-- the events so far are on their way
abbrev pub invariant-loop-place : goal.invariant-loop-place
invariant-loop-place g l = record {
  traced : IsTraced l.shape l.journal (g.K.Sink.held l.fn.sink) (g.K.Sink.held l.sink) l.block l.ranks l.slots l.place;
  short : IsShort l.ranks l.place;
  still : g.K.Sink.faults l.sink ≡ g.K.Sink.faults l.fn.sink;
}
