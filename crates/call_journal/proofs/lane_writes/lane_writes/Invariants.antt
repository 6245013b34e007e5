use Rattle.std.proofs.Common.{◌≡◌, ◌*◌, ◌≤◌, true}
use Rattle.gaspi_types.specs.World.{ShapeValue, IsShape}
use Rattle.gaspi_model.specs.Step.{is_legal}
use Rattle.call_journal.specs.Tracked.{IsTracked, Rise}
use Rattle.call_journal.proofs.lane_writes.lane_writes.Given as goal

-- what the events so far tell, where the journal is legal
abbrev pub invariant-loop-before : goal.invariant-loop-before
invariant-loop-before l = record {
  few : l.found.next ≤ 257 * l.before;
  rise : Rise 0 l.found.writes.items l.found.next;
  tracked : (w : ShapeValue) → IsShape w → is_legal w l.journal ≡ true → IsTracked w l.journal l.before l.at l.found.next l.found.notified l.found.writes.items;
}
