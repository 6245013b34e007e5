use Rattle.std.proofs.Common.{◌≡◌, ℕ, [], map, slice_get, Some}
use Rattle.commit_table.specs.Views.{closing_seat}
use Rattle.commit_table.specs.Calls.{PassValue, IsOf, HoldsNone}
use Rattle.commit_table.proofs.close.join_all.Given as goal

abbrev pub invariant-loop-pass : goal.invariant-loop-pass
invariant-loop-pass g l = record {
  table : l.seat.table_id ≡ l.board.table_id;
  told : l.seat.me ≡ (closing_seat l.board.key.start l.seat.me.0.known.seen (map (λ p. p.known) l.yielded), []);
  left : (k : ℕ) (p : PassValue g.row.M.Denot g.row.M-Event.Denot) → slice_get l.pass-iterator.rest.items k ≡ Some p → IsOf (record { table = l.board.table_id; start = l.board.key.start; passes = l.board.key.passes }) p × HoldsNone p.known;
}
