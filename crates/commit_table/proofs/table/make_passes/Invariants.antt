use Rattle.std.proofs.Common.{◌≡◌, ℕ, ◌<◌, [], length, slice_get, Some}
use Rattle.commit_table.specs.Views.{splitting_seat, new_pass}
use Rattle.commit_table.proofs.table.make_passes.Given as goal

abbrev pub invariant-loop-party : goal.invariant-loop-party
invariant-loop-party g l = record {
  table : l.seat.table_id ≡ l.board.table_id;
  ready : l.seat.me ≡ (splitting_seat l.board.key.start l.party l.n, []);
  count : length l.passes.items ≡ l.party;
  passes : (k : ℕ) → k < l.party → slice_get l.passes.items k ≡ Some (record { table = l.board.table_id; known = new_pass l.board.key.start (Some k) [] });
}
