use Rattle.std.proofs.Common.{◌≡◌, ℕ, ◌+◌, ◌-◌, ◌<◌, ◌≤◌, false, get_or, length, slice_get, Some, vec_len, vec_capacity}
use mathlib.Core.Option.{some}
use lib.ListN.{get_elem?}
use Rattle.std.specs.Mem.Slots.{slots_filled, slots_items, slots_len}
use Rattle.std.specs.Mem.Slots.Ownership.{Filled}
use Rattle.commit_table.specs.Calls.{slot_of}
use Rattle.commit_table.proofs.close.move_values.Given as goal

abbrev pub invariant-loop-i : goal.invariant-loop-i
invariant-loop-i g l = record {
  filled : Filled (slots_filled l.closed.slots) l.i (slots_len l.closed.slots);
  emptied : (k : ℕ) → k < l.i → get_or (slots_filled l.closed.slots) k false ≡ false;
  items : slots_items l.closed.slots ≡ slots_items l.fn.closed.slots;
  size : slots_len l.closed.slots ≡ slots_len l.fn.closed.slots;
  below : l.i ≤ l.count;
  counted : l.count ≡ slots_len l.fn.closed.slots;
  len : vec_len l.room ≡ length l.room.items;
  room : l.count ≤ slot_of (vec_capacity l.room);
  count : (l.i ≤ slot_of (length l.room.items)) × (slot_of (length l.room.items) < l.i + 8);
  same : (k : ℕ) (x : g.row.X.Denot) → slice_get l.room.items k ≡ Some x → get_elem? (slots_items l.fn.closed.slots) (slot_of k) ≡ some (Some x);
}

abbrev pub decreases-loop-i : goal.decreases-loop-i
decreases-loop-i g l = l.count - l.i
