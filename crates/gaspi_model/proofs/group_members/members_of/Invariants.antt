use Rattle.std.proofs.Common.{◌≡◌, ◌≤◌, take, filter, length}
use Rattle.std.specs.List.{range_with_len}
use Rattle.gaspi_types.specs.Masks.{is_member}
use Rattle.gaspi_model.proofs.group_members.members_of.Given as goal

abbrev pub invariant-loop-number : goal.invariant-loop-number
invariant-loop-number l = record {
  ranks : take l.count l.ranks ≡ filter (is_member l.mask) (range_with_len 0 l.number);
  count : l.count ≤ l.number;
  room : length l.ranks ≡ 16;
}
