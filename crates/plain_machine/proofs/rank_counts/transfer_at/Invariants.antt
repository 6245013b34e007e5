use Rattle.std.proofs.Common.{◌≡◌, ◌+◌, length}
use Rattle.std.specs.List.{flat_map, range_with_len}
use Rattle.plain_machine.specs.RankCounts.{transfers_of}
use Rattle.plain_machine.proofs.rank_counts.transfer_at.Given as goal

abbrev pub invariant-loop-rank : goal.invariant-loop-rank
invariant-loop-rank l = l.place ≡ length (flat_map (transfers_of l.limits l.posts) (range_with_len 0 l.rank)) + l.left
