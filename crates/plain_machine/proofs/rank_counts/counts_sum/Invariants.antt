use Rattle.std.proofs.Common.{◌≡◌, ◌≤◌, ◌*◌, length}
use Rattle.std.specs.List.{flat_map, range_with_len}
use Rattle.plain_machine.specs.RankCounts.{transfers_of, AreRankCounts}
use Rattle.plain_machine.proofs.rank_counts.counts_sum.Given as goal

abbrev pub invariant-loop-rank : goal.invariant-loop-rank
invariant-loop-rank l =
    (l.count ≡ length (flat_map (transfers_of l.limits l.posts) (range_with_len 0 l.rank)))
    × (l.count ≤ l.rank * 65536)
    × AreRankCounts l.limits l.posts l.counts
