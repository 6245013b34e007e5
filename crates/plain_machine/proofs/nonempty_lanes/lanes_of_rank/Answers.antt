use Rattle.std.proofs.Common.{◌≡◌, ℕ, ◌++◌, List, length, rules, sym, subst, ◌∙◌}
use Rattle.std.specs.List.Sorted.{IsPartitionedBy}
use Rattle.std.proofs.lemmas.List.Sorted.{IsPartitionPoint-from_clause}
use Rattle.plain_machine.specs.NonemptyLanes.{nonempty_lanes_of}
use Rattle.plain_machine.specs.declared.nonempty_lanes.LaneId.{LaneId}
use Rattle.plain_machine.proofs.Halves.{parted, ends_at, rest_of, front_of}
use Rattle.plain_machine.proofs.OwnLanes.{is_earlier, is_no_later, split}
use Rattle.plain_machine.proofs.nonempty_lanes.lanes_of_rank.Goals as goal

pub returns : goal.returns
returns c = λ posts is.
    let rank : ℕ = c.args.rank in
    let own : List LaneId = nonempty_lanes_of posts rank in
    let s = split posts rank in
    let whole : c.args.lanes.now ≡ s.front ++ (own ++ s.back) = is ∙ s.is in
    let first =
    IsPartitionPoint-from_clause (is_earlier rank) _ _ c.partition_point-earlier.ensures.partitioned
    (subst (IsPartitionedBy (is_earlier rank)) (sym whole) (parted (is_earlier rank) s.front (own ++ s.back) s.earlier s.others)) (λ a r q k. search rules) in
    let behind : length s.front ≡ c.partition_point-earlier.result = ends_at (is_earlier rank) c.args.lanes.now s.front (own ++ s.back) c.partition_point-earlier.result whole s.earlier s.others c.partition_point-earlier.ensures.bound first in
    let others : c.split_at.result.1.now ≡ own ++ s.back = c.split_at.ensures.back ∙ rest_of c.args.lanes.now s.front (own ++ s.back) c.partition_point-earlier.result whole behind in
    let second =
    IsPartitionPoint-from_clause (is_no_later rank) _ _ c.partition_point-count.ensures.partitioned
    (subst (IsPartitionedBy (is_no_later rank)) (sym others) (parted (is_no_later rank) own s.back s.own_ones s.later)) (λ a r q k. search rules) in
    let past : length own ≡ c.partition_point-count.result = ends_at (is_no_later rank) c.split_at.result.1.now own s.back c.partition_point-count.result others s.own_ones s.later c.partition_point-count.ensures.bound second in
    c.split_at-2.ensures.front ∙ front_of c.split_at.result.1.now own s.back c.partition_point-count.result others past
