use Rattle.std.proofs.Common.{rules, sym}
use Rattle.std.proofs.lemmas.List.Sorted.{IsPartitionPoint-from_clause}
use Rattle.plain_machine.specs.NonemptyLanes.{is_before}
use Rattle.plain_machine.proofs.Halves.{prefix_is}
use Rattle.plain_machine.proofs.nonempty_lanes.place_among.Goals as goal

pub returns-clause-place : goal.returns-clause-place
returns-clause-place c =
    sym (prefix_is (λ x. is_before x c.args.id.now) c.args.lanes.now c.partition_point.result c.partition_point.ensures.bound
    (IsPartitionPoint-from_clause (λ x. is_before x c.args.id.now) _ _ c.partition_point.ensures.partitioned c.requires (λ a r q k. search rules)))
