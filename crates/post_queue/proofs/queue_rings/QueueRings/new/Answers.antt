use Rattle.std.proofs.Common.{List, map, None, ◌∙◌, ap}
use Rattle.gaspi_types.specs.declared.entries.Entry.{Entry}
use Rattle.post_queue.specs.LaneStates.{LaneValue}
use Rattle.post_queue.specs.QueueStates.{entries_of}
use Rattle.post_queue.proofs.Queues.{new-queue, fresh, laned}
use Rattle.post_queue.proofs.Nonempty.{nonempty-none, none-fresh}
use Rattle.post_queue.proofs.queue_rings.QueueRings.new.Goals as goal

pub invariant_of-result : goal.invariant_of-result
invariant_of-result c = record {
  queue = new-queue c.args.depth c.args.ranks c.in_ok-empty_lanes.field-0 c.new.result c.requires.depth c.requires.ranks c.in_ok-empty_lanes.ensures c.new.ensures;
  nonempty = nonempty-none c.in_ok-empty_lanes.field-0 (λ target. rw c.in_ok-empty_lanes.ensures (none-fresh c.args.ranks c.args.depth target));
}

pub returns : goal.returns
returns c = ap (λ (ls : List (List Entry)). laned c.args.depth 0 None ls) (ap (λ (lanes : List LaneValue). map entries_of lanes) c.in_ok-empty_lanes.ensures ∙ fresh c.args.ranks c.args.depth)
