use Rattle.rank_script.proofs.RingWorld.{refused-segment, refused-caller}
use Rattle.rank_script.proofs.bench.declare_rank.Goals as goal

pub no_memory-requires : goal.no_memory-requires
no_memory-requires c =
    refused-segment c.in-Err.fault c.args.shape.now c.add_segment.new.self c.args.rank c.from.result c.from.ensures c.requires.rank c.requires.segments c.in-Err.ensures

pub no_memory-requires-in-Err-add_caller : goal.no_memory-requires-in-Err-add_caller
no_memory-requires-in-Err-add_caller c =
    refused-caller c.in-Err-add_caller.fault c.args.shape.now c.add_segment.new.self c.add_caller.new.self c.args.rank c.from.result c.from-2.result c.from.ensures c.from-2.ensures c.requires.rank c.requires.events
    c.requires.segments c.requires.callers c.in-Ok.ensures c.in-Err-add_caller.ensures
