use Rattle.segment_store.proofs.Kept.{sound-nothing}
use Rattle.segment_store.proofs.segments.Segments.new.Goals as goal

pub invariant_of-result : goal.invariant_of-result
invariant_of-result c = sound-nothing c.args.ranks _ _ c.requires c.in_ok-nothing_known.ensures c.in_ok-no_segments.ensures
