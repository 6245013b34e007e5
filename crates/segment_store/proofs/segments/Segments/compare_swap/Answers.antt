use Rattle.gaspi_types.proofs.Written.{with_swap-length}
use Rattle.segment_store.proofs.Kept.{sound-bytes}
use Rattle.segment_store.proofs.segments.Segments.compare_swap.Goals as goal

pub invariant_of-self : goal.invariant_of-self
invariant_of-self c = sound-bytes (record { table = c.self.inside.table; segments = c.self.inside.own }) _ _ _ c.self.invariant c.swap_in_segment.ensures (with_swap-length _ _ _ _)
