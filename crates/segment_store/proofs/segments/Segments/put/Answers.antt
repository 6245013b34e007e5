use Rattle.gaspi_types.proofs.Written.{with_range-length}
use Rattle.segment_store.proofs.Kept.{sound-bytes}
use Rattle.segment_store.proofs.segments.Segments.put.Goals as goal

pub invariant_of-self : goal.invariant_of-self
invariant_of-self c = sound-bytes (record { table = c.self.inside.table; segments = c.self.inside.own }) _ _ _ c.self.invariant c.store_bytes.ensures (with_range-length _ _ _)
