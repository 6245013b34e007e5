use Rattle.segment_store.proofs.Kept.{sound-known}
use Rattle.segment_store.proofs.segments.Segments.register.Goals as goal

pub invariant_of-self : goal.invariant_of-self
invariant_of-self c = sound-known (record { table = c.self.inside.table; segments = c.self.inside.own }) _ _ _ _ c.self.invariant c.set_known.ensures
