use Rattle.std.proofs.Common.{refl}
use Rattle.segment_store.proofs.Kept.{sound-deleted}
use Rattle.segment_store.proofs.segments.Segments.delete.Goals as goal

pub invariant_of-self : goal.invariant_of-self
invariant_of-self c =
    sound-deleted (record { table = c.self.inside.table; segments = c.self.inside.own }) _ _ c.args.seg c.self.invariant c.remove_own.ensures refl
