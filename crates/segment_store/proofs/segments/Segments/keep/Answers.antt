use Rattle.std.proofs.Common.{sym, ap, ◌∙◌}
use Rattle.gaspi_types.specs.SegmentTables.{next_generation}
use Rattle.gaspi_types.specs.Segments.{new_segment}
use Rattle.segment_store.specs.Segments.{SegmentsValue}
use Rattle.segment_store.proofs.Kept.{sound-made}
use Rattle.segment_store.proofs.segments.Segments.keep.Goals as goal

pub invariant_of-self : goal.invariant_of-self
invariant_of-self c =
    let new = c.requires.segment ∙ ap (λ (s : SegmentsValue). new_segment (next_generation s.table.next_generations c.args.seg) c.args.size) (sym c.self.view_is) in
    rw (c.add_own.ensures, new) (sound-made (record { table = c.self.inside.table; segments = c.self.inside.own }) c.args.seg c.args.size c.self.invariant c.requires.number c.requires.size)
