use Rattle.std.proofs.Common.{sym, ◌∙◌, arith}
use Rattle.gaspi_types.proofs.Declarations.{IsWorld-segment}
use Rattle.gaspi_types.proofs.shapes.Shape.add_segment.Goals as goal

pub invariant_of-self-2 : goal.invariant_of-self-2
invariant_of-self-2 c =
    IsWorld-segment (record { limits = c.self.inside.limits; segments = c.self.inside.segments; callers = c.self.inside.callers }) _ _
    (record { rank = c.of.result; segment = c.of-2.result; size = c.args.size }) c.args.rank c.args.seg c.self.invariant
    c.in_ok-push.ensures.ok c.of.ensures c.of-2.ensures
    c.as_slice.ensures (sym c.has_segment.ensures ∙ c.if-has_segment.false) (omega arith) (omega arith) (sym c.is_segment_size.ensures ∙ c.if-not-is_segment_size.false)
