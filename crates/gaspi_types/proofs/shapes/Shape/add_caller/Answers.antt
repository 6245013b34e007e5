use Rattle.std.proofs.Common.{sym, ◌∙◌, arith}
use Rattle.gaspi_types.proofs.Declarations.{IsWorld-counted}
use Rattle.gaspi_types.proofs.shapes.Shape.add_caller.Goals as goal

pub invariant_of-self-2 : goal.invariant_of-self-2
invariant_of-self-2 c =
    IsWorld-counted (record { limits = c.self.inside.limits; segments = c.self.inside.segments; callers = c.self.inside.callers }) _ _ _
    (record { rank = c.of.result; thread = c.of-2.result }) c.args.rank c.args.thread c.threads_of.result c.self.invariant
    c.in_ok-push.ensures.ok c.of.ensures c.of-2.ensures c.as_slice-2.ensures c.threads_of.ensures c.if-threads_of-self.false
    c.as_slice.ensures (sym c.has_caller.ensures ∙ c.if-has_caller.false) (omega arith) (omega arith)
