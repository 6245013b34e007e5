use Rattle.std.proofs.lemmas.List.{take_rest}
use Rattle.gaspi_io.proofs.Written.{wrote_more}
use Rattle.gaspi_io.proofs.write.write_all.Goals as goal

pub loop-done-preserved : goal.loop-done-preserved
loop-done-preserved g c =
    wrote_more _ _ _ _ _ _ c.loop-done.invariant _ (take_rest c.args.piece.now c.loop-done.done) _ c.in_ok-done.ensures.count _ c.in_ok-done.ensures.held _ c.in_ok-done.ensures.still
