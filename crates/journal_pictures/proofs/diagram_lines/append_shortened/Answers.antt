use Rattle.std.proofs.Common.{sym, arith}
use Rattle.std.proofs.lemmas.List.{length-take-le}
use Rattle.journal_pictures.proofs.diagram_lines.append_shortened.Goals as goal

pub slice_bounds-first-end : goal.slice_bounds-first-end
slice_bounds-first-end c = let long = c.if-told-gt-MOST_BYTES.true in sym (length-take-le 57 c.args.told.now (omega arith))
