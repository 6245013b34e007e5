use Rattle.std.proofs.Common.{sym}
use Rattle.journal_pictures.proofs.trace_lines.write_take.Goals as goal

pub returns-in-Failed : goal.returns-in-Failed
returns-in-Failed c = rw (c.in-Failed.is, sym c.from-number.ensures) c.write_end.ensures

pub returns-in-Applied : goal.returns-in-Applied
returns-in-Applied c = rw (c.in-Applied.is, sym c.from-number.ensures) c.write_step.ensures
