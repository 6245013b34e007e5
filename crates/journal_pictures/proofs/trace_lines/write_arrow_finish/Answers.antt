use Rattle.json.specs.Print.{escape_byte}
use Rattle.journal_pictures.proofs.trace_lines.write_arrow_finish.Goals as goal

pub returns : goal.returns
unfolding escape_byte
returns c = rw (c.from.ensures, c.number.ensures.value, c.from-2.ensures, c.number-2.ensures.value) at c.append_pieces.ensures
