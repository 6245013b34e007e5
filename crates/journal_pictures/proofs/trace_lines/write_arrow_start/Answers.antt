use Rattle.json.specs.Print.{escape_byte}
use Rattle.journal_pictures.proofs.trace_lines.write_arrow_start.Goals as goal

pub returns : goal.returns
unfolding escape_byte
returns c = rw (c.from.ensures, c.number.ensures.value, c.queue_track.ensures) at c.append_pieces.ensures
