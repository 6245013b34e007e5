use Rattle.journal_pictures.proofs.trace_lines.write_arrow_to.Goals as goal

pub returns-in-Some : goal.returns-in-Some
returns-in-Some c = rw c.in-Some.is c.write_arrow.ensures
