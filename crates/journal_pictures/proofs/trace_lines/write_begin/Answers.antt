use Rattle.journal_pictures.specs.Trace.{entry_members}
use Rattle.journal_pictures.proofs.trace_lines.write_begin.Goals as goal

pub returns : goal.returns
returns c = c.end_mark.ensures c.args.text.now (entry_members c.args.entry.now) c.in_ok-append_entry.ensures
