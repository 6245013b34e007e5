use Rattle.std.proofs.Common.{◌≡◌, ◌++◌, drop, map}
use Rattle.journal_pictures.specs.JsonLines.{lines}
use Rattle.journal_pictures.specs.Trace.{span_begin}
use Rattle.journal_pictures.proofs.trace_lines.write_begins.Given as goal

-- the lines so far, and those that are left
abbrev pub invariant-loop-entry : goal.invariant-loop-entry
invariant-loop-entry l = l.text ++ lines (map (span_begin l.place l.origin) (drop l.entry-index l.entries)) ≡ l.fn.text ++ lines (map (span_begin l.place l.origin) l.entries)
