use Rattle.std.proofs.Common.{◌≡◌, ◌++◌, take}
use Rattle.std.specs.List.{concat}
use Rattle.gaspi_texts.specs.JournalText.{first_line, event_lines}
use Rattle.gaspi_texts.proofs.journal_writing.append_journal.Given as goal

-- the first line and those of the events so far are there
abbrev pub invariant-loop-place : goal.invariant-loop-place
invariant-loop-place l = l.text ≡ l.fn.text ++ (first_line ++ concat (event_lines 0 (take l.place l.journal)))
