use Rattle.std.proofs.Common.{◌≡◌, ◌+◌, ◌≤◌, length}
use Rattle.call_texts.specs.Lines.{fed_lines}
use Rattle.journal_view.proofs.viewing.line_count.Given as goal

-- the lines so far, and those behind
abbrev pub invariant-loop-rest : goal.invariant-loop-rest
invariant-loop-rest l = record {
  all : l.count + length (fed_lines l.rest) ≡ length (fed_lines l.text);
  short : l.count + length l.rest ≤ length l.text;
}

abbrev pub decreases-loop-rest : goal.decreases-loop-rest
decreases-loop-rest l = length l.rest
