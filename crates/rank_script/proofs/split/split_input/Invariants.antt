use Rattle.std.proofs.Common.{◌≡◌, ◌+◌, ◌-◌, ◌≤◌, length}
use Rattle.call_texts.specs.Lines.{fed_lines}
use Rattle.rank_script.specs.WorldText.{journal_offset, journal_from}
use Rattle.rank_script.proofs.split.split_input.Given as goal

-- what is left to search gives what the whole text gives
abbrev pub invariant-loop-rest : goal.invariant-loop-rest
invariant-loop-rest l = record {
  same : journal_offset l.text ≡ journal_from (length l.text - length l.rest) l.number (fed_lines l.rest);
  room : l.number + length l.rest ≤ length l.text + 1;
  within : length l.rest ≤ length l.text;
  some : 1 ≤ l.number;
}

abbrev pub decreases-loop-rest : goal.decreases-loop-rest
decreases-loop-rest l = length l.rest
