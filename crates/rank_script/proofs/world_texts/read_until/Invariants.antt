use Rattle.std.proofs.Common.{◌≡◌, ◌+◌, ◌-◌, ◌≤◌, length, map}
use Rattle.call_texts.specs.Lines.{fed_lines, plain_line}
use Rattle.rank_script.specs.WorldText.{empty_reading, read_lines}
use Rattle.rank_script.specs.UntilJournal.{lines_until, until_from}
use Rattle.rank_script.specs.Readings.{reading_of, Accords}
use Rattle.rank_script.proofs.world_texts.read_until.Given as goal

-- what is left to read gives what the whole text gives
abbrev pub invariant-loop-rest : goal.invariant-loop-rest
invariant-loop-rest l = record {
  same : read_lines empty_reading 1 (map plain_line (lines_until l.journal (fed_lines l.text)))
      ≡ read_lines (reading_of l.reading) l.number (map plain_line (lines_until l.journal (fed_lines l.rest)));
  place : until_from l.journal 0 1 (fed_lines l.text) ≡ until_from l.journal (length l.text - length l.rest) l.number (fed_lines l.rest);
  room : l.number + length l.rest ≤ length l.text + 1;
  within : length l.rest ≤ length l.text;
  some : 1 ≤ l.number;
  accords : Accords (reading_of l.reading);
}

abbrev pub decreases-loop-rest : goal.decreases-loop-rest
decreases-loop-rest l = length l.rest
