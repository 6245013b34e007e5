use Rattle.std.proofs.Common.{◌≡◌, List}
use Rattle.std.specs.List.{flat_map, range_with_len}
use Rattle.rank_script.specs.declared.scripts.Script.{Script}
use Rattle.call_journal.specs.ScriptRuns.{IsToldTable}
use Rattle.call_journal.specs.Transcripts.{rank_transcripts}
use Rattle.call_journal.proofs.transcripts.text_of_runs.Given as goal

abbrev pub invariant-loop-rank : goal.invariant-loop-rank
invariant-loop-rank l = (scripts : List Script) → IsToldTable l.runs scripts l.journal → l.text ≡ flat_map (rank_transcripts scripts l.journal) (range_with_len 0 l.rank)
