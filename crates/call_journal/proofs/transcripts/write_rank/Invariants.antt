use Rattle.std.proofs.Common.{◌≡◌, ◌++◌, List}
use Rattle.std.specs.List.{flat_map, range_with_len}
use Rattle.gaspi_types.specs.declared.events.Event.{Event}
use Rattle.rank_script.specs.declared.scripts.Script.{Script}
use Rattle.call_journal.specs.OwnCalls.{IsCallTable}
use Rattle.call_journal.specs.ScriptRuns.{IsToldTable}
use Rattle.call_journal.specs.Transcripts.{thread_transcript}
use Rattle.call_journal.proofs.transcripts.write_rank.Given as goal

abbrev pub invariant-loop-thread : goal.invariant-loop-thread
invariant-loop-thread l =
    (scripts : List Script) (history : List Event) → IsToldTable l.runs scripts history → IsCallTable l.table history
    → l.text ≡ l.fn.text ++ flat_map (thread_transcript scripts history l.rank) (range_with_len 0 l.thread)
