-- Transcripts: the replies of each caller with their lines, and how its run ended. (own choice)
use Rattle.std.specs.Prelude.{ℕ, List, [], ◌∷◌, ◌++◌, Option, None, Some, if◌then◌else◌, codes, find}
use Rattle.std.specs.Fmt.{decimal}
use Rattle.std.specs.List.{flat_map, range_with_len}
use Rattle.gaspi_types.specs.World.{ShapeValue}
use Rattle.gaspi_texts.specs.EventText.{caller_word}
use Rattle.gaspi_texts.specs.ReplyText.{reply_text}
use Rattle.gaspi_types.specs.declared.shapes.CallerId.{CallerId}
use Rattle.gaspi_types.specs.declared.calls.Call.{Call}
use Rattle.gaspi_types.specs.declared.replies.Reply.{Reply}
use Rattle.gaspi_types.specs.declared.events.Event.{Event}
use Rattle.gaspi_model.specs.Step.{recorded_calls}
use Rattle.gaspi_types.specs.CallRows.{is_end}
use Rattle.rank_script.specs.Runs.{RunPosition, AtLine, RunEnded, at_first_line, advanced}
use Rattle.rank_script.specs.WorldText.{is_script_of}
use Rattle.rank_script.specs.declared.scripts.Script.{Script}
use Rattle.rank_script.specs.declared.scripts.RunOutcome.{RunOutcome}
use Rattle.rank_script.specs.declared.scripts.RunOutcome.TheVariants as outcomes

-- a recorded call: its caller, the line that made it, and its reply
abbrev pub call_line : CallerId → ℕ → Reply → List ℕ
call_line c line reply = caller_word c ++ codes " " ++ decimal line ++ codes " " ++ reply_text reply ++ codes "\n"

-- how a caller's run ended
abbrev pub ended_line : CallerId → List ℕ
ended_line c = caller_word c ++ codes " ended\n"

abbrev pub failed_line : CallerId → ℕ → List ℕ
failed_line c line = caller_word c ++ codes " failed " ++ decimal line ++ codes "\n"

abbrev pub stuck_line : CallerId → ℕ → List ℕ
stuck_line c line = caller_word c ++ codes " stuck " ++ decimal line ++ codes "\n"

abbrev pub limit_line : CallerId → ℕ → List ℕ
limit_line c line = caller_word c ++ codes " limit " ++ decimal line ++ codes "\n"

-- no run of a transcript is out of memory; its line is that of a run that stopped
abbrev pub outcome_line : CallerId → RunOutcome → List ℕ
outcome_line c outcomes.Ended = ended_line c
outcome_line c (outcomes.Failed line) = failed_line c line
outcome_line c (outcomes.Stuck line) = stuck_line c line
outcome_line c (outcomes.Limit line) = limit_line c line
outcome_line c (outcomes.NoMemory line) = limit_line c line

-- the transcript of the rest of a run: its calls with their lines, and how it ended; where the calls end before one that a
-- line would make, or have the end there, it stopped before it
abbrev pub transcript : CallerId → RunPosition → List (Call × Reply) → List ℕ
transcript c (RunEnded outcome) pairs = outcome_line c outcome
transcript c (AtLine line made lines) [] = limit_line c line.number
transcript c (AtLine line made lines) (pair ∷ pairs) =
    if is_end pair.0 then limit_line c line.number
    else call_line c line.number pair.1 ++ transcript c (advanced (AtLine line made lines) pair.1) pairs

-- the transcript of a script, where there is one
abbrev pub script_transcript : List Event → Option Script → List ℕ
script_transcript journal None = []
script_transcript journal (Some script) =
    transcript script.caller (at_first_line script.lines) (recorded_calls script.caller.rank script.caller.thread journal)

-- the transcript of a thread of a rank; none where it has no script
abbrev pub thread_transcript : List Script → List Event → ℕ → ℕ → List ℕ
thread_transcript scripts journal rank thread = script_transcript journal (find (is_script_of (record { rank = rank; thread = thread })) scripts)

-- the callers of a rank, by thread
abbrev pub rank_transcripts : List Script → List Event → ℕ → List ℕ
rank_transcripts scripts journal rank = flat_map (thread_transcript scripts journal rank) (range_with_len 0 4)

-- all callers, by rank and thread
abbrev pub transcripts : ShapeValue → List Script → List Event → List ℕ
transcripts w scripts journal = flat_map (rank_transcripts scripts journal) (range_with_len 0 w.limits.ranks)
