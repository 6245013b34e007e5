-- Runs of scripts as the calls of a history tell them: which lines made the calls, and how each run ended. (own choice)
use Rattle.std.specs.Prelude.{◌≡◌, ℕ, List, [], ◌∷◌, ◌++◌, Option, None, Some, if◌then◌else◌, find}
use Rattle.std.specs.Option.{option_map}
use Rattle.gaspi_types.specs.CallRows.{is_end}
use Rattle.gaspi_types.specs.declared.shapes.CallerId.{CallerId}
use Rattle.gaspi_types.specs.declared.calls.Call.{Call}
use Rattle.gaspi_types.specs.declared.replies.Reply.{Reply}
use Rattle.gaspi_types.specs.declared.events.Event.{Event}
use Rattle.gaspi_model.specs.Step.{recorded_calls}
use Rattle.rank_script.specs.Runs.{RunPosition, AtLine, RunEnded, at_first_line, advanced, stopped}
use Rattle.rank_script.specs.WorldText.{is_script_of}
use Rattle.rank_script.specs.declared.scripts.Script.{Script}
use Rattle.rank_script.specs.declared.scripts.RunOutcome.{RunOutcome}
use Rattle.rank_script.specs.declared.scripts.RunOutcome.TheVariants as outcomes
use Rattle.rank_script.specs.declared.scripts.RunStop.TheVariants as halts
use Rattle.call_journal.specs.CallerTables.{IsCallerTable}
use Rattle.call_journal.specs.Transcripts.{call_line, outcome_line}
use Rattle.call_journal.specs.declared.script_runs.FollowedRun.{FollowedRun}
use Rattle.call_journal.specs.declared.script_runs.ToldRun.{ToldRun}

-- A run and the recorded calls of its caller.

-- how far a run has come after a call; the end of its caller stops it
abbrev pub followed : RunPosition → Call × Reply → RunPosition
followed p pair = if is_end pair.0 then stopped p halts.Limit else advanced p pair.1

-- the same after some calls
abbrev pub followed_all : RunPosition → List (Call × Reply) → RunPosition
followed_all p [] = p
followed_all p (pair ∷ pairs) = followed_all (followed p pair) pairs

-- the line that made a call; none where the run is over, or the call is the end
abbrev pub called_line : RunPosition → Call × Reply → List ℕ
called_line (RunEnded outcome) pair = []
called_line (AtLine line made lines) pair = if is_end pair.0 then [] else line.number ∷ []

-- the lines that made these calls, in order
abbrev pub called_lines : RunPosition → List (Call × Reply) → List ℕ
called_lines p [] = []
called_lines p (pair ∷ pairs) = called_line p pair ++ called_lines (followed p pair) pairs

-- how a run ended that has come so far; one that goes on came to the event limit
abbrev pub told_outcome : RunPosition → RunOutcome
told_outcome (AtLine line made lines) = outcomes.Limit line.number
told_outcome (RunEnded outcome) = outcome

-- the transcript of a caller: its calls, as far as lines made them, and how its run ended
abbrev pub told_text : CallerId → List ℕ → RunOutcome → List (Call × Reply) → List ℕ
told_text c (line ∷ lines) outcome (pair ∷ pairs) = call_line c line pair.1 ++ told_text c lines outcome pairs
told_text c lines outcome pairs = outcome_line c outcome

-- The runs of all callers.

-- a run followed through one more call
abbrev pub followed_run : FollowedRun → Call × Reply → FollowedRun
followed_run run pair = record { lines = run.lines ++ called_line run.cursor pair; cursor = followed run.cursor pair }

-- the same where there is a run
abbrev pub followed_item : Call × Reply → Option FollowedRun → Option FollowedRun
followed_item pair None = None
followed_item pair (Some run) = Some (followed_run run pair)

-- the run of a script, followed through these calls
abbrev pub run_through : Script → List (Call × Reply) → FollowedRun
run_through script pairs =
    record { lines = called_lines (at_first_line script.lines) pairs; cursor = followed_all (at_first_line script.lines) pairs }

-- the run of a caller, followed through its calls in a history; none where it has no script
abbrev pub run_of : List Script → List Event → ℕ → ℕ → Option FollowedRun
run_of scripts history rank thread =
    option_map (λ script. run_through script (recorded_calls rank thread history)) (find (is_script_of (record { rank = rank; thread = thread })) scripts)

-- what is told of a run
abbrev pub told_run : FollowedRun → ToldRun
told_run run = record { lines = run.lines; outcome = told_outcome run.cursor }

-- the same where there is a run
abbrev pub told_item : Option FollowedRun → Option ToldRun
told_item run = option_map told_run run

-- this is the run of a caller
abbrev pub IsRunOf : List Script → List Event → ℕ → ℕ → Option FollowedRun → Type 0
IsRunOf scripts history rank thread run = run ≡ run_of scripts history rank thread

-- this is what is told of it
abbrev pub IsToldOf : List Script → List Event → ℕ → ℕ → Option ToldRun → Type 0
IsToldOf scripts history rank thread told = told ≡ told_item (run_of scripts history rank thread)

-- a table of the runs of all callers
abbrev pub IsRunTable : List (List (Option FollowedRun)) → List Script → List Event → Type 0
IsRunTable runs scripts history = IsCallerTable (IsRunOf scripts history) runs

-- a table of what is told of them
abbrev pub IsToldTable : List (List (Option ToldRun)) → List Script → List Event → Type 0
IsToldTable told scripts history = IsCallerTable (IsToldOf scripts history) told
