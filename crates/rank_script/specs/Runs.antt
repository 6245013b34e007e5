-- Runs of a script. (own choice)
use Rattle.std.specs.Prelude.{◌≡◌, ℕ, ◌+◌, Bool, true, false, ◌&&◌, not, nat_lt, List, [], ◌∷◌, Option, None, Some, if◌then◌else◌, ◌⊎◌, MatchBool}
use Rattle.gaspi_types.specs.Replies.{same_reply}
use Rattle.gaspi_types.specs.declared.calls.Call.{Call}
use Rattle.gaspi_types.specs.declared.calls.Call.TheVariants.{End}
use Rattle.gaspi_types.specs.declared.calls.Timeout.{Timeout}
use Rattle.gaspi_types.specs.declared.calls.Timeout.TheVariants.{Looks, Block}
use Rattle.gaspi_types.specs.declared.replies.Reply.{Reply}
use Rattle.gaspi_types.specs.declared.replies.Reply.TheVariants as replies
use Rattle.rank_script.specs.declared.scripts.ScriptLine.{ScriptLine}
use Rattle.rank_script.specs.declared.scripts.RunOutcome.{RunOutcome}
use Rattle.rank_script.specs.declared.scripts.RunOutcome.TheVariants as outcomes
use Rattle.rank_script.specs.declared.scripts.RunStop.{RunStop}
use Rattle.rank_script.specs.declared.scripts.RunStop.TheVariants as halts

-- a timeout of looks without end
abbrev pub is_block : Timeout → Bool
is_block (Looks n) = false
is_block Block = true

-- a reply that is a timeout
abbrev pub is_timeout : Reply → Bool
is_timeout replies.Done = false
is_timeout (replies.Value n) = false
is_timeout (replies.Id n) = false
is_timeout (replies.Bytes bytes) = false
is_timeout (replies.Mask mask) = false
is_timeout (replies.List numbers) = false
is_timeout replies.Timeout = true
is_timeout (replies.Refused refusal) = false

-- a timeout on a line that blocks ends the run
abbrev pub is_stuck : ScriptLine → Reply → Bool
is_stuck line reply = is_block line.timeout && is_timeout reply

-- a call that timed out is made again while its line has tries left
abbrev pub is_retried : ScriptLine → ℕ → Reply → Bool
is_retried line made reply = is_timeout reply && nat_lt (made + 1) line.tries

-- the last reply of a line is not the one that the line expects
abbrev pub is_failed : ScriptLine → Reply → Bool
is_failed line reply = differs line.expected
  where
    differs : Option Reply → Bool
    differs None = false
    differs (Some expected) = not (same_reply reply expected)

-- How far a run has come: the present line with how often its call was made, and the lines after it, or how it ended.
pub data RunPosition : Type 0 where
  AtLine : (line : ScriptLine) (made : ℕ) (lines : List ScriptLine) → RunPosition
  RunEnded : (outcome : RunOutcome) → RunPosition

-- a run that goes on with these lines
abbrev pub at_first_line : List ScriptLine → RunPosition
at_first_line [] = RunEnded outcomes.Ended
at_first_line (line ∷ lines) = AtLine line 0 lines

-- how far a run has come after the reply of the present call
abbrev pub advanced : RunPosition → Reply → RunPosition
advanced (RunEnded outcome) reply = RunEnded outcome
advanced (AtLine line made lines) reply =
    if is_stuck line reply then RunEnded (outcomes.Stuck line.number)
    else (if is_retried line made reply then AtLine line (made + 1) lines
    else (if is_failed line reply then RunEnded (outcomes.Failed line.number) else at_first_line lines))

-- a run that was ended before the present call, which is not made
abbrev pub stopped : RunPosition → RunStop → RunPosition
stopped (RunEnded outcome) halted = RunEnded outcome
stopped (AtLine line made lines) halts.Limit = RunEnded (outcomes.Limit line.number)
stopped (AtLine line made lines) halts.NoMemory = RunEnded (outcomes.NoMemory line.number)

-- how a run ended, where it has
abbrev pub outcome_of : RunPosition → Option RunOutcome
outcome_of (AtLine line made lines) = None
outcome_of (RunEnded outcome) = Some outcome

-- the outcome of a run that ended before the call of a line
abbrev pub IsStopped : ℕ → RunOutcome → Type 0
IsStopped number outcome = (outcome ≡ outcomes.Limit number) ⊎ (outcome ≡ outcomes.NoMemory number)

-- the end of a caller, which is its last pair
abbrev pub end_pair : List (Call × Reply)
end_pair = (End, replies.Done) ∷ []

-- A run from a point on, at which the call of the first line was made so often: the calls of a caller with their replies
-- are the rest of a run of these lines with that outcome. The next pair has the line's call. A timeout on a line that
-- blocks ends the run at once; after another one the call is made again while the line has tries left; then the reply
-- must be the one that the line says, if it says one. A run may stop before a call. After the last line it has ended. In
-- each case the last pair is the end.
abbrev pub IsRunFrom : ℕ → List ScriptLine → List (Call × Reply) → RunOutcome → Type 0
IsRunFrom made [] pairs outcome = (pairs ≡ end_pair) × (outcome ≡ outcomes.Ended)
IsRunFrom made (line ∷ lines) [] outcome = ⊥
IsRunFrom made (line ∷ lines) (pair ∷ pairs) outcome =
    ((pair ∷ pairs ≡ end_pair) × IsStopped line.number outcome)
    ⊎ ((pair.0 ≡ line.call)
    × MatchBool (is_stuck line pair.1) ((pairs ≡ end_pair) × (outcome ≡ outcomes.Stuck line.number))
    (MatchBool (is_retried line made pair.1) (IsRunFrom (made + 1) (line ∷ lines) pairs outcome)
    (MatchBool (is_failed line pair.1) ((pairs ≡ end_pair) × (outcome ≡ outcomes.Failed line.number))
    (IsRunFrom 0 lines pairs outcome))))

-- a whole run
abbrev pub IsRun : List ScriptLine → List (Call × Reply) → RunOutcome → Type 0
IsRun lines pairs outcome = IsRunFrom 0 lines pairs outcome

-- What a run so far says.

-- the present call, with its timeout
abbrev pub present_of : RunPosition → Option (Call × Timeout)
present_of (AtLine line made lines) = Some (line.call, line.timeout)
present_of (RunEnded outcome) = None

-- the line of the present call; 0 where the run is over
abbrev pub line_of : RunPosition → ℕ
line_of (AtLine line made lines) = line.number
line_of (RunEnded outcome) = 0

-- pairs that lead from one point of a run to another: each has the call that is present then
abbrev pub Follows : RunPosition → List (Call × Reply) → RunPosition → Type 0
Follows p [] q = q ≡ p
Follows (RunEnded outcome) (pair ∷ pairs) q = ⊥
Follows (AtLine line made lines) (pair ∷ pairs) q = (pair.0 ≡ line.call) × Follows (advanced (AtLine line made lines) pair.1) pairs q
