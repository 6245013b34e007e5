-- What a cursor over a script is seen as. (own choice)
use Rattle.std.specs.Prelude.{ℕ, List, [], ◌∷◌, Option, None, Some}
use Rattle.rank_script.specs.declared.scripts.ScriptLine.{ScriptLine}
use Rattle.rank_script.specs.declared.scripts.RunOutcome.{RunOutcome}
use Rattle.rank_script.specs.Runs.{RunPosition, AtLine, RunEnded}

-- a run with these lines left, the present one first, whose call was made this often; or over where none is left
abbrev pub going_or_over : List ScriptLine → ℕ → RunOutcome → RunPosition
going_or_over [] made ending = RunEnded ending
going_or_over (line ∷ lines) made ending = AtLine line made lines

-- lines, where there are any
abbrev pub lines_or_none : Option (List ScriptLine) → List ScriptLine
lines_or_none None = []
lines_or_none (Some lines) = lines
