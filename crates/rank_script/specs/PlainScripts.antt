-- What holds of all scripts. (own choice)
use Rattle.std.specs.Prelude.{◌≡◌, ◌≢◌, Bool, true, nat_le, List}
use Rattle.std.specs.List.{All}
use Rattle.gaspi_types.specs.declared.calls.Call.TheVariants.{End}
use Rattle.gaspi_types.specs.declared.calls.Timeout.{Timeout}
use Rattle.gaspi_types.specs.declared.calls.Timeout.TheVariants.{Looks, Block}
use Rattle.rank_script.specs.declared.scripts.ScriptLine.{ScriptLine}
use Rattle.rank_script.specs.declared.scripts.Script.{Script}

-- a line whose call is no end of the caller
abbrev pub IsPlain : ScriptLine → Type 0
IsPlain line = line.call ≢ End

-- all lines of a script are plain
abbrev pub HasPlainLines : Script → Type 0
HasPlainLines script = All IsPlain script.lines

-- no script makes an end by itself
abbrev pub ArePlain : List Script → Type 0
ArePlain scripts = All HasPlainLines scripts

-- a timeout that allows a look: one or more, or looks without end (GASPI: timeouts)
abbrev pub has_look_in : Timeout → Bool
has_look_in (Looks looks) = nat_le 1 looks
has_look_in Block = true

-- a line whose call may look
abbrev pub MayLook : ScriptLine → Type 0
MayLook line = has_look_in line.timeout ≡ true

-- each call of a script may look
abbrev pub HasLookingLines : Script → Type 0
HasLookingLines script = All MayLook script.lines

-- each call of all scripts may look
abbrev pub AreLooking : List Script → Type 0
AreLooking scripts = All HasLookingLines scripts
