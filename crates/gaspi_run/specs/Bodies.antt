-- What a caller needs to run its script, and what it makes of its pass. (own choice)
use Rattle.std.specs.Prelude.{◌≡◌, ℕ, ◌≤◌, [], Option, Some}
use Rattle.gaspi_types.specs.declared.events.Event.{Event}
use Rattle.commit_table.specs.Calls.{TableValue, PassValue, IsOf, HoldsNone}
use Rattle.rank_script.specs.PlainScripts.{HasPlainLines, HasLookingLines}
use Rattle.rank_script.specs.declared.scripts.RunOutcome.{RunOutcome}
use Rattle.rank_script.specs.declared.scripts.Script.{Script}
use Rattle.gaspi_world.specs.Callers.{IsPassOf}
use Rattle.gaspi_world.specs.declared.starts.Start.{Start}
use Rattle.gaspi_run.specs.Runs.{HasRun}

-- no line is an end, and each may look, also one that blocks
pub record IsRunnable (script : Script) (limit : ℕ) : Type 0 where
  pub plain : HasPlainLines script
  pub looks : HasLookingLines script
  pub blocks : 1 ≤ limit

-- the pass is that of the script's caller in this world, and has done nothing yet
pub record IsFresh (script : Script) (t : TableValue Start) (p : PassValue Start Event) : Type 0 where
  pub table : IsOf t p
  pub free : HoldsNone p.known
  pub caller : IsPassOf t.start.shape script.caller p.known
  pub fresh : p.known.mine ≡ []

-- The caller has run its script and ended, as the outcome says, with so many looks for a call that blocks. Its pass is still one of its world, and holds no shard.
pub record HasRunScript (script : Script) (limit : ℕ) (outcome : Option RunOutcome) (p q : PassValue Start Event) : Type 0 where
  pub table : q.table ≡ p.table
  pub free : HoldsNone q.known
  pub run : (start : Start) → p.known.start ≡ Some start → (told : RunOutcome) × (outcome ≡ Some told) × HasRun start.shape script.caller script.lines limit told p.known q.known
