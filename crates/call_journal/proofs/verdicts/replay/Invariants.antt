use Rattle.std.proofs.Common.{◌≡◌, take, Ok}
use Rattle.gaspi_model.specs.Step.{reached}
use Rattle.call_journal.proofs.verdicts.replay.Given as goal

-- the events so far lead to the machine's state
abbrev pub invariant-loop-place : goal.invariant-loop-place
invariant-loop-place l = reached l.shape (take l.place l.journal) ≡ Ok l.machine
