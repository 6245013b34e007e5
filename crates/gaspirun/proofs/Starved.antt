-- What holds where memory ran out before the command was asked.
use Rattle.std.proofs.Common.{ℕ, List, [], Option, None, Some, refl, inl, inr, arith}
use Rattle.gaspi_io.specs.Source.{TakesAtMost}
use Rattle.command_line.specs.declared.words.Command.{Command}
use Rattle.command_line.specs.declared.words.Command.TheVariants.{Run, Step, Check, Why, Bench}
use Rattle.gaspi_run.specs.Command.{Refuses, Answers, RanOutOfMemory}
use Rattle.gaspi_run.specs.declared.commands.Answer.{Answer}

-- no memory, and nothing told
abbrev pub starved : Answer
starved = record { status = 7; journal = []; tally = None }

nothing-taken : (most : ℕ) (left : Option (List ℕ)) → TakesAtMost most left left
nothing-taken most None = record { count = 0; within = omega arith; rest = refl }
nothing-taken most (Some bytes) = record { count = 0; within = omega arith; rest = refl }

pub starved-refuses : (held : Option (List ℕ)) (faults : ℕ) → Refuses held held faults faults starved
starved-refuses held faults = record { says = inr (inr (refl, refl, refl)); empty = (refl, refl) }

starved-input : (command : Command) (left held : Option (List ℕ)) (faults sink_faults : ℕ) → RanOutOfMemory command left left held held faults faults sink_faults sink_faults starved
starved-input command left held faults sink_faults = record {
  taken = nothing-taken _ left;
  kept = inl refl;
  still = (refl, refl);
  status = refl;
  empty = (refl, refl);
}

pub starved-answers : (command : Command) (left held : Option (List ℕ)) (faults sink_faults : ℕ) → Answers command left left faults faults held held sink_faults sink_faults starved
starved-answers (Run workers limit brief) left held faults sink_faults = inr (inr (inr (inr (starved-input (Run workers limit brief) left held faults sink_faults))))
starved-answers (Step seed limit brief) left held faults sink_faults = inr (inr (inr (inr (starved-input (Step seed limit brief) left held faults sink_faults))))
starved-answers Check left held faults sink_faults = inr (inr (inr (inr (starved-input Check left held faults sink_faults))))
starved-answers (Why place) left held faults sink_faults = inr (inr (inr (inr (starved-input (Why place) left held faults sink_faults))))
starved-answers (Bench seed ranks rounds) left held faults sink_faults = (refl, refl, inr (inr (record { kept = refl; still = refl; status = refl; empty = (refl, refl) })))
