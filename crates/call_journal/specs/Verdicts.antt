-- Whether a journal is legal, and if not, which event is the first that is no step. (own choice)
use Rattle.std.specs.Prelude.{◌≡◌, ℕ, true, List, take, Some, Ok, Err, slice_get}
use Rattle.gaspi_types.specs.World.{ShapeValue}
use Rattle.gaspi_types.specs.declared.events.Event.{Event}
use Rattle.gaspi_model.specs.Step.{step, reached, is_legal}
use Rattle.gaspi_model.specs.declared.states.State.{State}
use Rattle.gaspi_model.specs.declared.states.Why.{Why}
use Rattle.call_journal.specs.declared.verdicts.Verdict.{Verdict}
use Rattle.call_journal.specs.declared.verdicts.Verdict.TheVariants.{Legal, Illegal}

-- the events before the place are steps from the opening state, and the event there is none, for that cause
pub record IsIllegalAt (w : ShapeValue) (journal : List Event) (place : ℕ) (why : Why) : Type 0 where
  pub state : State
  pub event : Event
  pub before : reached w (take place journal) ≡ Ok state
  pub there : slice_get journal place ≡ Some event
  pub none : step state event ≡ Err why

-- the verdict on a journal
abbrev pub IsVerdict : ShapeValue → List Event → Verdict → Type 0
IsVerdict w journal Legal = is_legal w journal ≡ true
IsVerdict w journal (Illegal place why) = IsIllegalAt w journal place why
