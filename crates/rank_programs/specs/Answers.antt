-- What comes of a call that a program makes: the value that the call answers, or all that it gave. (own choice)
use Rattle.std.specs.Prelude.{◌≡◌, ◌≢◌, ◌<◌, ◌⊎◌, ℕ, false, IsErrAnd, Result, Ok, Err}
use Rattle.gaspi_types.specs.CallRows.{row_of}
use Rattle.gaspi_types.specs.declared.calls.Call.{Call}
use Rattle.gaspi_types.specs.declared.calls.Timeout.{Timeout}
use Rattle.gaspi_types.specs.declared.replies.Reply.{Reply}
use Rattle.gaspi_types.specs.declared.replies.Reply.TheVariants as replies
use Rattle.gaspi_world.specs.Calling.{CallsBy}
use Rattle.gaspi_world.specs.declared.calling.Stop.{Stop}
use Rattle.gaspi_world.specs.declared.calling.Stop.TheVariants as stops
use Rattle.rank_programs.specs.declared.callers.Caller.{Caller}
use Rattle.rank_programs.specs.declared.replies.Unexpected.{Unexpected}

-- the reply of a call that answers nothing else
abbrev pub done : Unit {0} → Reply
done answer = replies.Done

module _ {R T : Type 0} (reply_of : T → Reply) (call : Call) (timeout : Timeout) where
  -- the call was made, with this answer; it was not out of memory where its row takes none
  abbrev pub HasAnswered : Caller R → Result Reply Stop → Caller R → Type 0
  HasAnswered c answer d =
      CallsBy c.rank.world.now call timeout c.rank.pass.now answer d.rank.pass.now
      × ((row_of call).takes_memory ≡ false → answer ≢ Err stops.NoMemory)

  -- The call was made. The result is a value where its reply has that value, and otherwise the whole answer.
  abbrev pub Answers : Caller R → Result T Unexpected → Caller R → Type 0
  Answers c (Ok value) d = HasAnswered c (Ok (reply_of value)) d
  Answers c (Err e) d = HasAnswered c e.answer d × ((value : T) → e.answer ≢ Ok (reply_of value))

  -- the call was made; or there was no memory for its list, which has an item, and nothing was called
  abbrev pub AnswersOrRunsOut : ℕ → Caller R → Result T Unexpected → Caller R → Type 0
  AnswersOrRunsOut items c result d =
      Answers c result d
      ⊎ ((0 < items) × IsErrAnd result (λ e. e.answer ≡ Err stops.NoMemory) × (d.rank.pass.now ≡ c.rank.pass.now))
