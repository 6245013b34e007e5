-- What the laws of `bench` start from. (own choice)
use Rattle.std.specs.Prelude.{◌≡◌, ℕ, zero, suc, ◌+◌, ◌<◌, ◌≤◌, List, Ok}
use Rattle.gaspi_types.specs.declared.events.Event.{Event}
use Rattle.gaspi_model.specs.Settled.{IsSettled}
use Rattle.gaspi_model.specs.Step.{reached, recorded_calls}
use Rattle.gaspi_model.specs.declared.states.State.{State}
use Rattle.rank_script.specs.declared.scripts.RunOutcome.TheVariants.{Ended}
use Rattle.rank_script.specs.Runs.{IsRun}
use Rattle.rank_script.specs.Bench.{bench_shape, bench_lines, bench_draw}

-- A journal of `bench` in which every script ran to its end: the history is legal from the world's opening state, nothing is left
-- to do after it, and the calls of each rank are a run of its lines that ended.
pub record RanToTheEnd (seed ranks rounds : ℕ) (journal : List Event) : Type 0 where
  pub some_ranks : 1 ≤ ranks
  pub few_ranks : ranks ≤ 16
  pub some_rounds : 1 ≤ rounds
  pub few_rounds : rounds ≤ 5000
  pub state : State
  pub leads : reached (bench_shape ranks rounds) journal ≡ Ok state
  pub settled : IsSettled state
  pub runs : (rank : ℕ) → rank < ranks → IsRun (bench_lines seed ranks rounds rank rounds) (recorded_calls rank 0 journal) Ended

-- the numbers that the first ranks send in a bench round, added
abbrev pub draws_until : ℕ → ℕ → ℕ → ℕ → ℕ
draws_until seed ranks round zero = 0
draws_until seed ranks round (suc rank) = draws_until seed ranks round rank + bench_draw seed ranks round rank
