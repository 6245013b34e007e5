-- Still ranks. (GASPI: one-sided communication)
use Rattle.std.specs.Prelude.{◌≡◌, ◌≢◌, ℕ, false, Some, slice_get}
use Rattle.gaspi_types.specs.declared.events.Transfer.{Transfer}
use Rattle.gaspi_model.specs.Step.{is_active}
use Rattle.gaspi_model.specs.Transfers.{transfers}
use Rattle.gaspi_model.specs.declared.states.State.{State}

-- no transfer of a rank may come next, and its threads have ended
pub record IsStill (s : State) (rank : ℕ) : Type 0 where
  pub none : (k : ℕ) (t : Transfer) → slice_get (transfers s.limits s.posts) k ≡ Some t → t.origin ≢ rank
  pub ended : (thread : ℕ) → is_active s rank thread ≡ false
