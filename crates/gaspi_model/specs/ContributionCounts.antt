-- How often a rank has contributed to a group in a history. (GASPI: collectives)
use Rattle.std.specs.Prelude.{◌≡◌, ℕ, ◌+◌, ◌<◌, List, slice_get, Some, Ok}
use Rattle.gaspi_types.specs.Tables.{item_at}
use Rattle.gaspi_types.specs.World.{ShapeValue}
use Rattle.gaspi_types.specs.declared.events.Event.{Event}
use Rattle.gaspi_types.specs.declared.groups.PendingCollective.{PendingCollective}
use Rattle.gaspi_model.specs.Step.{reached}
use Rattle.gaspi_model.specs.Rounds.{completions_on, joins_on}
use Rattle.gaspi_model.specs.declared.states.Posts.{Posts}
use Rattle.gaspi_model.specs.declared.states.State.{State}

-- after a history a collective of a rank is pending on a group
pub record IsPendingAfter (w : ShapeValue) (history : List Event) (rank id : ℕ) : Type 0 where
  pub state : State
  pub posts : Posts
  pub pending : PendingCollective
  pub leads : reached w history ≡ Ok state
  pub posts_there : slice_get state.posts rank ≡ Some posts
  pub pending_there : item_at posts.pending id ≡ Some pending

-- Each rank has joined each group once for each collective that it has completed there, and once more where one is pending. There
-- are eight groups.
pub record ContributesOnce (w : ShapeValue) (history : List Event) : Type 0 where
  pub idle : (rank id : ℕ) → rank < w.limits.ranks → id < 8 → (IsPendingAfter w history rank id → ⊥) → joins_on rank id history ≡ completions_on rank id history
  pub pending : (rank id : ℕ) → rank < w.limits.ranks → id < 8 → IsPendingAfter w history rank id → joins_on rank id history ≡ completions_on rank id history + 1
