-- When a run has nothing left to do.
use Rattle.std.specs.Prelude.{◌≡◌, ℕ, true, false, List, [], is_none, slice_get, Some}
use Rattle.gaspi_types.specs.declared.entries.Entry.{Entry}
use Rattle.gaspi_model.specs.Step.{is_active}
use Rattle.gaspi_types.specs.declared.entries.Queue.{Queue}
use Rattle.gaspi_model.specs.declared.states.Posts.{Posts}
use Rattle.gaspi_model.specs.declared.states.State.{State}

-- every lane of a queue that is not broken is empty: all that was posted has arrived
abbrev pub AreLanesEmpty : State → Type 0
AreLanesEmpty s =
    (origin : ℕ) (posts : Posts) → slice_get s.posts origin ≡ Some posts → (queue : ℕ) (q : Queue) → slice_get posts.queues queue ≡ Some q → is_none q.broken ≡ true
    → (target : ℕ) (lane : List Entry) → slice_get q.lanes target ≡ Some lane → lane ≡ []

-- every caller has ended, and every lane of a queue that is not broken is empty
pub record IsSettled (s : State) : Type 0 where
  pub callers : (rank thread : ℕ) → is_active s rank thread ≡ false
  pub lanes : AreLanesEmpty s
