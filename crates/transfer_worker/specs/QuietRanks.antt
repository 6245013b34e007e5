-- The ranks that a worker passes over. (GASPI: one-sided communication)
use Rattle.std.specs.Prelude.{◌≡◌, ℕ, List, Option, Some, slice_get}
use mathlib.Core.List.{IsPrefix}
use Rattle.gaspi_types.specs.World.{ShapeValue}
use Rattle.gaspi_types.specs.declared.events.Event.{Event}
use Rattle.commit_table.specs.declared.views.PassView.{PassView}
use Rattle.transfer_worker.specs.Turns.{HasNoTransferSeen}

-- there is a count of a rank
abbrev pub IsKnown : List (Option ℕ) → ℕ → Type 0
IsKnown counts rank = (count : ℕ) × (slice_get counts rank ≡ Some (Some count))

module _ (w : ShapeValue) where
  -- Each rank whose count is known was looked at since a worker knew `begun`, and then no transfer of it might come next.
  pub record KnowsStill {S : Type 0} (begun : PassView S Event) (counts : List (Option ℕ)) (n : PassView S Event) : Type 0 where
    pub since : IsPrefix begun.seen n.seen
    pub still : (rank : ℕ) → IsKnown counts rank → HasNoTransferSeen w begun n rank

  -- What tries say since a worker knew `begun`, and the counts that are known before and after them: this holds for each `begun` since
  -- which it looked at the ranks whose counts it knows.
  abbrev pub TellsStill : {S : Type 0} → (PassView S Event → Type 0) → List (Option ℕ) → PassView S Event → List (Option ℕ) → PassView S Event → Type 0
  TellsStill {S} Tells before v after n = (begun : PassView S Event) → KnowsStill begun before v → Tells begun × KnowsStill begun after n
