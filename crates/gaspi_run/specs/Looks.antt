-- How often the calls of a script may look. (GASPI: timeouts)
use Rattle.std.specs.Prelude.{◌≡◌, ℕ, ◌≤◌, List, [], ◌∷◌, ◌++◌, length, slice_get, Some}
use mathlib.Core.List.{IsPrefix}
use Rattle.gaspi_types.specs.declared.calls.Call.{Call}
use Rattle.gaspi_types.specs.declared.calls.Timeout.{Timeout}
use Rattle.gaspi_types.specs.declared.calls.Timeout.TheVariants.{Looks, Block}
use Rattle.gaspi_types.specs.declared.events.Event.{Event}
use Rattle.gaspi_types.specs.declared.replies.Reply.{Reply}
use Rattle.gaspi_types.specs.declared.shapes.CallerId.{CallerId}
use Rattle.gaspi_model.specs.Step.{recorded_calls}
use Rattle.rank_script.specs.Runs.{RunPosition, AtLine, RunEnded, advanced}

-- how many looks a timeout allows; without end, it allows `limit`
abbrev pub looks_in : ℕ → Timeout → ℕ
looks_in limit (Looks looks) = looks
looks_in limit Block = limit

-- a timeout with an end
abbrev pub bounded : ℕ → Timeout → Timeout
bounded limit timeout = Looks (looks_in limit timeout)

-- How many looks each call of a run has, in order: those of its line. The end of the caller, which never times out, has those of the
-- line before which the run was stopped, else one.
abbrev pub looks_along : ℕ → RunPosition → List (Call × Reply) → List ℕ
looks_along limit p [] = []
looks_along limit (RunEnded outcome) (pair ∷ pairs) = 1 ∷ looks_along limit (RunEnded outcome) pairs
looks_along limit (AtLine line made lines) (pair ∷ pairs) = looks_in limit line.timeout ∷ looks_along limit (advanced (AtLine line made lines) pair.1) pairs

-- a look of these, by the lengths of the histories that they saw, was made after a history
abbrev pub HasLookAfter : List Event → List ℕ → Type 0
HasLookAfter history looks = (earlier : List ℕ) × (later : List ℕ) × (looks ≡ earlier ++ length history ∷ later)

-- Looks in groups, each look by the history that it saw: each group has one of these numbers, and is no longer than that.
abbrev pub AreWithin : List (List (List Event)) → List ℕ → Type 0
AreWithin [] numbers = Unit {0}
AreWithin (looks ∷ others) [] = ⊥
AreWithin (looks ∷ others) (number ∷ numbers) = (length looks ≤ number) × AreWithin others numbers

-- each group has the looks of one call, as many of its caller's calls having been recorded before each of them as there are groups before
abbrev pub AreByCall : CallerId → List Event → List (List (List Event)) → Type 0
AreByCall c seen groups =
    (i j : ℕ) (looks : List (List Event)) (h : List Event) → slice_get groups i ≡ Some looks → slice_get looks j ≡ Some h → IsPrefix h seen × (length (recorded_calls c.rank c.thread h) ≡ i)
