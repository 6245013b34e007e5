-- The callers of a world by their numbers, and whose pass a pass is.
use Rattle.std.specs.Prelude.{◌≡◌, ◌==◌, ℕ, ◌≤◌, true, List, map, length, find, Option, Some}
use Rattle.std.specs.List.{list_any, range_with_len}
use Rattle.gaspi_types.specs.World.{ShapeValue, is_caller}
use Rattle.gaspi_types.specs.declared.shapes.CallerId.{CallerId}
use Rattle.commit_table.specs.declared.views.PassView.{PassView}
use Rattle.gaspi_model.specs.Parties.{number_of}

-- the caller with this number: the number of callers that come before it is this one
abbrev pub numbered : List CallerId → ℕ → Option CallerId
numbered callers number = find (λ (c : CallerId). number_of callers c == number) callers

-- the callers in the order of their numbers, from 0
abbrev pub all_numbered : List CallerId → List (Option CallerId)
all_numbered callers = map (numbered callers) (range_with_len 0 (length callers))

module _ {S E : Type 0} (w : ShapeValue) where
  -- a pass is that of this caller: the caller is declared, and its number is the party of the pass
  abbrev pub IsPassOf : CallerId → PassView S E → Type 0
  IsPassOf c v = (list_any (is_caller c.rank c.thread) w.callers ≡ true) × (v.party ≡ Some (number_of w.callers c))

  -- a pass is that of a worker: its party is no caller's number
  abbrev pub IsWorkers : PassView S E → Type 0
  IsWorkers v = (number : ℕ) × (v.party ≡ Some number) × (length w.callers ≤ number)
