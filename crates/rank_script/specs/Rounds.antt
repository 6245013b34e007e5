-- The lines of a bench round as a record. (own choice)
use Rattle.std.specs.Prelude.{ℕ, ◌+◌, List, [], ◌∷◌, None, Some}
use Rattle.gaspi_types.specs.declared.calls.Call.TheVariants as calls
use Rattle.gaspi_types.specs.declared.calls.Timeout.TheVariants.{Looks, Block}
use Rattle.gaspi_types.specs.declared.replies.Reply.TheVariants as replies
use Rattle.rank_script.specs.Bench.{once_line, ring_call}
use Rattle.rank_script.specs.declared.ring_rounds.Round.{Round}
use Rattle.rank_script.specs.declared.scripts.ScriptLine.{ScriptLine}

-- the line that stores bytes
abbrev pub store_with : ℕ → List ℕ → ScriptLine
store_with number sent = once_line number (calls.Store (record { seg = 0; offset = 0; bytes = sent })) (Looks 1) None

-- the line that expects bytes
abbrev pub load_with : ℕ → List ℕ → ScriptLine
load_with number received = once_line number (calls.Load (record { seg = 0; offset = 8; size = 8 })) (Looks 1) (Some (replies.Bytes received))

-- the lines of a bench round, in which a rank sends these bytes to its right neighbour and gets those; the first has this number
abbrev pub round_with : ℕ → ℕ → List ℕ → List ℕ → Round
round_with number right sent received = record {
  store = store_with number sent;
  post = once_line (number + 1) (ring_call right) (Looks 1) None;
  wait = once_line (number + 2) (calls.Wait (record { queue = 0 })) Block None;
  waitsome = once_line (number + 3) (calls.Waitsome (record { seg = 0; begin = 0; num = 1 })) Block (Some (replies.Id 0));
  reset = once_line (number + 4) (calls.Reset (record { seg = 0; note = 0 })) (Looks 1) (Some (replies.Value 1));
  load = load_with (number + 5) received;
  barrier = once_line (number + 6) (calls.Barrier (record { group = 0 })) Block None;
}

-- the lines, in their order
abbrev pub lines_in : Round → List ScriptLine
lines_in round = round.store ∷ round.post ∷ round.wait ∷ round.waitsome ∷ round.reset ∷ round.load ∷ round.barrier ∷ []
