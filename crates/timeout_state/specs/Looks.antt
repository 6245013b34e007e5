-- How many looks a call may still have: a number, or none where they have no end. (GASPI: timeouts)
use Rattle.std.specs.Prelude.{ℕ, zero, suc, ◌-◌, ◌≤◌, ◌==◌, Option, None, Some, if◌then◌else◌}
use Rattle.std.specs.Option.{option_map}
use Rattle.gaspi_types.specs.declared.calls.Timeout.{Timeout}
use Rattle.gaspi_types.specs.declared.calls.Timeout.TheVariants.{Looks, Block}
use Rattle.timeout_state.specs.declared.budget.Look.{Look}
use Rattle.timeout_state.specs.declared.budget.Look.TheVariants.{More, Final}

-- the looks of a timeout; none for `Block`, which has no end of them
abbrev pub looks_of : Timeout → Option ℕ
looks_of (Looks n) = Some n
looks_of Block = None

-- a look is left
abbrev pub HasLook : Option ℕ → Type 0
HasLook None = Unit {0}
HasLook (Some n) = 1 ≤ n

-- which look it is: the last, or one before it
abbrev pub answer_of : Option ℕ → Look
answer_of None = More
answer_of (Some n) = if n == 1 then Final else More

-- the looks that are left after one
abbrev pub spent : Option ℕ → Option ℕ
spent left = option_map (λ n. n - 1) left

-- the looks that are left after `k` of them
abbrev pub left_after : ℕ → Option ℕ → Option ℕ
left_after zero left = left
left_after (suc k) left = left_after k (spent left)

-- which look the k-th is, counted from 1: the last, or one before it
abbrev pub look_number : ℕ → Option ℕ → Look
look_number k left = answer_of (left_after (k - 1) left)
