-- The lengths of the lists that are reserved for the numbers of an allreduce.
use Rattle.std.specs.Prelude.{ℕ}

-- for the values of the pending collective, for the reply in its event, and for the reply to the caller
pub record NumberCapacities : Type 0 where
  pub values : ℕ
  pub event : ℕ
  pub caller : ℕ
