-- Lists with a fixed capacity. (own choice)
use Rattle.std.specs.Prelude.{ℕ, List}

-- the items, and the capacity: for how many items the list was made
pub record Buffered (T : Type 0) : Type 0 where
  pub items : List T
  pub capacity : ℕ
