-- What a sink holds, where it tells it.
use Rattle.std.specs.Prelude.{◌≡◌, ℕ, ◌<◌, List, ◌++◌, length, take, Option, Some, None}

-- the bytes held, with more at their end; a sink that does not tell them goes on so
abbrev pub with_more : Option (List ℕ) → List ℕ → Option (List ℕ)
with_more None more = None
with_more (Some held) more = Some (held ++ more)

-- a prefix of the piece was added, and not all of it
pub record AddsPrefix (piece : List ℕ) (old new : Option (List ℕ)) : Type 0 where
  pub count : ℕ
  pub within : count < length piece
  pub added : new ≡ with_more old (take count piece)
