-- What a source has left, where it tells it.
use Rattle.std.specs.Prelude.{◌≡◌, ℕ, ◌<◌, ◌≤◌, List, [], ◌++◌, length, take, drop, Option, Some, None}
use Rattle.std.specs.Option.{ForSome}

-- what is left after n bytes were taken from the front; a source that does not tell them goes on so
abbrev pub without : Option (List ℕ) → ℕ → Option (List ℕ)
without None n = None
without (Some bytes) n = Some (drop n bytes)

-- the first n of the bytes are at the front of the buffer, whose other bytes stay
abbrev pub PutsPrefix : List ℕ → ℕ → List ℕ → List ℕ → Type 0
PutsPrefix bytes n old new = new ≡ take n bytes ++ drop n old

-- nothing is given only at the end of the bytes, or into an empty buffer
abbrev pub EndsOnly : List ℕ → ℕ → List ℕ → Type 0
EndsOnly bytes n buffer = n ≡ 0 → 0 < length buffer → bytes ≡ []

-- at most so many bytes were read, from the front of what was left
pub record TakesAtMost (most : ℕ) (old new : Option (List ℕ)) : Type 0 where
  pub count : ℕ
  pub within : count ≤ most
  pub rest : new ≡ without old count

-- these bytes came off the front of what was left
pub record Gives (old : Option (List ℕ)) (bytes : List ℕ) (new : Option (List ℕ)) : Type 0 where
  pub front : ForSome old (λ told. bytes ≡ take (length bytes) told)
  pub rest : new ≡ without old (length bytes)

-- a piece came off the front of what was left, and was added to the bytes
pub record AddsPiece (old new : Option (List ℕ)) (before after : List ℕ) : Type 0 where
  pub piece : List ℕ
  pub added : after ≡ before ++ piece
  pub given : Gives old piece new
