-- A text that goes to a sink block by block.
use Rattle.std.specs.Prelude.{◌≡◌, List, ◌++◌, ℕ, Option}
use Rattle.gaspi_io.specs.Sink.{with_more}

-- of a text a prefix was written to a sink that held `old`, and the rest so far is in a block
pub record IsOnItsWay (old : Option (List ℕ)) (text : List ℕ) (new : Option (List ℕ)) (block : List ℕ) : Type 0 where
  pub written : List ℕ
  pub got : new ≡ with_more old written
  pub whole : written ++ block ≡ text
