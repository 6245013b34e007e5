-- Texts to which something is added. (own choice)
use Rattle.std.specs.Prelude.{◌≡◌, ℕ, List, length, take}

-- the first text is a prefix of the second: nothing of it has changed
abbrev pub KeepsPrefix : List ℕ → List ℕ → Type 0
KeepsPrefix old new = take (length old) new ≡ old
