-- Lists behind a box, as contracts see them.
use Rattle.std.specs.Prelude.{List, [], Option, None, Some, Box}

-- the items behind the box; without one there are none
abbrev pub boxed_items : {T A : Type 0} → Option (Box (List T) A) → List T
boxed_items None = []
boxed_items (Some boxed) = boxed.value
