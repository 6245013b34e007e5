-- The words of a text.
use Rattle.std.specs.Prelude.{◌≡◌, ◌<◌, false, ℕ, Bool, List, ◌||◌, ◌==◌, [], ◌∷◌, length, filter, not, if◌then◌else◌}
use Rattle.std.specs.Char.{is_ascii_digit, is_ascii_lowercase, is_ascii_uppercase}
use Rattle.std.specs.List.{slice_split, All, AllPass}

-- own choice: spaces and tabs separate words
abbrev pub is_blank : ℕ → Bool
is_blank byte = (byte == 32) || (byte == 9)

-- the longest runs of bytes that are no blanks, in their order: what is between one blank and the next, where
-- anything is there
unfoldable pub words_of : List ℕ → List (List ℕ)
words_of text = filter (λ word. not (length word == 0)) (slice_split is_blank text)

-- the word of a piece, which is what is between one blank and the next, unless the piece is empty
abbrev pub words_in_piece : List ℕ → List (List ℕ)
words_in_piece piece = if length piece == 0 then [] else piece ∷ []

-- what is between one space and the next; a piece may be empty
abbrev pub pieces_of : List ℕ → List (List ℕ)
pieces_of text = slice_split (λ byte. byte == 32) text

-- what may be a word of a text
pub record IsWord (word : List ℕ) : Type 0 where
  pub filled : 0 < length word
  pub blankless : All (λ byte. is_blank byte ≡ false) word

-- own choice: the bytes of which numbers, bytes in hex and calls are written, a digit, a letter, `_` or `-`
unfoldable pub is_plain : ℕ → Bool
is_plain byte = is_ascii_digit byte || is_ascii_lowercase byte || is_ascii_uppercase byte || (byte == 95) || (byte == 45)

-- a word of such bytes
pub record IsPlainWord (word : List ℕ) : Type 0 where
  pub filled : 0 < length word
  pub plain : AllPass is_plain word
