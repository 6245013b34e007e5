-- Bytes as words of a text.
use Rattle.std.specs.Prelude.{ℕ, List, [], length, Option, Some, None, if◌then◌else◌, ◌==◌, codes}
use Rattle.std.specs.Str.{bytes_eq}
use Rattle.std.specs.Result.{result_ok}
use Rattle.hex.specs.Hex.{decode_of, encode_lower}

-- own choice: the word for no bytes is `-`, since a word is not empty
abbrev pub no_bytes : List ℕ
no_bytes = codes "-"

-- the bytes that a word spells: none, or two hex digits of either case for each
unfoldable pub bytes_of : List ℕ → Option (List ℕ)
bytes_of word =
    if bytes_eq word no_bytes then Some []
    else (if length word == 0 then None else result_ok (decode_of word))

-- the one spelling of bytes that is written: lower-case digits
unfoldable pub hex_text : List ℕ → List ℕ
hex_text bytes = if length bytes == 0 then no_bytes else encode_lower bytes
