-- The texts of replies: the one form that is written, and what is read. (own choice)
use Rattle.std.specs.Prelude.{◌^◌, ◌<◌, ℕ, Bool, true, false, List, [], ◌∷◌, map, Option, Some, None, find, codes}
use Rattle.std.specs.Fmt.{decimal, signed_decimal}
use Rattle.std.specs.List.{join_with_byte, AllByRecursion}
use Rattle.std.specs.Option.{option_map, option_map_or}
use Rattle.std.specs.Str.{bytes_eq}
use Rattle.hex.specs.Hex.{IsBytes}
use Rattle.call_texts.specs.Steps.{◌>>=◌}
use Rattle.call_texts.specs.Elements.{type_word, type_of, elements_of}
use Rattle.call_texts.specs.Hex.{bytes_of, hex_text}
use Rattle.call_texts.specs.Numbers.{number_of}
use Rattle.gaspi_types.specs.NumberTypes.{AreInType}
use Rattle.gaspi_types.specs.Replies.{refusal_number, refusal_fields}
use Rattle.gaspi_types.specs.declared.replies.Reply.{Reply}
use Rattle.gaspi_types.specs.declared.replies.Reply.TheVariants as replies
use Rattle.gaspi_texts.specs.CollectiveText.{one_field}
use Rattle.gaspi_texts.specs.RefusalText.{field_words, refusal_of}
use Rattle.gaspi_texts.specs.declared.reply_words.ReplyWord.{ReplyWord}
use Rattle.gaspi_texts.specs.declared.reply_words.ReplyWord.TheVariants as words

-- The words of a reply in the one form that is written.

-- the words of a reply
unfoldable pub words_of_reply : Reply → List (List ℕ)
words_of_reply replies.Done = codes "done" ∷ []
words_of_reply (replies.Value n) = codes "value" ∷ decimal n ∷ []
words_of_reply (replies.Id n) = codes "id" ∷ decimal n ∷ []
words_of_reply (replies.Bytes bytes) = codes "bytes" ∷ hex_text bytes ∷ []
words_of_reply (replies.Mask mask) = codes "mask" ∷ decimal mask ∷ []
words_of_reply (replies.List numbers) = codes "list" ∷ type_word numbers.num_type ∷ map signed_decimal numbers.items
words_of_reply replies.Timeout = codes "timeout" ∷ []
words_of_reply (replies.Refused refusal) = codes "refused" ∷ decimal (refusal_number refusal) ∷ field_words refusal

-- the text of a reply: its words, one space between them
abbrev pub reply_text : Reply → List ℕ
reply_text reply = join_with_byte 32 (words_of_reply reply)

-- the numbers of a reply are in the ranges of their types
abbrev pub IsInRange : Reply → Type 0
IsInRange replies.Done = Unit {0}
IsInRange (replies.Value n) = n < 2 ^ 64
IsInRange (replies.Id n) = n < 2 ^ 32
IsInRange (replies.Bytes bytes) = IsBytes bytes
IsInRange (replies.Mask mask) = mask < 2 ^ 32
IsInRange (replies.List numbers) = AreInType numbers.num_type numbers.items
IsInRange replies.Timeout = Unit {0}
IsInRange (replies.Refused refusal) = AllByRecursion (λ n. n < 2 ^ 32) (refusal_fields refusal)

-- What words spell. Numbers may have leading zeros, bytes digits of either case, and zero a sign.

-- the words with which replies begin
abbrev pub reply_spelling : ReplyWord → List ℕ
reply_spelling words.Done = codes "done"
reply_spelling words.Value = codes "value"
reply_spelling words.Id = codes "id"
reply_spelling words.Bytes = codes "bytes"
reply_spelling words.Mask = codes "mask"
reply_spelling words.List = codes "list"
reply_spelling words.Timeout = codes "timeout"
reply_spelling words.Refused = codes "refused"

-- the reply's word with a spelling
unfoldable pub reply_word_of : List ℕ → Option ReplyWord
reply_word_of word =
    find (λ reply. bytes_eq (reply_spelling reply) word)
    (words.Done ∷ words.Value ∷ words.Id ∷ words.Bytes ∷ words.Mask ∷ words.List ∷ words.Timeout ∷ words.Refused ∷ [])

-- whether a reply has bytes or elements, which take memory as they are read
abbrev pub holds_items : ReplyWord → Bool
holds_items words.Done = false
holds_items words.Value = false
holds_items words.Id = false
holds_items words.Bytes = true
holds_items words.Mask = false
holds_items words.List = true
holds_items words.Timeout = false
holds_items words.Refused = false

-- whether reading these words as a reply may take memory
abbrev pub takes_memory : List (List ℕ) → Bool
takes_memory [] = false
takes_memory (word ∷ arguments) = option_map_or holds_items (reply_word_of word) false

-- a reply without a field
abbrev pub plain_reply : Reply → List (List ℕ) → Option Reply
plain_reply reply [] = Some reply
plain_reply reply (word ∷ words) = None

-- a reply with a number below 2^64
abbrev pub value_reply : List (List ℕ) → Option Reply
value_reply [] = None
value_reply (word ∷ []) = option_map replies.Value (number_of word)
value_reply (word ∷ next ∷ words) = None

-- a reply with bytes
abbrev pub bytes_reply : List (List ℕ) → Option Reply
bytes_reply [] = None
bytes_reply (word ∷ []) = option_map replies.Bytes (bytes_of word)
bytes_reply (word ∷ next ∷ words) = None

-- a reply with a type and numbers of it
abbrev pub list_reply : List (List ℕ) → Option Reply
list_reply [] = None
list_reply (word ∷ elements) = do
  num_type ← type_of word
  items ← elements_of num_type elements
  Some (replies.List (record { num_type = num_type; items = items }))

-- a refusal: its number and its fields
abbrev pub refused_reply : List (List ℕ) → Option Reply
refused_reply [] = None
refused_reply (word ∷ fields) = do
  number ← number_of word
  refusal ← refusal_of number fields
  Some (replies.Refused refusal)

-- the reply of a word and the words behind it
abbrev pub reply_with : ReplyWord → List (List ℕ) → Option Reply
reply_with words.Done arguments = plain_reply replies.Done arguments
reply_with words.Value arguments = value_reply arguments
reply_with words.Id arguments = option_map replies.Id (one_field arguments)
reply_with words.Bytes arguments = bytes_reply arguments
reply_with words.Mask arguments = option_map replies.Mask (one_field arguments)
reply_with words.List arguments = list_reply arguments
reply_with words.Timeout arguments = plain_reply replies.Timeout arguments
reply_with words.Refused arguments = refused_reply arguments

-- the reply that words spell
unfoldable pub reply_of : List (List ℕ) → Option Reply
reply_of [] = None
reply_of (word ∷ arguments) = do
  kind ← reply_word_of word
  reply_with kind arguments

-- whether a reply's words are its own and numbers in decimal alone
abbrev pub is_reply_numeric : Reply → Bool
is_reply_numeric replies.Done = true
is_reply_numeric (replies.Value n) = true
is_reply_numeric (replies.Id n) = true
is_reply_numeric (replies.Bytes bytes) = false
is_reply_numeric (replies.Mask mask) = true
is_reply_numeric (replies.List numbers) = false
is_reply_numeric replies.Timeout = true
is_reply_numeric (replies.Refused refusal) = false
