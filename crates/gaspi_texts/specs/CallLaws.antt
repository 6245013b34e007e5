-- The laws of the texts of calls, as the laws of replies and events take them. No public contract speaks of it.
use Rattle.std.specs.Prelude.{◌≡◌, ◌^◌, ◌<◌, ℕ, ℤ, List, length, map, Some, true, false}
use Rattle.std.specs.Fmt.{decimal, signed_decimal}
use Rattle.std.specs.List.{AllByRecursion, join_with_byte}
use Rattle.hex.specs.Hex.{IsBytes}
use Rattle.gaspi_types.specs.NumberTypes.{AreInType}
use Rattle.gaspi_types.specs.declared.calls.Call.{Call}
use Rattle.gaspi_types.specs.declared.collectives.NumType.{NumType}
use Rattle.gaspi_types.specs.declared.collectives.Op.{Op}
use Rattle.call_texts.specs.CallText.{recorded_call_of, words_of_call, is_call_numeric, IsWritable}
use Rattle.call_texts.specs.Elements.{type_word, op_word, type_of, op_of, elements_of}
use Rattle.call_texts.specs.Hex.{bytes_of, hex_text}
use Rattle.call_texts.specs.Numbers.{is_numeral, number_of, value_of, has_leading_zero}
use Rattle.call_texts.specs.Words.{words_of, pieces_of, IsWord, IsPlainWord}

pub record CallLaws : Type 0 where
  pub joined : (text : List ℕ) → join_with_byte 32 (pieces_of text) ≡ text
  pub pieces : (words : List (List ℕ)) → 0 < length words → AllByRecursion IsWord words → pieces_of (join_with_byte 32 words) ≡ words
  pub words : (words : List (List ℕ)) → AllByRecursion IsWord words → words_of (join_with_byte 32 words) ≡ words
  pub number : (n : ℕ) → n < 2 ^ 64 → number_of (decimal n) ≡ Some n
  pub value : (n : ℕ) → n < 2 ^ 32 → value_of (decimal n) ≡ Some n
  pub bytes : (bytes : List ℕ) → IsBytes bytes → bytes_of (hex_text bytes) ≡ Some bytes
  pub num_type : (t : NumType) → type_of (type_word t) ≡ Some t
  pub op : (op : Op) → op_of (op_word op) ≡ Some op
  pub elements : (t : NumType) (items : List ℤ) → AreInType t items → elements_of t (map signed_decimal items) ≡ Some items
  pub call : (call : Call) → IsWritable call → recorded_call_of (words_of_call call) ≡ Some call
  pub number_range : (word : List ℕ) (n : ℕ) → number_of word ≡ Some n → n < 2 ^ 64
  pub value_range : (word : List ℕ) (n : ℕ) → value_of word ≡ Some n → n < 2 ^ 32
  pub bytes_range : (word bytes : List ℕ) → bytes_of word ≡ Some bytes → IsBytes bytes
  pub elements_range : (t : NumType) (words : List (List ℕ)) (items : List ℤ) → elements_of t words ≡ Some items → AreInType t items
  pub elements_counted : (t : NumType) (words : List (List ℕ)) (items : List ℤ) → elements_of t words ≡ Some items → length items ≡ length words
  pub call_range : (words : List (List ℕ)) (call : Call) → recorded_call_of words ≡ Some call → IsWritable call
  pub number_plain : (n : ℕ) → n < 2 ^ 64 → is_numeral (decimal n) ≡ true
  pub bytes_plain : (bytes : List ℕ) → IsBytes bytes → IsPlainWord (hex_text bytes)
  pub elements_plain : (t : NumType) (items : List ℤ) → AreInType t items → AllByRecursion IsPlainWord (map signed_decimal items)
  pub call_plain : (call : Call) → IsWritable call → AllByRecursion IsPlainWord (words_of_call call)
  pub leads : (n : ℕ) → n < 2 ^ 64 → has_leading_zero (decimal n) ≡ false
  pub number_written : (word : List ℕ) (n : ℕ) → number_of word ≡ Some n → has_leading_zero word ≡ false → decimal n ≡ word
  pub value_written : (word : List ℕ) (n : ℕ) → value_of word ≡ Some n → has_leading_zero word ≡ false → decimal n ≡ word
  pub call_written : (words : List (List ℕ)) (call : Call) → recorded_call_of words ≡ Some call → is_call_numeric call ≡ true
      → AllByRecursion (λ word. has_leading_zero word ≡ false) words → words_of_call call ≡ words
