-- Texts that JSON writes as they are: no byte is escaped, and each is ASCII.
use Rattle.std.proofs.Common.{◌≡◌, ℕ, zero, suc, ◌+◌, ◌%◌, ◌^◌, ◌<◌, true, List, [], ◌∷◌, ◌++◌, codes, refl, ap₂, ◌∙◌, arith}
use Rattle.std.specs.Fmt.{decimal}
use Rattle.std.specs.List.{AllByRecursion, list_all, join_with_byte}
use Rattle.std.specs.Str.{IsAscii}
use Rattle.std.specs.Str.Lossy.{utf8_lossy}
use Rattle.std.proofs.lemmas.Bool.Decides.{nat_tests}
use Rattle.std.proofs.lemmas.Grind.{flat_map-append}
use Rattle.std.proofs.lemmas.List.Elements.{recursion_from_All}
use Rattle.std.proofs.lemmas.List.Sums.{AllPass-from_list_all}
use Rattle.std.proofs.lemmas.Str.{IsUtf8-from_ascii, utf8_lossy-IsUtf8}
use Rattle.std.proofs.lemmas.Fmt.{decimal_by_steps}
use Rattle.call_texts.specs.Words.{is_plain, IsPlainWord}
use Rattle.json.specs.Print.{escape_byte}
use Rattle.journal_pictures.specs.Diagram.{labelled}
use Rattle.journal_pictures.specs.JsonLines.{IsPlain}
use Rattle.journal_pictures.specs.Trace.{entry_id}

-- a byte that is written as it is
pub record IsBare (byte : ℕ) : Type 0 where
  pub escaped : escape_byte byte ≡ byte ∷ []
  pub ascii : byte < 128

abbrev pub AreBare : List ℕ → Type 0
AreBare text = AllByRecursion IsBare text

plain-byte : (byte : ℕ) → is_plain byte ≡ true → IsBare byte
unfolding is_plain escape_byte
plain-byte byte pass = record { escaped = grind (arith, nat_tests); ascii = grind (arith, nat_tests) }

space : IsBare 32
unfolding escape_byte
space = record { escaped = refl; ascii = omega arith }

point : IsBare 46
unfolding escape_byte
point = record { escaped = refl; ascii = omega arith }

plain-bytes : (word : List ℕ) → AllByRecursion (λ byte. is_plain byte ≡ true) word → AreBare word
plain-bytes [] plain = tt
plain-bytes (byte ∷ word) plain = (plain-byte byte plain.0, plain-bytes word plain.1)

pub plain-word : (word : List ℕ) → IsPlainWord word → AreBare word
plain-word word h = plain-bytes word (recursion_from_All (λ byte. is_plain byte ≡ true) word h.plain)

pub plain-words : (words : List (List ℕ)) → AllByRecursion IsPlainWord words → AllByRecursion AreBare words
plain-words [] h = tt
plain-words (word ∷ words) h = (plain-word word h.0, plain-words words h.1)

pub fixed-word : (word : List ℕ) → list_all is_plain word ≡ true → AreBare word
fixed-word word pass = plain-bytes word (recursion_from_All (λ byte. is_plain byte ≡ true) word (AllPass-from_list_all is_plain word pass))

pub bare-append : (text more : List ℕ) → AreBare text → AreBare more → AreBare (text ++ more)
bare-append [] more first second = second
bare-append (byte ∷ text) more first second = (first.0, bare-append text more first.1 second)

pub bare-join : (words : List (List ℕ)) → AllByRecursion AreBare words → AreBare (join_with_byte 32 words)
bare-join [] bare = tt
bare-join (word ∷ []) bare = bare.0
bare-join (word ∷ next ∷ words) bare = bare-append word (32 ∷ join_with_byte 32 (next ∷ words)) bare.0 (space, bare-join (next ∷ words) bare.1)

pub bare-plain : (text : List ℕ) → AreBare text → IsPlain text
bare-plain [] bare = refl
bare-plain (byte ∷ text) bare = ap₂ (λ (front rest : List ℕ). front ++ rest) bare.0.escaped (bare-plain text bare.1)

pub bare-ascii : (text : List ℕ) → AreBare text → IsAscii text
bare-ascii [] bare i = omega arith
bare-ascii (byte ∷ text) bare zero = bare.0.ascii
bare-ascii (byte ∷ text) bare (suc i) = bare-ascii text bare.1 i

pub bare-lossy : (text : List ℕ) → AreBare text → utf8_lossy text ≡ text
bare-lossy text bare = utf8_lossy-IsUtf8 text (IsUtf8-from_ascii text (bare-ascii text bare))

digit : (n : ℕ) → n < 10 → IsBare (48 + n)
unfolding escape_byte
digit n small = record { escaped = grind (arith, nat_tests); ascii = omega arith }

pub bare-decimal : (n : ℕ) → n < 2 ^ 64 → AreBare (decimal n)
bare-decimal = decimal_by_steps (λ n text. AreBare text) (λ n small. (digit n small, tt)) (λ n text large bare. bare-append text ((48 + n % 10) ∷ []) bare (digit (n % 10) (omega arith), tt))

-- which entry of which rank
pub bare-id : (origin number : ℕ) → origin < 2 ^ 64 → number < 2 ^ 64 → AreBare (entry_id origin number)
bare-id origin number small fits =
    bare-append (decimal origin ++ codes ".") (decimal number) (bare-append (decimal origin) (codes ".") (bare-decimal origin small) (point, tt)) (bare-decimal number fits)

-- plain texts one behind the other, as a label with a number behind it
pub plain-append : (text more : List ℕ) → IsPlain text → IsPlain more → IsPlain (text ++ more)
plain-append text more first second = flat_map-append escape_byte text more ∙ ap₂ (λ (front rest : List ℕ). front ++ rest) first second

pub plain-label : (label : List ℕ) (n : ℕ) → IsPlain label → n < 2 ^ 64 → IsPlain (labelled label n)
plain-label label n plain small = plain-append label (decimal n) plain (bare-plain (decimal n) (bare-decimal n small))

pub plain-id : (origin number : ℕ) → origin < 2 ^ 64 → number < 2 ^ 64 → IsPlain (entry_id origin number)
plain-id origin number small fits = bare-plain (entry_id origin number) (bare-id origin number small fits)
