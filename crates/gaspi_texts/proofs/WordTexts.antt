-- The words of a text that was put together from words.
use Rattle.std.proofs.Common.{◌≡◌, ℕ, ◌<◌, Bool, true, false, ◌==◌, nat_lt, List, [], ◌∷◌, length, refl, arith}
use Rattle.std.specs.List.{join_with_byte, All, AllByRecursion, AllPass}
use Rattle.std.proofs.lemmas.Bool.Decides.{nat_tests}
use Rattle.std.proofs.lemmas.List.Elements.{All-nil, All-cons, All-append, All-weaker}
use Rattle.call_texts.specs.Words.{is_blank, words_of, pieces_of, IsWord}
use Rattle.gaspi_texts.specs.CallLaws.{CallLaws}

-- the words of all texts that are written are of bytes behind the space
unfoldable pub is_graphic : ℕ → Bool
is_graphic byte = nat_lt 32 byte

pub record IsGraphic (word : List ℕ) : Type 0 where
  pub filled : 0 < length word
  pub graphic : AllPass is_graphic word

is_blank-graphic : (byte : ℕ) → is_graphic byte ≡ true → is_blank byte ≡ false
unfolding is_graphic
is_blank-graphic byte pass = grind (arith, nat_tests)

line_feed-graphic : (byte : ℕ) → is_graphic byte ≡ true → (byte == 10) ≡ false
unfolding is_graphic
line_feed-graphic byte pass = grind (arith, nat_tests)

are_words : (words : List (List ℕ)) → AllByRecursion IsGraphic words → AllByRecursion IsWord words
are_words [] h = tt
are_words (word ∷ words) h =
    (record { filled = h.0.filled; blankless = All-weaker (λ byte. is_graphic byte ≡ true) (λ byte. is_blank byte ≡ false) is_blank-graphic word h.0.graphic }, are_words words h.1)

pub words_of-graphic : CallLaws → (words : List (List ℕ)) → AllByRecursion IsGraphic words → words_of (join_with_byte 32 words) ≡ words
words_of-graphic laws words h = laws.words words (are_words words h)

pub pieces_of-graphic : CallLaws → (words : List (List ℕ)) → 0 < length words → AllByRecursion IsGraphic words → pieces_of (join_with_byte 32 words) ≡ words
pieces_of-graphic laws words filled h = laws.pieces words filled (are_words words h)

no_line_feed : (word : List ℕ) → IsGraphic word → All (λ byte. (byte == 10) ≡ false) word
no_line_feed word h = All-weaker (λ byte. is_graphic byte ≡ true) (λ byte. (byte == 10) ≡ false) line_feed-graphic word h.graphic

-- no text of such words has a line feed
pub join-no_line_feed : (words : List (List ℕ)) → AllByRecursion IsGraphic words → All (λ byte. (byte == 10) ≡ false) (join_with_byte 32 words)
join-no_line_feed [] h = All-nil (λ byte. (byte == 10) ≡ false)
join-no_line_feed (word ∷ []) h = no_line_feed word h.0
join-no_line_feed (word ∷ next ∷ words) h =
    All-append (λ byte. (byte == 10) ≡ false) word (32 ∷ join_with_byte 32 (next ∷ words)) (no_line_feed word h.0)
    (All-cons (λ byte. (byte == 10) ≡ false) 32 (join_with_byte 32 (next ∷ words)) refl (join-no_line_feed (next ∷ words) h.1))
