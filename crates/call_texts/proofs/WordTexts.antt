-- The words of a text that was put together from words.
use Rattle.std.proofs.Common.{◌≡◌, ℕ, ◌<◌, true, false, not, ◌==◌, List, [], ◌∷◌, length, refl, ap, ◌∙◌, arith}
use Rattle.std.specs.List.{filter, slice_split, join_with_byte, All, AllByRecursion}
use Rattle.std.proofs.lemmas.Bool.Decides.{nat_tests}
use Rattle.std.proofs.lemmas.List.Elements.{All-weaker}
use Rattle.std.proofs.lemmas.List.Splits.{slice_split_none, slice_split_at}
use Rattle.call_texts.specs.Words.{is_blank, words_of, pieces_of, IsWord, is_plain, IsPlainWord}

-- a piece that is not empty stays
filter-word : (word : List ℕ) (rest : List (List ℕ)) → 0 < length word
    → filter (λ w. not (length w == 0)) (word ∷ rest) ≡ word ∷ filter (λ w. not (length w == 0)) rest
filter-word word rest filled =
    let stays : not (length word == 0) ≡ true = grind (arith, nat_tests) in
    rw stays refl

pub words_of-join : (words : List (List ℕ)) → AllByRecursion IsWord words → words_of (join_with_byte 32 words) ≡ words
unfolding words_of
words_of-join [] h = refl
words_of-join (word ∷ []) h =
    ap (filter (λ w. not (length w == 0))) (slice_split_none is_blank word h.0.blankless) ∙ filter-word word [] h.0.filled
words_of-join (word ∷ next ∷ words) h =
    ap (filter (λ w. not (length w == 0))) (slice_split_at is_blank word 32 (join_with_byte 32 (next ∷ words)) h.0.blankless refl)
    ∙ filter-word word (slice_split is_blank (join_with_byte 32 (next ∷ words))) h.0.filled
    ∙ ap (λ ws. word ∷ ws) (words_of-join (next ∷ words) h.1)

-- a word has no space
spaceless : (word : List ℕ) → IsWord word → All (λ byte. (byte == 32) ≡ false) word
spaceless word h = All-weaker (λ byte. is_blank byte ≡ false) (λ byte. (byte == 32) ≡ false) (λ byte other. no-space byte other) word h.blankless
  where
    no-space : (byte : ℕ) → is_blank byte ≡ false → (byte == 32) ≡ false
    no-space byte other = grind (arith, nat_tests)

pub pieces_of-join : (words : List (List ℕ)) → 0 < length words → AllByRecursion IsWord words → pieces_of (join_with_byte 32 words) ≡ words
pieces_of-join [] filled h = absurd (omega arith)
pieces_of-join (word ∷ []) filled h = slice_split_none (λ byte. byte == 32) word (spaceless word h.0)
pieces_of-join (word ∷ next ∷ words) filled h =
    slice_split_at (λ byte. byte == 32) word 32 (join_with_byte 32 (next ∷ words)) (spaceless word h.0) refl
    ∙ ap (λ ws. word ∷ ws) (pieces_of-join (next ∷ words) (omega arith) h.1)

is_blank-plain : (byte : ℕ) → is_plain byte ≡ true → is_blank byte ≡ false
unfolding is_plain
is_blank-plain byte pass = grind (arith, nat_tests)

are_words : (words : List (List ℕ)) → AllByRecursion IsPlainWord words → AllByRecursion IsWord words
are_words [] h = tt
are_words (word ∷ words) h =
    (record { filled = h.0.filled; blankless = All-weaker (λ byte. is_plain byte ≡ true) (λ byte. is_blank byte ≡ false) is_blank-plain word h.0.plain }, are_words words h.1)

pub words_of-plain : (words : List (List ℕ)) → AllByRecursion IsPlainWord words → words_of (join_with_byte 32 words) ≡ words
words_of-plain words h = words_of-join words (are_words words h)
